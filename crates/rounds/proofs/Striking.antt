-- Laws of the rows' counts: what striking one does, and what the way along a literal's list leaves behind.
use Rattle.meaning.proofs.Kit.{◌≡◌, ◌∙◌, sym, ap, refl, subst, ⊎_elim, inl, inr, ◌⊎◌, cond, List, ◌≤◌, ℕ, ◌<◌, ◌-◌, ◌*◌, ◌/◌, arith, ltb, ℤ, length}
use Rattle.meaning.proofs.Kit.{get_or, set, get_or-set_other, get_or-set_same, lt-ltb, le-ltb}
use Rattle.meaning.specs.Tests.{none}
use Rattle.meaning.specs.Rounds.{gives}
use Rattle.meaning.proofs.Tables.{le_or_lt}
use Rattle.literals.specs.Row.{most_literals, numbers_at, decode, Fit}
use Rattle.index.specs.Index.{Contains, Index}
use Rattle.findings.specs.Ranks.{below}
use Rattle.findings.proofs.Queueing.{same_or_not}
use Rattle.rounds.specs.Ranks.{mark}
use Rattle.rounds.specs.Visits.{Looked, struck, Struck}
use Rattle.index.proofs.Following.{Along, along_head, along_end, along_row, along_contains, along_rises, along_linked, along_link}
use Rattle.rounds.proofs.Looking.{looked_none, looked_one, looked_more, looked_less}

-- ---- one count

pub struck_more : (n : ℕ) → 2 < n → struck n ≡ n - 1
unfolding struck
struck_more n h = rw (lt-ltb 2 n h)

pub struck_few : (n : ℕ) → n ≤ 2 → struck n ≡ 1
unfolding struck
struck_few n h = rw (le-ltb 2 n h)

-- it is at most one, or below what it was
abbrev Fallen : (new old : ℕ) → Type 0
Fallen new old = (new ≤ 1) ⊎ (new < old)

fallen_struck : (n old : ℕ) → (n ≡ old) ⊎ Fallen n old → Fallen (struck n) old
fallen_struck n old was =
    ⊎_elim (λ h. inl (omega (arith, struck_few n h)))
    (λ h. (let one = struck_more n h in
    ⊎_elim (λ e. inr (omega (arith, one, h, e))) (⊎_elim (λ e. absurd (omega (arith, h, e))) (λ e. inr (omega (arith, one, h, e)))) was))
    (le_or_lt n 2)

-- ---- along a list

-- the way along p's list has come to a cell: the counts of the rows before it that contain p have fallen, the others are as they were
-- unless they fell too, and those of the rows before it that count at most one were looked at
pub record Visited (k used : ℕ) (table : List ℤ) (p : ℕ) (old ranks : List ℕ) (cell : ℕ) (new after : List ℕ) : Type 0 where
  pub way : Along used table p cell (λ r. Fallen (get_or new r 0) (get_or old r 0))
  pub others : (r : ℕ) → (get_or new r 0 ≡ get_or old r 0) ⊎ (Contains table r p × Fallen (get_or new r 0) (get_or old r 0))
  pub looked : Looked k used table (λ r. (r < cell / most_literals) × Contains table r p × (get_or new r 0 ≤ 1)) ranks after

module _ {places used : ℕ} {table : List ℤ} {heads links : List ℕ} (fit : Fit places used table) (index : Index places used table heads links)
    {k p : ℕ} {old ranks : List ℕ} where
  -- at the head nothing was done
  pub visited_none : p < places → Visited k used table p old ranks (get_or heads p 0) old ranks
  visited_none low =
      let clear : Along used table p (get_or heads p 0) (λ r. ⊥) = along_head fit index low in
      record {
        way = along_head fit index low;
        others = λ r. inl refl;
        looked = looked_none (λ r h d. clear.passed r h d.0 d.1);
      }

  module _ {cell : ℕ} {new after : List ℕ} (w : Visited k used table p old ranks cell new after) where
    -- the list rises
    pub visited_rises : cell < most_literals * used → cell < get_or links cell 0
    visited_rises inside = along_rises fit index w.way inside

    pub visited_linked : cell < most_literals * used → cell < length links
    visited_linked inside = along_linked fit index w.way inside

    -- one cell more: its row is struck
    module _ (inside : cell < most_literals * used) (long : length new ≡ used) {next : List ℕ}
        (is : next ≡ set new (cell / most_literals) (struck (get_or new (cell / most_literals) 0))) where
      abbrev row : ℕ
      row = cell / most_literals

      abbrev n : ℕ
      n = get_or new row 0

      here : get_or next row 0 ≡ struck n
      here = ap (λ x. get_or x row 0) is ∙ get_or-set_same new row (struck n) 0 (omega (arith, along_row fit index w.way inside, long))

      there : (r : ℕ) → (r ≡ row → ⊥) → get_or next r 0 ≡ get_or new r 0
      there r d = ap (λ x. get_or x r 0) is ∙ get_or-set_other new row r (struck n) 0 d

      -- the row's count falls,
      falls : Fallen (get_or next row 0) (get_or old row 0)
      falls = rw here (fallen_struck n (get_or old row 0) (⊎_elim (λ e. inl e) (λ f. inr f.1) (w.others row)))

      -- and to one only where two literals or fewer were left
      falls_low : get_or next row 0 ≤ 1 → n ≤ 2
      falls_low low = ⊎_elim (λ h. h) (λ h. absurd (omega (arith, low, here, struck_more n h, h))) (le_or_lt n 2)

      -- of the rows before the next cell, one is that of the cell, and the others that contain p are before it
      reached : (r : ℕ) → r < used → r < get_or links cell 0 / most_literals → Contains table r p → (r < row) ⊎ (r ≡ row)
      reached =
          let both : Along used table p (get_or links cell 0) (λ r. (r < row) ⊎ (r ≡ row)) =
          along_link fit index w.way inside (λ r b f. inl b) (inr refl) in
          both.passed

      -- it is looked at where two literals or fewer were left
      pub visited_more : {last : List ℕ} → k < none
          → last ≡ cond (ltb 2 (get_or new (cell / most_literals) 0)) after
          (mark k (gives (below k after) (decode (numbers_at table (cell / most_literals)))) after)
          → Visited k used table p old ranks (get_or links cell 0) next last
      visited_more {last} small given =
          record {
            way = along_link fit index w.way inside (λ r b f. rw (there r (λ e. omega (arith, b, e))) f) falls;
            others = λ r. ⊎_elim
                (λ e. inr (rw e (along_contains fit index w.way inside, falls)))
                (λ d. rw (there r d) (w.others r))
                (same_or_not r row);
            looked = ⊎_elim few more (le_or_lt n 2);
          }
        where
          Due : ℕ → Type 0
          Due r = (r < get_or links cell 0 / most_literals) × Contains table r p × (get_or next r 0 ≤ 1)

          few : n ≤ 2 → Looked k used table Due ranks last
          few h =
              looked_more small w.looked (looked_one row (along_row fit index w.way inside) (rw (le-ltb 2 n h) at given))
              (λ r b d. ⊎_elim (λ z. inl (z, d.1, rw (there r (λ e. omega (arith, z, e))) at d.2)) (λ z. inr z) (reached r b d.0 d.1))

          more : 2 < n → Looked k used table Due ranks last
          more h =
              subst (λ x. Looked k used table Due ranks x) (sym (rw (lt-ltb 2 n h) at given))
              (looked_less w.looked
              (λ r b d. ⊎_elim
              (λ z. (z, d.1, rw (there r (λ e. omega (arith, z, e))) at d.2))
              (λ z. absurd (omega (arith, h, falls_low (rw z at d.2))))
              (reached r b d.0 d.1)))

    -- at the end all rows that contain p are behind
    pub visited_looked : most_literals * used ≤ cell → Looked k used table (λ r. Contains table r p × (get_or new r 0 ≤ 1)) ranks after
    visited_looked past = looked_less w.looked (λ r h d. (omega (arith, h, past), d.0, d.1))

    pub visited_struck : most_literals * used ≤ cell → Struck used table p old new
    visited_struck past =
        record {
          less = λ r h m. along_end fit index w.way past r h m;
          same = λ r. ⊎_elim (λ e. inl e) (λ f. inr f.0) (w.others r);
        }
