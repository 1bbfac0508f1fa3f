-- Rows looked at one after the other give what all rows give, where those are among them that can give something new.
use Rattle.meaning.proofs.Kit.{◌≡◌, ◌∙◌, sym, ap, refl, ⊎_elim, ◌⊎◌, true, false, Bool, ◌&&◌, ◌||◌, or-false, List, [], ◌∷◌, ◌++◌, In, here, there}
use Rattle.meaning.proofs.Kit.{in_nil, in_append_left, in_append_right, ◌≤◌, ℕ, ◌<◌, suc, zero, not-suc-le-zero, le_of_suc-le-suc, arith, eqb, ℤ}
use Rattle.meaning.proofs.Kit.{length, get_or}
use mathlib.Core.List.Memᴰ
use Rattle.meaning.specs.Tests.{member, none, tabulate}
use Rattle.meaning.specs.Literals.{opp, has}
use Rattle.meaning.specs.Rounds.{gives, by_rows}
use Rattle.meaning.proofs.Tests.{same_test, any_found, any_at, any_append}
use Rattle.meaning.proofs.Tables.{tabulate_in}
use Rattle.literals.specs.Row.{numbers_at, decode, rows_in}
use Rattle.findings.specs.Ranks.{below}
use Rattle.rounds.specs.Ranks.{mark, ranks_after}
use Rattle.rounds.specs.Visits.{Looked}
use Rattle.rounds.proofs.Marking.{mark_as, mark_mark, mark_open, mark_same, mark_never, below_mark}

-- ---- the rows of a table

in_tabulate : {A : Type 0} (n : ℕ) (f : ℕ → A) (i : ℕ) → i < n → In (f i) (tabulate n f)
in_tabulate zero f i h = absurd (not-suc-le-zero h)
in_tabulate (suc n) f zero h = here refl
in_tabulate (suc n) f (suc i) h = there (in_tabulate n (λ j. f (suc j)) i (le_of_suc-le-suc h))

pub row_of : (used : ℕ) (table : List ℤ) (r : ℕ) → r < used → In (decode (numbers_at table r)) (rows_in used table)
unfolding rows_in
row_of used table r h = in_tabulate used (λ i. decode (numbers_at table i)) r h

of_row : (used : ℕ) (table : List ℤ) {row : List ℕ} → In row (rows_in used table) → (r : ℕ) × (r < used) × (row ≡ decode (numbers_at table r))
unfolding rows_in
of_row used table m = tabulate_in used (λ i. decode (numbers_at table i)) m

-- a row of at most one literal gives what it contains, whatever is known
gives_lone : (known : List Bool) (row : List ℕ) (p : ℕ) → length row ≤ 1 → gives known row p ≡ member p row
unfolding gives
gives_lone known [] p h = refl
gives_lone known (q ∷ []) p h = go (eqb q p)
  where
    go : (t : Bool) → ((t || false) && ((t || has known (opp q)) && true)) ≡ (t || false)
    go true = refl
    go false = refl
gives_lone known (q ∷ x ∷ row) p h = absurd (omega arith)

-- ---- rows one after the other

module _ {k used : ℕ} {table : List ℤ} {l : List ℕ} where
  pub looked_none : {Due : ℕ → Type 0} → ((r : ℕ) → r < used → Due r → ⊥) → Looked k used table Due l l
  looked_none never = record { seen = []; among = λ row m. absurd (in_nil m); due = λ r h d. absurd (never r h d); is = mark_never k _ l (λ p. refl) }

  -- one row
  pub looked_one : (r : ℕ) → r < used → {m : List ℕ} → m ≡ mark k (gives (below k l) (decode (numbers_at table r))) l
      → Looked k used table (λ i. i ≡ r) l m
  looked_one r h e =
      record {
        seen = decode (numbers_at table r) ∷ [];
        among = λ row m. rw (Memᴰ.eq_of_singleton m) (row_of used table r h);
        due = λ i b d. here (ap (λ x. decode (numbers_at table x)) d);
        is = e ∙ mark_same k _ _ l (λ p. sym (or-false (gives (below k l) (decode (numbers_at table r)) p)));
      }

  -- one row of at most one literal
  pub looked_lone : (r : ℕ) → r < used → {m : List ℕ} → length (decode (numbers_at table r)) ≤ 1
      → m ≡ mark k (λ p. member p (decode (numbers_at table r))) l → Looked k used table (λ i. i ≡ r) l m
  looked_lone r h lone e = looked_one r h (mark_as k _ _ l e (λ p. gives_lone (below k l) (decode (numbers_at table r)) p lone))

  -- some rows and then others
  pub looked_more : {D E F : ℕ → Type 0} {m n : List ℕ} → k < none → Looked k used table D l m → Looked k used table E m n
      → ((r : ℕ) → r < used → F r → D r ⊎ E r) → Looked k used table F l n
  looked_more {m} {n} small v w split =
      record {
        seen = v.seen ++ w.seen;
        among = λ row x. ⊎_elim (λ y. v.among row y) (λ y. w.among row y) (Memᴰ.append_cases v.seen x);
        due = λ r h d. ⊎_elim (λ y. in_append_left w.seen (v.due r h y)) (λ y. in_append_right v.seen (w.due r h y)) (split r h d);
        is = w.is ∙ ap (λ x. mark k (by_rows w.seen (below k m)) x) v.is
            ∙ mark_mark k (by_rows v.seen (below k l)) (by_rows w.seen (below k m)) l small
            ∙ mark_same k _ _ l (λ p. rw same (sym (any_append (λ row. gives (below k l) row p) v.seen w.seen)));
      }
    where
      same : below k m ≡ below k l
      same = ap (below k) v.is ∙ below_mark k _ l small

  -- no fewer rows are due
  pub looked_less : {D F : ℕ → Type 0} {m : List ℕ} → Looked k used table D l m → ((r : ℕ) → r < used → F r → D r) → Looked k used table F l m
  looked_less w less = record { seen = w.seen; among = w.among; due = λ r h d. w.due r h (less r h d); is = w.is }

  -- those that can give something new are all that are needed
  pub looked_all : {D : ℕ → Type 0} {m : List ℕ} → Looked k used table D l m
      → ((r p : ℕ) → r < used → p < length l → get_or l p 0 ≡ none → gives (below k l) (decode (numbers_at table r)) p ≡ true → D r)
      → m ≡ ranks_after k (rows_in used table) l
  unfolding ranks_after
  looked_all w needed =
      w.is ∙ mark_open k _ _ l (λ p b n. same_test (by_rows w.seen (below k l) p) (by_rows (rows_in used table) (below k l) p) (to p) (back p b n))
    where
      to : (p : ℕ) → by_rows w.seen (below k l) p ≡ true → by_rows (rows_in used table) (below k l) p ≡ true
      to p e =
          let f = any_found (λ row. gives (below k l) row p) w.seen e in
          any_at (λ row. gives (below k l) row p) (w.among f.0 f.1) f.2

      back : (p : ℕ) → p < length l → get_or l p 0 ≡ none → by_rows (rows_in used table) (below k l) p ≡ true → by_rows w.seen (below k l) p ≡ true
      back p b n e =
          let f = any_found (λ row. gives (below k l) row p) (rows_in used table) e in
          let r = of_row used table f.1 in
          let g : gives (below k l) (decode (numbers_at table r.0)) p ≡ true = rw r.2 at f.2 in
          any_at (λ row. gives (below k l) row p) (w.due r.0 r.1 (needed r.0 p r.1 b n g)) g
