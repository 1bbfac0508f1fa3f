-- The search for the lowest-numbered row that gives a literal: row by row, and in a row literal by literal.
use Rattle.meaning.proofs.Kit.{◌≡◌, ◌∙◌, ap, refl, ⊎_elim, true, false, Bool, ◌&&◌, ◌||◌, List, [], ◌∷◌, ◌≤◌, ℕ, ◌<◌, suc, ◌*◌, zero, ◌/◌, arith, eqb}
use Rattle.meaning.proofs.Kit.{ℤ, get_or, ne_eqb, eq-eqb}
use Rattle.meaning.specs.Tests.{all, member, none, first}
use Rattle.meaning.specs.Literals.{opp, has}
use Rattle.meaning.specs.Rounds.{gives, first_giver, support_at}
use Rattle.meaning.proofs.Tests.{true_or_false, false_of, clash, in_member}
use Rattle.meaning.proofs.Gives.{gives_words}
use Rattle.literals.specs.Row.{most_literals, numbers_at, decode, rows_in, Fit}
use Rattle.literals.proofs.Decoding.{length_rows, rows_at}
use Rattle.index.specs.Index.{Contains, Index}
use Rattle.findings.specs.Ranks.{below, support_from}
use Rattle.index.proofs.Following.{Along, along_end, along_row, along_link}
use Rattle.findings.proofs.Searching.{first_found, first_missing, first_same}

-- ---- one row that contains p

-- it gives p exactly if what is left of it says so
pub record Seen (known : List Bool) (p : ℕ) (row left : List ℕ) : Type 0 where
  is : gives known row p ≡ all (λ q. eqb q p || has known (opp q)) left

pub seen_none : {known : List Bool} {p : ℕ} {row : List ℕ} → member p row ≡ true → Seen known p row row
unfolding gives
seen_none {known} {p} {row} e = record { is = ap (λ t. t && all (λ q. eqb q p || has known (opp q)) row) e }

module _ {known : List Bool} {p : ℕ} {row left : List ℕ} {q : ℕ} (w : Seen known p row (q ∷ left)) where
  pub seen_same : q ≡ p → Seen known p row left
  seen_same e = record { is = rw (eq-eqb q p e) at w.is }

  pub seen_other : (q ≡ p → ⊥) → has known (opp q) ≡ true → Seen known p row left
  seen_other d h = record { is = rw (ne_eqb q p d, h) at w.is }

  pub seen_fails : (q ≡ p → ⊥) → has known (opp q) ≡ false → gives known row p ≡ false
  seen_fails d h = rw (ne_eqb q p d, h) at w.is

pub seen_all : {known : List Bool} {p : ℕ} {row : List ℕ} → Seen known p row [] → gives known row p ≡ true
seen_all w = w.is

-- ---- the rows of a table

giver_in : (known : List Bool) (table : List ℤ) (n p : ℕ)
    → first (λ r. gives known (decode (numbers_at table r)) p) n ≡ first_giver known (rows_in n table) p
unfolding first_giver
giver_in known table n p = rw (length_rows n table) (first_same n _ _ (λ r h. rw (rows_at n table r h)))

-- on the way along p's list: of the rows before the cell, those that contain p do not give it
abbrev pub Missed : List Bool → (used : ℕ) → List ℤ → (p cell : ℕ) → Type 0
Missed known used table p cell = Along used table p cell (λ r. gives known (decode (numbers_at table r)) p ≡ false)

-- nor do those that do not contain it
others : (known : List Bool) (table : List ℤ) (p r : ℕ) → (Contains table r p → gives known (decode (numbers_at table r)) p ≡ false)
    → gives known (decode (numbers_at table r)) p ≡ false
others known table p r of-those =
    let row = decode (numbers_at table r) in
    ⊎_elim of-those (λ n. false_of (gives known row p) (λ g. clash (in_member (gives_words known row p g).0) n)) (true_or_false (member p row))

module _ (known : List Bool) {places used : ℕ} {table : List ℤ} {heads links : List ℕ}
    (fit : Fit places used table) (index : Index places used table heads links) {p cell : ℕ} (w : Missed known used table p cell) where
  few : used ≤ none
  few = omega (arith, fit.2.rows)

  -- at the end no row gives p
  pub missed_all : most_literals * used ≤ cell → none ≡ first_giver known (rows_in used table) p
  missed_all past = first_missing _ used few (λ r h. others known table p r (λ m. along_end fit index w past r h m)) ∙ giver_in known table used p

  module _ (inside : cell < most_literals * used) where
    -- the cell's row is the first that does,
    pub missed_found : gives known (decode (numbers_at table (cell / most_literals))) p ≡ true
        → cell / most_literals ≡ first_giver known (rows_in used table) p
    missed_found here =
        let low = along_row fit index w inside in
        first_found _ used few (cell / most_literals) low (λ r h. others known table p r (λ m. w.passed r (omega arith) h m)) here
        ∙ giver_in known table used p

    -- or is passed too
    pub missed_more : gives known (decode (numbers_at table (cell / most_literals))) p ≡ false → Missed known used table p (get_or links cell 0)
    missed_more here = along_link fit index w inside (λ r h m. m) here

-- ---- the support that a table of ranks tells

module _ (rows : List (List ℕ)) (ranks : List ℕ) (p : ℕ) where
  pub support_from_held : get_or ranks p 0 ≡ 0 → none ≡ support_from rows ranks p
  unfolding support_from support_at
  support_from_held e = rw e

  pub support_from_none : get_or ranks p 0 ≡ none → none ≡ support_from rows ranks p
  unfolding support_from support_at
  support_from_none e = rw e

  pub support_from_row : (get_or ranks p 0 ≡ 0 → ⊥) → (get_or ranks p 0 ≡ none → ⊥)
      → first_giver (below (get_or ranks p 0) ranks) rows p ≡ support_from rows ranks p
  unfolding support_from
  support_from_row z n = go (get_or ranks p 0) z n
    where
      go : (r : ℕ) → (r ≡ 0 → ⊥) → (r ≡ none → ⊥) → first_giver (below r ranks) rows p ≡ support_at (λ k. below (suc k) ranks) rows r p
      go zero z n = absurd (z refl)
      go (suc k) z n = unfold support_at in rw (ne_eqb (suc k) none n)
