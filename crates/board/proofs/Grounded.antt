-- What ground and blame answer and write, where they are refused and where they are done.
use Rattle.meaning.proofs.Kit.{◌≡◌, ◌∙◌, sym, refl, true, false, Bool, ◌||◌, List, ◌++◌, map, ◌≤◌, ℕ, ◌<◌, ◌-◌, suc, ◌*◌, arith, ℤ, length, get_or}
use Rattle.meaning.proofs.Kit.{drop, length-map, list_get_or_append, list_get_or_map, lt-ltb, le-ltb}
use mathlib.Core.Bool.{or_self}
use Rattle.meaning.specs.Tests.{none, first}
use Rattle.meaning.specs.Literals.{has}
use Rattle.meaning.specs.Rounds.{ranks_of}
use Rattle.meaning.specs.Ground.{reaches, ground, blame}
use Rattle.meaning.proofs.Tables.{tabulate_same}
use Rattle.literals.specs.Literal.{place_of}
use Rattle.literals.specs.declared.refusal.Refusal.{Refusal}
use Rattle.findings.specs.Ranks.{clash_in, earliest_in}
use Rattle.findings.specs.Reach.{reached_from, reached_asked}
use Rattle.findings.proofs.Clashes.{earliest_is_blamed, earliest_some}
use Rattle.board.specs.Furnaces.{held_by}
use Rattle.board.specs.Ranking.{rows_on}
use Rattle.board.specs.Grounds.{byte_of, ground_outcome, ground_marks, blame_outcome, blame_marks}
use Rattle.board.specs.declared.Board.{Board}
use Rattle.std.specs.Prelude.{Ok, Err}

-- ---- marks as bytes

-- those written over the front of a table: each is its literal's
pub mark_at_lem : (set : List Bool) (rest : List ℕ) (p : ℕ) → p < length set → get_or (map byte_of set ++ rest) p 0 ≡ byte_of (has set p)
mark_at_lem set rest p h = list_get_or_append (map byte_of set) rest 0 p (omega (arith, length-map set byte_of)) ∙ list_get_or_map byte_of set p false

pub byte_one : (b : Bool) → byte_of b ≡ 1 → b ≡ true
byte_one true e = refl
byte_one false e = absurd (omega arith)

-- ---- what is reached

-- from a literal's place: its ground
asked_ground : (places : ℕ) (rows : List (List ℕ)) (held : List Bool) (p : ℕ) → p < places
    → reached_asked places rows held p ≡ ground places rows held p
unfolding reached_asked reached_from ground
asked_ground places rows held p low =
    rw (lt-ltb p places low)
    (tabulate_same false places places (λ h. reaches places rows held p h || reaches places rows held p h) (reaches places rows held p) refl
    (λ h k. or_self (reaches places rows held p h)))

-- from no place: what blame marks, where there is a conflict
asked_blame : (symbols : ℕ) (rows : List (List ℕ)) (held : List Bool) (p : ℕ) → 2 * symbols < none → 2 * symbols ≤ p
    → (first (clash_in (ranks_of (2 * symbols) rows held)) symbols ≡ none → ⊥)
    → reached_asked (2 * symbols) rows held p ≡ blame symbols rows held
unfolding reached_asked reached_from blame
asked_blame symbols rows held p small high some =
    let s = earliest_in (ranks_of (2 * symbols) rows held) in
    let low = earliest_some symbols rows held small some in
    let pair : 2 * (suc s - 1) ≡ 2 * s = omega arith in
    rw (le-ltb p (2 * symbols) high, lt-ltb s none (omega arith), ← earliest_is_blamed symbols rows held small, pair)

module _ (table : List ℤ) (b : Board) (furnace : ℕ) (marks : List ℕ) where
  abbrev rows : List (List ℕ)
  rows = rows_on table b

  -- the bytes of what is marked, over the front of `marks`
  written : {marked new : List Bool} {after : List ℕ} → marked ≡ new → after ≡ map byte_of marked ++ drop (length marked) marks
      → after ≡ map byte_of new ++ drop (length (map byte_of new)) marks
  written {marked} {new} same is = is ∙ rw (same, length-map new byte_of)

  -- ---- ground

  module _ (l : ℤ) where
    pub ground_refused : (why : Refusal) → ground_outcome table b furnace l marks ≡ Err why
        → (Err why ≡ ground_outcome table b furnace l marks) × (marks ≡ ground_marks table b furnace l marks)
    unfolding ground_marks
    ground_refused why e = (sym e, rw e)

    pub ground_done : (p : ℕ) {marked : List Bool} {after : List ℕ} → p ≡ place_of l → p < 2 * b.symbols
        → ground_outcome table b furnace l marks ≡ Ok tt
        → marked ≡ reached_asked (2 * b.symbols) (rows_on table b) (held_by b furnace) p → after ≡ map byte_of marked ++ drop (length marked) marks
        → ((Ok tt) ≡ ground_outcome table b furnace l marks) × (after ≡ ground_marks table b furnace l marks)
    unfolding ground_marks
    ground_done p at low e reached is = (sym e, rw (e, ← at) (written (reached ∙ asked_ground (2 * b.symbols) rows (held_by b furnace) p low) is))

  -- ---- blame

  pub blame_refused : (why : Refusal) → blame_outcome table b furnace marks ≡ Err why
      → (Err why ≡ blame_outcome table b furnace marks) × (marks ≡ blame_marks table b furnace marks)
  unfolding blame_marks
  blame_refused why e = (sym e, rw e)

  pub blame_done : (p : ℕ) {marked : List Bool} {after : List ℕ} → 2 * b.symbols < none → 2 * b.symbols ≤ p
      → (first (clash_in (ranks_of (2 * b.symbols) (rows_on table b) (held_by b furnace))) b.symbols ≡ none → ⊥)
      → blame_outcome table b furnace marks ≡ Ok tt
      → marked ≡ reached_asked (2 * b.symbols) (rows_on table b) (held_by b furnace) p → after ≡ map byte_of marked ++ drop (length marked) marks
      → ((Ok tt) ≡ blame_outcome table b furnace marks) × (after ≡ blame_marks table b furnace marks)
  unfolding blame_marks
  blame_done p small high some e reached is =
      (sym e, rw e (written (reached ∙ asked_blame b.symbols rows (held_by b furnace) p small high some) is))
