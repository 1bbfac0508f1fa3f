-- What the call answers, by the notes and by the tests that it has made.
use Rattle.meaning.proofs.Kit.{◌≡◌, ◌∙◌, ap, true, false, List, ◌∷◌, ◌++◌, ◌≤◌, ℕ, ◌<◌, ◌+◌, suc, ◌*◌, arith, ℤ, length, drop, sets, sets-eq, le-leb}
use Rattle.meaning.proofs.Kit.{lt-leb}
use Rattle.meaning.specs.Tests.{all, keep, from}
use Rattle.literals.specs.Literal.{in_range, place_of}
use Rattle.literals.specs.declared.refusal.Refusal.{Refusal}
use Rattle.literals.specs.declared.refusal.Refusal.TheVariants.{BadBoard, BadLiteral, TableTooShort}
use Rattle.board.specs.Faults.{first_fault, good_board}
use Rattle.board.specs.Settling.{over}
use Rattle.board.specs.Ranking.{rows_on}
use Rattle.board.specs.declared.Board.{Board}
use Rattle.board.specs.Faults.{Outcome}
use Rattle.std.specs.Prelude.{Ok, Err}
use Rattle.candidates.specs.Given.{too_many}
use Rattle.smallest.specs.Listing.{smallest_at, smallest_on, room_faults, candidate_faults, listed, smallest_faults, smallest_outcome, smallest_answer}
use Rattle.smallest.specs.Listing.{smallest_sets}
use Rattle.smallest.specs.declared.search.Note.{Note}
use Rattle.smallest.specs.Search.{notes_of, listed_in, listed_below}
use Rattle.smallest.specs.declared.Listing.{Listing}
use Rattle.smallest.proofs.Notes.{listed_are, counted}

-- ---- the answer by an outcome, and the table lent after it

pub record Told (outcome : Outcome) (list lent now : List ℕ) (answer : Listing) : Type 0 where
  pub answered : answer ≡ listed outcome list
  pub written : now ≡ over outcome list lent

-- of an outcome and a list that are the same
pub told_as : {o p : Outcome} {list other lent now : List ℕ} {answer : Listing} → o ≡ p → list ≡ other → Told o list lent now answer
    → Told p other lent now answer
told_as e f t = record { answered = rw (← e, ← f) t.answered; written = rw (← e, ← f) t.written }

pub told_refused : {outcome : Outcome} (why : Refusal) (list lent : List ℕ) → outcome ≡ Err why
    → Told outcome list lent lent (record { outcome = Err why; count = 0 })
told_refused why list lent e = record { answered = rw e; written = rw e }

-- 13, or the list from the front
abbrev pub by_room : (list lent : List ℕ) → Outcome
by_room list lent = first_fault (room_faults list (length lent))

module _ (list lent : List ℕ) where
  pub told_short : length lent < length list → Told (by_room list lent) list lent lent (record { outcome = Err TableTooShort; count = 0 })
  told_short h = told_refused TableTooShort list lent (rw (lt-leb (length list) (length lent) h))

  pub told_list : length list ≤ length lent → Told (by_room list lent) list lent (sets lent 0 list) (record { outcome = Ok tt; count = length list })
  told_list h =
      let e = le-leb (length list) (length lent) h in
      let from_front : 0 + length list ≡ length list = omega arith in
      let front : sets lent 0 list ≡ list ++ drop (length list) lent =
      sets-eq list lent 0 (omega arith) ∙ ap (λ (k : ℕ). list ++ drop k lent) from_front in
      record { answered = rw e; written = front ∙ rw e }

-- ---- by the notes

module _ (table : List ℤ) (b : Board) (places : List ℕ) (l : ℤ) {notes : List Note}
    (e : notes ≡ notes_of (2 * b.symbols) (rows_on table b) places (place_of l)) where
  pub as_many : length (keep (listed_in notes) (from 0 (length notes))) ≡ length (smallest_at table b places l)
  unfolding smallest_at
  as_many = ap (λ (ns : List Note). length (keep (listed_in ns) (from 0 (length ns)))) e ∙ counted (2 * b.symbols) (rows_on table b) places (place_of l)

  pub the_list : listed_below notes (length places) (suc (length places)) ≡ smallest_at table b places l
  unfolding smallest_at
  the_list =
      ap (λ (ns : List Note). listed_below ns (length places) (suc (length places))) e ∙ listed_are (2 * b.symbols) (rows_on table b) places (place_of l)

-- ---- 1, 2, or those

module _ (table : List ℤ) (b : Board) (cands : List ℤ) (l : ℤ) (lent : List ℕ) where
  pub bad_board : good_board table b ≡ false → smallest_outcome table b cands l lent ≡ Err BadBoard
  unfolding smallest_outcome smallest_faults
  bad_board e = rw e

  module _ (good : good_board table b ≡ true) where
    pub bad_literal : all (in_range b.symbols) (l ∷ cands) ≡ false → smallest_outcome table b cands l lent ≡ Err BadLiteral
    unfolding smallest_outcome smallest_faults
    bad_literal e = rw (good, e)

    pub literals_given : all (in_range b.symbols) (l ∷ cands) ≡ true
        → smallest_outcome table b cands l lent ≡ first_fault (candidate_faults (too_many cands) table b cands l (length lent))
    unfolding smallest_outcome smallest_faults
    literals_given e = rw (good, e)

  -- the contract's two equations
  pub contract : {now : List ℕ} {answer : Listing} → Told (smallest_outcome table b cands l lent) (smallest_on table b cands l) lent now answer
      → (answer ≡ smallest_answer table b cands l lent) × (now ≡ smallest_sets table b cands l lent)
  unfolding smallest_answer smallest_sets
  contract t = (t.answered, t.written)
