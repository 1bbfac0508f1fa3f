-- "Given at most 12 candidate literals, all different, and a literal to explain, it lists each set of candidates that, held alone under the table's
-- rules, derives the literal without conflict, while no smaller set inside it derives the literal." The list is `meaning`'s; here is the call.
use Rattle.std.specs.Prelude.{ℕ, ◌*◌, Bool, not, ◌||◌, List, [], ◌∷◌, leb, ℤ, length}
use Rattle.meaning.specs.Tests.{all}
use Rattle.smallest.specs.Smallest.{smallest}
use Rattle.literals.specs.Literal.{in_range, place_of}
use Rattle.literals.specs.declared.refusal.Refusal.TheVariants.{BadBoard, BadLiteral, BadCandidates, TableTooShort}
use Rattle.board.specs.Faults.{good_board, Fault, first_fault, if_done}
use Rattle.board.specs.Ranking.{rows_on}
use Rattle.board.specs.Settling.{over}
use Rattle.board.specs.declared.Board.{Board}
use Rattle.board.specs.Faults.{Outcome}
use Rattle.candidates.specs.Given.{too_many, places_of, repeats}
use Rattle.smallest.specs.declared.Listing.{Listing}

-- the list, on a board, of candidates by their places: "Premises held on the board don't count, and no furnace is named."
unfoldable pub smallest_at : List ℤ → Board → (places : List ℕ) → ℤ → List ℕ
smallest_at table b places l = smallest (2 * b.symbols) (rows_on table b) places (place_of l)

abbrev pub smallest_on : List ℤ → Board → (cands : List ℤ) → ℤ → List ℕ
smallest_on table b cands l = smallest_at table b (places_of cands) l

-- "13 exactly when the list is longer than the table lent": `room` is how many places are lent
abbrev pub room_faults : (list : List ℕ) → (room : ℕ) → List Fault
room_faults list room = record { given = not (leb (length list) room); refusal = TableTooShort } ∷ []

-- "17 for more than 12 candidates or a repeated one", then that: `many` is whether they are more than 12
abbrev pub candidate_faults : (many : Bool) → List ℤ → Board → (cands : List ℤ) → ℤ → (room : ℕ) → List Fault
candidate_faults many table b cands l room =
    record { given = many || repeats (places_of cands); refusal = BadCandidates } ∷ room_faults (smallest_on table b cands l) room

-- "Refusals: after 1, and 2 for any literal given", those
unfoldable pub smallest_faults : List ℤ → Board → (cands : List ℤ) → ℤ → (room : ℕ) → List Fault
smallest_faults table b cands l room =
    record { given = not (good_board table b); refusal = BadBoard }
    ∷ record { given = not (all (in_range b.symbols) (l ∷ cands)); refusal = BadLiteral }
    ∷ candidate_faults (too_many cands) table b cands l room

unfoldable pub smallest_outcome : List ℤ → Board → (cands : List ℤ) → ℤ → (sets : List ℕ) → Outcome
smallest_outcome table b cands l sets = first_fault (smallest_faults table b cands l (length sets))

-- "The call returns the count; places beyond the list stay as they were."
abbrev pub listed : Outcome → (list : List ℕ) → Listing
listed outcome list = record { outcome = outcome; count = if_done outcome (length list) (λ _. 0) }

unfoldable pub smallest_answer : List ℤ → Board → (cands : List ℤ) → ℤ → (sets : List ℕ) → Listing
smallest_answer table b cands l sets = listed (smallest_outcome table b cands l sets) (smallest_on table b cands l)

unfoldable pub smallest_sets : List ℤ → Board → (cands : List ℤ) → ℤ → (sets : List ℕ) → List ℕ
smallest_sets table b cands l sets = over (smallest_outcome table b cands l sets) (smallest_on table b cands l) sets
