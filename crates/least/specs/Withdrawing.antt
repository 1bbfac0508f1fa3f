-- "The furnace foreman gets a conflict and a list of readings he may strike off, at most 12, all held. Give the smallest set of them whose withdrawal
-- ends the conflict; of equal size, the one with the smallest number in the spelling of Ticket 10; the empty set if there is no conflict. Nothing is
-- changed." The set is `meaning`'s; here is the call.
use Rattle.std.specs.Prelude.{ℕ, ◌*◌, Bool, not, ◌||◌, List, [], ◌∷◌, ℤ}
use Rattle.meaning.specs.Tests.{all, none}
use Rattle.meaning.specs.Literals.{has, conflict}
use Rattle.meaning.specs.Rounds.{derived}
use Rattle.meaning.specs.Ground.{struck_off}
use Rattle.least.specs.Least.{least}
use Rattle.literals.specs.Literal.{in_range}
use Rattle.literals.specs.declared.refusal.Refusal.TheVariants.{BadBoard, BadLiteral, NotHeld, BadFurnace, BadCandidates, ConflictStays}
use Rattle.board.specs.Furnaces.{is_furnace, held_by}
use Rattle.board.specs.Faults.{good_board, Fault, first_fault, if_done}
use Rattle.board.specs.Ranking.{rows_on}
use Rattle.board.specs.declared.Board.{Board}
use Rattle.board.specs.Faults.{Outcome}
use Rattle.candidates.specs.Given.{too_many, places_of, repeats}
use Rattle.least.specs.declared.Withdrawal.{Withdrawal}

-- withdrawing these premises of the furnace "leaves the conflict"
abbrev pub leaves_conflict : List ℤ → Board → (furnace : ℕ) → (gone : List ℕ) → Bool
leaves_conflict table b furnace gone = conflict (derived (2 * b.symbols) (rows_on table b) (struck_off (held_by b furnace) gone))

-- the set, of candidates by their places
unfoldable pub least_at : List ℤ → Board → (furnace : ℕ) → (places : List ℕ) → ℕ
least_at table b furnace places = least (2 * b.symbols) (rows_on table b) (held_by b furnace) places

-- "18 exactly when withdrawing all of them leaves the conflict"
abbrev pub stay_faults : List ℤ → Board → (furnace : ℕ) → (places : List ℕ) → List Fault
stay_faults table b furnace places = record { given = leaves_conflict table b furnace places; refusal = ConflictStays } ∷ []

-- "11 if one isn't held", then that
abbrev pub held_faults : List ℤ → Board → (furnace : ℕ) → (places : List ℕ) → List Fault
held_faults table b furnace places =
    record { given = not (all (has (held_by b furnace)) places); refusal = NotHeld } ∷ stay_faults table b furnace places

-- "17 as in Ticket 10", then those: `many` is whether they are more than 12
abbrev pub candidate_faults : (many : Bool) → List ℤ → Board → (furnace : ℕ) → (cands : List ℤ) → List Fault
candidate_faults many table b furnace cands =
    record { given = many || repeats (places_of cands); refusal = BadCandidates } ∷ held_faults table b furnace (places_of cands)

-- "Refusals: after 1, 16 and 2", those
unfoldable pub least_faults : List ℤ → Board → (furnace : ℕ) → (cands : List ℤ) → List Fault
least_faults table b furnace cands =
    record { given = not (good_board table b); refusal = BadBoard }
    ∷ record { given = not (is_furnace furnace); refusal = BadFurnace }
    ∷ record { given = not (all (in_range b.symbols) cands); refusal = BadLiteral }
    ∷ candidate_faults (too_many cands) table b furnace cands

-- the set, and none where it is refused
abbrev pub withdrawal : Outcome → (set : ℕ) → Withdrawal
withdrawal outcome set = record { outcome = outcome; set = if_done outcome set (λ _. none) }

unfoldable pub least_answer : List ℤ → Board → (furnace : ℕ) → (cands : List ℤ) → Withdrawal
least_answer table b furnace cands = withdrawal (first_fault (least_faults table b furnace cands)) (least_at table b furnace (places_of cands))
