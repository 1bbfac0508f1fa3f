-- Ground and blame: they write "2S bytes in the places that ranks use, 1 for each premise reached .., else 0".
use Rattle.std.specs.Prelude.{ℕ, ◌*◌, Bool, cond, not, List, [], ◌∷◌, map, leb, ℤ, length}
use Rattle.meaning.specs.Literals.{has, conflict}
use Rattle.meaning.specs.Ground.{ground, blame}
use Rattle.literals.specs.Literal.{in_range, place_of}
use Rattle.literals.specs.declared.refusal.Refusal.TheVariants.{BadBoard, BadLiteral, TableTooShort, NothingToShow, BadFurnace}
use Rattle.board.specs.Furnaces.{is_furnace, held_by}
use Rattle.board.specs.Faults.{good_board, Fault, first_fault}
use Rattle.board.specs.Settling.{over}
use Rattle.board.specs.Ranking.{rows_on, derived_on}
use Rattle.board.specs.declared.Board.{Board}
use Rattle.board.specs.Faults.{Outcome}

-- a premise that is reached as a byte
abbrev pub byte_of : Bool → ℕ
byte_of reached = cond reached 1 0

-- 12: "ground: not derived"; `lent` is how many places are lent
unfoldable pub ground_faults : List ℤ → Board → (furnace : ℕ) → ℤ → (lent : ℕ) → List Fault
ground_faults table b furnace l lent =
    record { given = not (good_board table b); refusal = BadBoard }
    ∷ record { given = not (is_furnace furnace); refusal = BadFurnace }
    ∷ record { given = not (in_range b.symbols l); refusal = BadLiteral }
    ∷ record { given = not (leb (2 * b.symbols) lent); refusal = TableTooShort }
    ∷ record { given = not (has (derived_on table b furnace) (place_of l)); refusal = NothingToShow }
    ∷ []

unfoldable pub ground_outcome : List ℤ → Board → (furnace : ℕ) → ℤ → (marks : List ℕ) → Outcome
ground_outcome table b furnace l marks = first_fault (ground_faults table b furnace l (length marks))

unfoldable pub ground_marks : List ℤ → Board → (furnace : ℕ) → ℤ → (marks : List ℕ) → List ℕ
ground_marks table b furnace l marks =
    over (ground_outcome table b furnace l marks) (map byte_of (ground (2 * b.symbols) (rows_on table b) (held_by b furnace) (place_of l))) marks

-- 12: "blame: no conflict"
unfoldable pub blame_faults : List ℤ → Board → (furnace : ℕ) → (lent : ℕ) → List Fault
blame_faults table b furnace lent =
    record { given = not (good_board table b); refusal = BadBoard }
    ∷ record { given = not (is_furnace furnace); refusal = BadFurnace }
    ∷ record { given = not (leb (2 * b.symbols) lent); refusal = TableTooShort }
    ∷ record { given = not (conflict (derived_on table b furnace)); refusal = NothingToShow }
    ∷ []

unfoldable pub blame_outcome : List ℤ → Board → (furnace : ℕ) → (marks : List ℕ) → Outcome
blame_outcome table b furnace marks = first_fault (blame_faults table b furnace (length marks))

unfoldable pub blame_marks : List ℤ → Board → (furnace : ℕ) → (marks : List ℕ) → List ℕ
blame_marks table b furnace marks =
    over (blame_outcome table b furnace marks) (map byte_of (blame b.symbols (rows_on table b) (held_by b furnace))) marks
