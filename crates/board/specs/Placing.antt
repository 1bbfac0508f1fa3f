-- The place of the literal that a call is given: "1, then 2 for a given literal", and 16 "just after 1".
use Rattle.std.specs.Prelude.{Result, Ok, Err, ℕ, cond, List, ℤ}
use Rattle.literals.specs.Literal.{in_range, place_of}
use Rattle.literals.specs.declared.refusal.Refusal.TheVariants.{BadBoard, BadLiteral, BadFurnace}
use Rattle.board.specs.Furnaces.{is_furnace}
use Rattle.board.specs.Faults.{good_board}
use Rattle.board.specs.declared.Board.{Board}
use Rattle.literals.specs.declared.refusal.Refusal.{Refusal}

unfoldable pub placed : List ℤ → Board → (furnace : ℕ) → ℤ → Result ℕ Refusal
placed table b furnace l =
    cond (good_board table b)
    (cond (is_furnace furnace) (cond (in_range b.symbols l) (Ok (place_of l)) (Err BadLiteral)) (Err BadFurnace))
    (Err BadBoard)
