-- The row that explain shows has at most eight literals.
use Rattle.meaning.proofs.Kit.{List, ◌≤◌, ℕ, ◌-◌, ◌+◌, ◌*◌, arith, ℤ, length}
use Rattle.literals.specs.Literal.{place_of}
use Rattle.literals.specs.Row.{width, numbers_at, decode}
use Rattle.board.specs.Faults.{first_fault, if_done}
use Rattle.board.specs.Ranking.{support_on}
use Rattle.board.specs.Asking.{explain_faults, explain_part, Span}
use Rattle.literals.proofs.Counting.{count_few}
use Rattle.board.specs.declared.Board.{Board}
use Rattle.board.specs.Faults.{Outcome}
use Rattle.std.specs.Prelude.{Ok, Err}

-- the part that explain hands back
pub part_most : (table : List ℤ) (b : Board) (furnace : ℕ) (l : ℤ) → (explain_part table b furnace l).stop - (explain_part table b furnace l).start ≤ 8
unfolding explain_part numbers_at
part_most table b furnace l =
    let row = support_on table b furnace (place_of l) in
    go (first_fault (explain_faults table b furnace l)) (width * row) (length (decode (numbers_at table row))) (count_few table (width * row))
  where
    go : (o : Outcome) (start count : ℕ) → count ≤ 8
        → (if_done {A = Span} o (record { start = start; stop = start + count }) (λ _. record { start = 0; stop = 0 })).stop
        - (if_done {A = Span} o (record { start = start; stop = start + count }) (λ _. record { start = 0; stop = 0 })).start ≤ 8
    go (Ok _) start count h = omega arith
    go (Err why) start count h = omega arith
