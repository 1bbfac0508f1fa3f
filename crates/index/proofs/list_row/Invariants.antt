use Rattle.meaning.proofs.Kit.{◌≡◌, ◌+◌, ◌*◌, length}
use Rattle.literals.specs.Row.{most_literals, numbers_at, decode}
use Rattle.literals.proofs.Scanning.{left}
use Rattle.index.specs.Listing.{Listed}
use Rattle.index.proofs.list_row.Given as goal

-- the row's cells that were passed are listed
abbrev pub invariant-loop-j : goal.invariant-loop-j
invariant-loop-j l =
    (length (decode (numbers_at l.table l.row)) ≡ l.j + length (left l.table l.row l.j))
    × Listed l.table (most_literals * l.row) l.j l.initial.heads l.initial.links l.heads l.links
