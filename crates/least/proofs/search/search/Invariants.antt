-- No set of fewer than k candidates ends the conflict.
use Rattle.std.proofs.Common.{◌≡◌, ◌*◌, length}
use Rattle.least.specs.Least.{ends}
use Rattle.board.specs.Furnaces.{held_by}
use Rattle.board.specs.Ranking.{rows_on}
use Rattle.least.specs.Search.{Searched}
use Rattle.least.proofs.search.search.Given as goal

abbrev pub invariant-loop-k : goal.invariant-loop-k
invariant-loop-k l =
    (length l.cores ≡ length l.initial.cores)
    × Searched (ends (2 * l.board.symbols) (rows_on l.table l.board) (held_by l.board l.furnace) l.places) (length l.places) l.k 0 l.kept l.cores
