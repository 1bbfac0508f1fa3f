-- What is known of the smaller sets, and of those of k candidates below `set`.
use Rattle.std.proofs.Common.{◌≡◌, ◌*◌, length}
use Rattle.least.specs.Least.{ends}
use Rattle.board.specs.Furnaces.{held_by}
use Rattle.board.specs.Ranking.{rows_on}
use Rattle.least.specs.Search.{Searched}
use Rattle.least.proofs.search.search_size.Given as goal

abbrev pub invariant-loop-set : goal.invariant-loop-set
invariant-loop-set l =
    (length l.cores ≡ length l.initial.cores)
    × Searched (ends (2 * l.board.symbols) (rows_on l.table l.board) (held_by l.board l.furnace) l.places) (length l.places) l.k l.set l.kept l.cores
