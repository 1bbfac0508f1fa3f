use Rattle.meaning.proofs.Kit.{length}
use Rattle.index.proofs.Listing.{Since}
use Rattle.index.proofs.fill.Given as goal

-- the rows from `row` on are listed and counted
abbrev pub invariant-loop-row : goal.invariant-loop-row
invariant-loop-row l =
    Since (length l.initial.heads) l.rows l.table l.initial.links l.row l.heads l.links l.counts
