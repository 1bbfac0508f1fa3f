use Rattle.meaning.proofs.Kit.{length}
use Rattle.literals.specs.Row.{rows_in}
use Rattle.findings.specs.Ranks.{support_from}
use Rattle.findings.proofs.Supporting.{Searched}
use Rattle.findings.proofs.supports.search_supports.Given as goal

-- the places of the queue that were passed have their support, and the others theirs or none
abbrev pub invariant-loop-place : goal.invariant-loop-place
invariant-loop-place l = Searched (support_from (rows_in l.rows l.table) l.ranks) l.queue l.from (length l.initial.supports) l.place-index l.supports
