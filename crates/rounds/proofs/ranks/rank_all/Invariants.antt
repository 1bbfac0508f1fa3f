use Rattle.meaning.proofs.Kit.{◌≡◌, map, ◌≤◌, ◌-◌, length}
use Rattle.literals.specs.Row.{rows_in}
use Rattle.findings.specs.Queue.{Room}
use Rattle.rounds.specs.Ranks.{ranks_by}
use Rattle.rounds.specs.Queue.{ranked, Frontier}
use Rattle.rounds.specs.Visits.{Counts}
use Rattle.rounds.proofs.ranks.rank_all.Given as goal

-- the ranks are those that k rounds tell, the places of rank k stand in the queue from `from` to `to`, its end, and the counts are those of the
-- queue up to `from`: before round 1, the rows' numbers of literals. k is no more than the places in the queue, and so never above the number of
-- places.
abbrev pub invariant-loop-to : goal.invariant-loop-to
invariant-loop-to l = record {
  up : l.from ≤ l.to;
  early : l.k ≤ l.to;
  is : l.ranks ≡ ranks_by (length l.fn.ranks) (rows_in l.rows l.table) l.held l.k;
  room : Room ranked l.ranks l.queue l.to;
  front : Frontier l.ranks l.queue l.k l.from l.to;
  counted : Counts l.rows l.table l.queue l.from l.counts;
  first : l.k ≡ 0 → l.counts ≡ map length (rows_in l.rows l.table);
}

-- the places less those in the queue: a round that adds something makes the queue longer
abbrev pub decreases-loop-to : goal.decreases-loop-to
decreases-loop-to l = length l.fn.ranks - l.to
