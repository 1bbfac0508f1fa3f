use Rattle.rounds.proofs.Striking.{struck_more, struck_few}
use Rattle.rounds.proofs.visits.strike.Goals as goal

pub returns-then-left-gt2-clause-counts_after : goal.returns-then-left-gt2-clause-counts_after
returns-then-left-gt2-clause-counts_after c = rw (struck_more _ c.if-left-gt2.true)

pub returns-clause-counts_after : goal.returns-clause-counts_after
returns-clause-counts_after c = rw (struck_few _ c.if-left-gt2.false)
