use Rattle.meaning.proofs.Kit.{◌%◌, ne_eqb, eq-eqb}
use Rattle.meaning.specs.Literals.{opp}
use Rattle.rounds.proofs.visits.opposite_place.Goals as goal

pub returns-then-p-eq0 : goal.returns-then-p-eq0
unfolding opp
returns-then-p-eq0 c = rw (eq-eqb (c.args.p % 2) 0 c.if-p-eq0.true)

pub returns-else-p-eq0 : goal.returns-else-p-eq0
unfolding opp
returns-else-p-eq0 c = rw (ne_eqb (c.args.p % 2) 0 c.if-p-eq0.false)
