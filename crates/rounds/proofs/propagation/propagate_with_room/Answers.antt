use Rattle.meaning.proofs.Kit.{arith}
use Rattle.meaning.specs.Tests.{none}
use Rattle.literals.proofs.Scanning.{few_places}
use Rattle.findings.proofs.Filling.{part_same}
use Rattle.rounds.proofs.propagation.propagate_with_room.Goals as goal

-- there are as many cells as the links have room for, and as many rows as the counts
pub whole_as_front-propagate_in : goal.whole_as_front-propagate_in
whole_as_front-propagate_in g c = let r = c.requires.room in (omega (arith, r), omega (arith, r))

pub whole_as_front-propagate_in-2 : goal.whole_as_front-propagate_in-2
whole_as_front-propagate_in-2 g c = let r = c.requires.room in (r.0, omega (arith, r))

pub propagate_in-requires-clause-heads_value : goal.propagate_in-requires-clause-heads_value
propagate_in-requires-clause-heads_value g c = part_same _ 400 none (few_places c.requires.fit)
