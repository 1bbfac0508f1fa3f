-- The flags of the set's candidates, and no others, are set.
use Rattle.std.proofs.Common.{◌∙◌, false}
use Rattle.meaning.proofs.Kit.{replicate}
use Rattle.candidates.specs.Sets.{chosen}
use Rattle.smallest.proofs.Turns.{board_alone}
use Rattle.smallest.proofs.Holding.{holding_each}
use Rattle.smallest.proofs.search.alone.Goals as goal

pub returns : goal.returns
returns c =
    let a = c.args in
    board_alone a.board a.places.now a.set _ (c.set_flags.ensures ∙ holding_each (replicate 400 false) (chosen a.places.now a.set))
