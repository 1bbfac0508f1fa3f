-- Of both sets of premises the furnace's own is changed.
use Rattle.std.proofs.Common.{◌∙◌}
use Rattle.candidates.specs.Sets.{chosen}
use Rattle.least.proofs.Striking.{struck_each, struck_first, struck_second}
use Rattle.least.proofs.effects.struck_off.Goals as goal

pub returns-then-furnace-eq1 : goal.returns-then-furnace-eq1
returns-then-furnace-eq1 c =
    let a = c.args in
    struck_first a.board a.furnace a.places.now a.set c.if-furnace-eq1.true
    (c.set_flags.ensures ∙ struck_each a.board.first (chosen a.places.now a.set))

pub returns-else-furnace-eq1 : goal.returns-else-furnace-eq1
returns-else-furnace-eq1 c =
    let a = c.args in
    struck_second a.board a.furnace a.places.now a.set c.requires.0 c.if-furnace-eq1.false
    (c.set_flags-else-furnace-eq1.ensures ∙ struck_each a.board.second (chosen a.places.now a.set))
