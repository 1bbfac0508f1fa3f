-- `held_by` meets its contract: of both sets of premises the furnace's own is looked through.
use Rattle.meaning.proofs.Kit.{◌∙◌, sym, ap, Bool, List}
use Rattle.meaning.specs.Tests.{all}
use Rattle.meaning.specs.Literals.{has}
use Rattle.least.proofs.Striking.{first_held, second_held}
use Rattle.least.proofs.call.held_by.Goals as goal

pub returns-then-furnace-eq1 : goal.returns-then-furnace-eq1
returns-then-furnace-eq1 c =
    let a = c.args in
    c.all_held.ensures ∙ ap (λ (h : List Bool). all (has h) a.places.now) (sym (first_held a.board a.furnace c.if-furnace-eq1.true))

pub returns-else-furnace-eq1 : goal.returns-else-furnace-eq1
returns-else-furnace-eq1 c =
    let a = c.args in
    c.all_held-else-furnace-eq1.ensures
    ∙ ap (λ (h : List Bool). all (has h) a.places.now) (sym (second_held a.board a.furnace c.requires.0 c.if-furnace-eq1.false))
