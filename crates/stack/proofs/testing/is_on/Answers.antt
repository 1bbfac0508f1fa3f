-- Literals are one where their places are.
use Rattle.std.proofs.Common.{◌∙◌, ap}
use Rattle.meaning.proofs.Kit.{to_z-of_z}
use Rattle.std.specs.List.{list_any}
use Rattle.std.specs.Ordering.{int_eq}
use Rattle.stack.proofs.Flags.{member_place}
use Rattle.stack.proofs.testing.is_on.Goals as goal

pub returns : goal.returns
returns c =
    c.contains.ensures.value ∙ ap (λ l. list_any (λ m. int_eq m l) c.args.on.now) (to_z-of_z c.ranges.l)
    ∙ member_place c.args.l c.args.on.now c.requires.0 c.requires.1
