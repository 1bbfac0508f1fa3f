-- Whether one of the partner's positions may stand with i is what `any` answers.
use Rattle.std.proofs.Common.{rules, refl, ◌∙◌, arith}
use borrow.Author.Tests.{tests}
use Rattle.std.proofs.lemmas.Iterator.{YieldsList-from_range}
use Rattle.std.proofs.lemmas.Iterator.Search.{any_from_yields_List}
use Rattle.positions.specs.Writing.{side_of}
use Rattle.candidates.proofs.Along.{range_any_is}
use Rattle.positions.proofs.rows.has_partner.Goals as goal

pub returns : goal.returns
returns c =
    let test = (side_of c.args.v).may c.args.i in
    let n = c.args.v.choices in
    any_from_yields_List test _ _ _ c.any.ensures.ran (YieldsList-from_range 0 n n refl (omega arith)) (λ x b q k. search (rules, tests))
    ∙ range_any_is test n
