-- Whether one of the positions has a partner is what `any` answers.
use Rattle.std.proofs.Common.{rules, refl, ◌∙◌, arith, Bool, ℕ}
use borrow.Author.Tests.{tests}
use Rattle.std.proofs.lemmas.Iterator.{YieldsList-from_range}
use Rattle.std.proofs.lemmas.Iterator.Search.{any_from_yields_List}
use Rattle.meaning.specs.Tests.{any, from}
use Rattle.positions.specs.Writing.{side_of}
use Rattle.candidates.proofs.Along.{range_any_is}
use Rattle.positions.proofs.rows.allows_some.Goals as goal

pub returns : goal.returns
returns c =
    let v = c.args.v in
    let test : ℕ → Bool = λ i. any ((side_of v).may i) (from 0 v.choices) in
    any_from_yields_List test _ _ _ c.any.ensures.ran (YieldsList-from_range 0 v.positions v.positions refl (omega arith)) (λ x b q k. search (rules, tests))
    ∙ range_any_is test v.positions
