-- Whether all pass the test is what `all` answers.
use Rattle.std.proofs.Common.{rules, ◌∙◌}
use borrow.Author.Tests.{tests}
use Rattle.std.proofs.lemmas.Iterator.{YieldsList-from_slice}
use Rattle.std.proofs.lemmas.Iterator.Search.{all_from_yields_List}
use Rattle.literals.specs.Literal.{in_range}
use Rattle.candidates.proofs.Along.{list_all_is}
use Rattle.candidates.proofs.given.all_literals.Goals as goal

pub returns : goal.returns
returns c =
    let test = in_range c.args.symbols in
    let cands = c.args.candidates.now in
    all_from_yields_List test _ _ _ c.all.ensures.ran (YieldsList-from_slice cands cc) (λ x b q k. search (rules, tests)) ∙ list_all_is test cands
