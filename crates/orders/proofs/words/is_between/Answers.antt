-- Each byte is tested.
use Rattle.std.proofs.Common.{◌∙◌, ◌&&◌, leb, rules, tests}
use Rattle.std.proofs.lemmas.Iterator.{YieldsList-from_slice}
use Rattle.std.proofs.lemmas.Iterator.Search.{all_from_yields_List}
use Rattle.orders.proofs.Bytes.{all_of}
use Rattle.orders.proofs.words.is_between.Goals as goal

pub returns : goal.returns
returns c =
    let a = c.args in
    all_from_yields_List (λ b. leb a.low b && leb b a.high) _ _ c.all.result c.all.ensures.ran (YieldsList-from_slice a.word.now cc)
    (λ x b q k. search (rules, tests))
    ∙ all_of _ a.word.now
