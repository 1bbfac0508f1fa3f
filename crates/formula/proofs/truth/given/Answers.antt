-- `truth::given` meets its contract: the symbol is looked for among the names.
use Rattle.meaning.proofs.Kit.{◌≡◌, ◌∙◌, sym}
use Rattle.std.proofs.Common.{rules, tests}
use Rattle.std.specs.List.{position}
use Rattle.std.proofs.lemmas.Iterator.{YieldsList-from_slice}
use Rattle.std.proofs.lemmas.Iterator.Search.{position_from_yields_List}
use Rattle.formula.proofs.Looking.{named_so, look_found, look_missed}
use Rattle.formula.proofs.truth.given.Goals as goal

pub returns-in-Some : goal.returns-in-Some
returns-in-Some c =
    let a = c.args in
    let at : c.position.result ≡ position (named_so a.symbol) a.names.now =
    position_from_yields_List (named_so a.symbol) _ _ c.position.result c.position.ensures.ran (YieldsList-from_slice a.names.now c.iter.ensures.rest)
    (λ x b q k. search (rules, tests)) in
    c.bit_at.ensures ∙ sym (look_found a.assignment a.symbol a.names.now c.in-Some.k (sym at ∙ c.in-Some.is))

pub returns-in-None : goal.returns-in-None
returns-in-None c =
    let a = c.args in
    let at : c.position.result ≡ position (named_so a.symbol) a.names.now =
    position_from_yields_List (named_so a.symbol) _ _ c.position.result c.position.ensures.ran (YieldsList-from_slice a.names.now c.iter.ensures.rest)
    (λ x b q k. search (rules, tests)) in
    sym (look_missed a.assignment a.symbol a.names.now (sym at ∙ c.in-None.is))
