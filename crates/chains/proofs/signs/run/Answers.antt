-- `signs::run` meets its contract: what the chain counts is the run.
use Rattle.std.proofs.Common.{◌∙◌, rules, tests}
use Rattle.std.proofs.lemmas.Iterator.{YieldsList-from_slice}
use Rattle.std.proofs.lemmas.Iterator.Consumers.{count_from_yields_List}
use Rattle.std.proofs.lemmas.Iterator.Search.{YieldsList-from_take_while}
use Rattle.std.proofs.lemmas.List.Folds.{length-prefix_len}
use Rattle.chains.proofs.Words.{belongs}
use Rattle.chains.proofs.Runs.{lead_prefix}
use Rattle.chains.proofs.signs.run.Goals as goal

pub returns : goal.returns
returns c =
    let text = c.args.text.now in
    let test = belongs c.args.class in
    count_from_yields_List c.take_while.result c.count.result c.count.ensures.ran
    (YieldsList-from_take_while _ test (YieldsList-from_slice text cc) c.take_while.ensures.closure c.take_while.ensures.done
    (λ x b q k. search (rules, tests)))
    ∙ length-prefix_len test text ∙ lead_prefix c.args.class text
