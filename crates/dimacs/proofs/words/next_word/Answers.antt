-- `words::next_word` meets its contract: what the chain counts is the bytes before the place.
use Rattle.std.proofs.Common.{◌∙◌, ap, rules, tests}
use Rattle.std.specs.List.{prefix_len}
use Rattle.std.proofs.lemmas.Iterator.{YieldsList-from_slice}
use Rattle.std.proofs.lemmas.Iterator.Consumers.{count_from_yields_List}
use Rattle.std.proofs.lemmas.Iterator.Search.{YieldsList-from_take_while}
use Rattle.std.proofs.lemmas.List.Folds.{length-prefix_len}
use Rattle.formula.proofs.Parts.{onward, onward_drop}
use Rattle.dimacs.specs.Words.{in_word, is_gap}
use Rattle.dimacs.proofs.Tested.{by_test}
use Rattle.dimacs.proofs.Scanning.{counted_to}
use Rattle.dimacs.proofs.words.next_word.Goals as goal

pub returns : goal.returns
returns c =
    let text = c.args.text.now in
    let at = c.args.at in
    let stays = is_gap in
    let counted = count_from_yields_List c.take_while.result c.count.result c.count.ensures.ran
    (YieldsList-from_take_while _ stays (YieldsList-from_slice (onward at text) cc) c.take_while.ensures.closure c.take_while.ensures.done
    (λ x b q k. search (rules, tests)))
    ∙ length-prefix_len stays (onward at text) in
    counted_to in_word stays (λ c. by_test (is_gap c) (λ t. rw t) (λ f. rw f)) text at c.count.result c.requires (counted ∙ ap (prefix_len stays) (onward_drop at text))
