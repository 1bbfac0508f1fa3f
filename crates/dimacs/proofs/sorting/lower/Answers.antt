-- `sorting::lower` meets its contract: what the chain counts is the places of lower symbols.
use Rattle.meaning.proofs.Kit.{◌/◌, ltb, take, ℕ}
use Rattle.std.proofs.Common.{◌∙◌, rules, tests}
use Rattle.std.proofs.lemmas.Iterator.{YieldsList-from_slice}
use Rattle.std.proofs.lemmas.Iterator.Consumers.{count_from_yields_List}
use Rattle.std.proofs.lemmas.Iterator.Search.{YieldsList-from_take_while}
use Rattle.std.proofs.lemmas.List.Folds.{length-prefix_len}
use Rattle.dimacs.proofs.Inserting.{lower_prefix}
use Rattle.dimacs.proofs.sorting.lower.Goals as goal

pub returns : goal.returns
returns c =
    let places = take c.args.count c.args.row.now in
    let below = λ (p : ℕ). ltb (p / 2) c.args.s in
    count_from_yields_List c.take_while.result c.count.result c.count.ensures.ran
    (YieldsList-from_take_while _ below (YieldsList-from_slice places cc) c.take_while.ensures.closure c.take_while.ensures.done
    (λ x b q k. search (rules, tests)))
    ∙ length-prefix_len below places ∙ lower_prefix c.args.s places
