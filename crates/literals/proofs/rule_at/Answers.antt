-- `literals::rule_at` meets its contract: a number of at least 0 is taken as it is, and one below 0 as none.
use Rattle.meaning.proofs.Kit.{◌∙◌, ◌+◌, ◌*◌, arith, pos, get_or, w16, SFits}
use Rattle.literals.specs.Row.{width, most_literals, rule_at}
use Rattle.literals.proofs.Signed.{at_least_zero, back_abs}
use Rattle.literals.proofs.RuleNumbers.{number_is, number_none}
use Rattle.literals.proofs.rule_at.Goals as goal

pub returns-then-n-ge0 : goal.returns-then-n-ge0
unfolding rule_at
returns-then-n-ge0 c =
    let n = get_or c.args.table.now (width * c.args.row + most_literals) (pos 0) in
    let fits : SFits w16 n = record { sfits = omega arith } in
    back_abs fits ∙ number_is n (at_least_zero fits c.if-n-ge0.true)

pub returns : goal.returns
unfolding rule_at
returns c =
    let n = get_or c.args.table.now (width * c.args.row + most_literals) (pos 0) in
    let fits : SFits w16 n = record { sfits = omega arith } in
    number_none fits c.if-n-ge0.false
