-- `rules::add_rule` meets its contract: what it tests are the first two faults of `rule_faults`, in their order.
use Rattle.meaning.proofs.Kit.{◌∙◌, sym, ap, refl}
use Rattle.literals.specs.declared.refusal.Refusal.TheVariants.{BadBoard}
use Rattle.formula.specs.Parse.{whole_of}
use Rattle.formula.specs.Answers.{is_good}
use Rattle.formula.proofs.Parsing.{answer_good, answer_bad}
use Rattle.board.specs.Rules.{rule_faults}
use Rattle.board.proofs.Adding.{place_told_lem, rule_refused}
use Rattle.board.proofs.rules.add_rule.Goals as goal

pub returns-then-not-good : goal.returns-then-not-good
unfolding rule_faults
returns-then-not-good c =
    let a = c.args in
    let all = rule_refused a.table.now a.board a.bytes.now BadBoard (rw (sym c.good.ensures ∙ c.if-not-good.true)) refl in
    record { value = c.refused.ensures ∙ all.0; table_after = all.1 }

pub add_formula-requires : goal.add_formula-requires
add_formula-requires c =
    let a = c.args in
    let read = answer_good (whole_of a.board.symbols a.bytes.now) (sym c.read_whole.ensures ∙ c.in-Ok.is) in
    record { board_value = sym c.good.ensures ∙ c.if-not-good.false; bytes_value = ap is_good read.1 }

pub returns-in-Err : goal.returns-in-Err
unfolding rule_faults
returns-in-Err c =
    let a = c.args in
    let bytes = a.bytes.now in
    let read = answer_bad (whole_of a.board.symbols bytes) (sym c.read_whole.ensures ∙ c.in-Err.is) in
    let all =
    rule_refused a.table.now a.board bytes c.in-Err.at.why (rw (sym c.good.ensures ∙ c.if-not-good.false, read))
    (place_told_lem a.board.symbols bytes read) in
    record { value = c.refused-in-Err.ensures ∙ all.0; table_after = all.1 }
