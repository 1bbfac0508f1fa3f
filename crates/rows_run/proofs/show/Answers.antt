-- `show` is safe and ends: where rows were appended they fit into those lent.
use Rattle.meaning.proofs.Kit.{◌∙◌, sym, arith}
use Rattle.implicates.specs.Appending.{rule_by}
use Rattle.implicates.proofs.Rules.{told_fit}
use Rattle.rows_run.proofs.show.Goals as goal

pub print_rows-requires : goal.print_rows-requires
print_rows-requires g c =
    let a = c.args in
    let fit = told_fit (rule_by a.symbols.now a.truth.now) a.used a.rules a.lent c.in-Ok.n (sym c.append_rule-told.ensures.value ∙ c.in-Ok.is) in
    omega (arith, c.append_rule-told.auto.table, c.requires.used_le_lent, fit)
