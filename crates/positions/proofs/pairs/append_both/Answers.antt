-- `pairs::append_both` meets its contract: the second side's rows join the first's.
use Rattle.meaning.proofs.Kit.{◌∙◌}
use Rattle.positions.specs.Entering.{pair_table}
use Rattle.positions.proofs.PairTables.{both_written}
use Rattle.positions.proofs.pairs.append_both.Goals as goal

pub returns : goal.returns
returns c =
    let a = c.args in
    c.append_side-2.ensures ∙ rw (c.seen_from-2.ensures, c.append_side.ensures, c.seen_from.ensures)
    (both_written (pair_table a.first a.count a.other a.others a.pairs) a.rows a.rules a.table.now c.requires.others_bound.1)
