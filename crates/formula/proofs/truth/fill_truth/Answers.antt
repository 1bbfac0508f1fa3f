-- `truth::fill_truth` meets its contract.
use Rattle.meaning.proofs.Kit.{◌∙◌, sym, ap, false, ◌^◌, arith, length}
use Rattle.meaning.proofs.Tables.{filled_more, tabulate_ext}
use Rattle.formula.proofs.Words.{parse, levels, truth_of, Valued}
use Rattle.formula.proofs.Assignments.{value_at, truth_by_number}
use Rattle.formula.proofs.Widening.{wide, wide_well}
use Rattle.formula.proofs.truth.fill_truth.Goals as goal

pub evaluate-requires-clause-bytes_value : goal.evaluate-requires-clause-bytes_value
evaluate-requires-clause-bytes_value c = wide_well c.args.symbols c.requires.symbols_bound levels c.args.bytes.now c.requires.bytes_value

pub loop-assignment-preserved : goal.loop-assignment-preserved
loop-assignment-preserved c =
    let values = value_at c.args.names.now (parse 255 levels c.args.bytes.now) in
    filled_more false values c.loop-assignment.table c.loop-assignment.assignment c.evaluate.result.holds (omega arith) c.loop-assignment.invariant
    (ap (λ (v : Valued). v.holds) c.evaluate.ensures)

pub returns : goal.returns
returns c =
    let bytes = c.args.bytes.now in
    let names = c.args.names.now in
    let l = c.loop-assignment in
    tabulate_ext false (2 ^ length names) (value_at names (parse 255 levels bytes)) l.table (omega arith) (λ k h. l.invariant k (omega arith))
    ∙ sym (truth_by_number names (parse 255 levels bytes))
    ∙ ap (truth_of names) (sym (wide c.args.symbols c.requires.symbols_bound levels bytes c.requires.bytes_value))
