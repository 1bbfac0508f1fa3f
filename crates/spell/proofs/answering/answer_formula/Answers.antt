-- `answering::answer_formula` is safe: twice as many bytes as the line has hold its formula, and its rows lie within the table.
use Rattle.meaning.proofs.Kit.{sym, ◌≤◌, ◌*◌, arith, length, length-take-le}
use Rattle.chains.proofs.Emitted.{emitted_most}
use Rattle.spell.proofs.RowsAdded.{rows_within}
use Rattle.spell.proofs.answering.answer_formula.Goals as goal

-- the buffer holds the bytes
pub slice_bounds-answer_outcome-end : goal.slice_bounds-answer_outcome-end
slice_bounds-answer_outcome-end g c =
    omega (arith, c.emit-size.ensures.ends, emitted_most c.args.line.now c.requires.line_value, c.requires.line_in_bounds.0, c.emit-size.auto.out)

-- so many are lent
pub slice_bounds-answer_outcome-end-2 : goal.slice_bounds-answer_outcome-end-2
slice_bounds-answer_outcome-end-2 g c =
    sym
    (length-take-le c.emit-size.result c.emit-size.new.out
    (omega (arith, c.emit-size.ensures.ends, emitted_most c.args.line.now c.requires.line_value, c.requires.line_in_bounds.0, c.emit-size.auto.out)))

-- and there are no more than twice as many as the line has
pub answer_outcome-requires : goal.answer_outcome-requires
answer_outcome-requires g c =
    let line = c.args.line.now in
    let good = c.requires.line_value in
    let room = c.requires.line_in_bounds in
    let most : c.emit-size.result ≤ 2 * length line = omega (arith, c.emit-size.ensures.ends, emitted_most line good) in
    let lent = length-take-le c.emit-size.result c.emit-size.new.out (omega (arith, c.emit-size.ensures.ends, emitted_most line good, room.0, c.emit-size.auto.out)) in
    let rows = rows_within _ _ line good c.add_text-told.ensures.value in
    (omega (arith, rows, c.add_text-told.auto.table), omega (arith, room), omega (arith, room, lent, most))
