-- `writing::put_line` meets its contract.
use Rattle.meaning.proofs.Kit.{◌+◌, arith, get_or, pos, SFits, take_all, to_z-of_z, w16}
use Rattle.spelling.proofs.Pieces.{put_none}
use Rattle.dimacs.proofs.Lines.{line_put, line_size, spaced_most, spaced_none, spaced_put, spaced_size}
use Rattle.dimacs.proofs.writing.put_line.Goals as goal

pub loop-l-init : goal.loop-l-init
loop-l-init c = rw (spaced_none c.args.part.now) (put_none _ _)

pub put_literal-next-requires : goal.put_literal-next-requires
put_literal-next-requires c =
    let part = c.args.part.now in
    let l = c.loop-l in
    let f : SFits w16 (get_or part l.l-index (pos 0)) = record { sfits = omega arith } in
    rw (to_z-of_z f) (omega (arith, line_size part, spaced_size part l.l-index c.loop-l-test.true, spaced_most part (l.l-index + 1), l.invariant.ends))

pub bounds-out-next : goal.bounds-out-next
bounds-out-next c =
    let part = c.args.part.now in
    let l = c.loop-l in
    let f : SFits w16 (get_or part l.l-index (pos 0)) = record { sfits = omega arith } in
    let e = rw (to_z-of_z f) at c.put_literal-next.ensures in
    omega (arith, line_size part, spaced_size part l.l-index c.loop-l-test.true, spaced_most part (l.l-index + 1), l.invariant.ends, e.ends)

pub overflow_add-next : goal.overflow_add-next
overflow_add-next c =
    let part = c.args.part.now in
    let l = c.loop-l in
    let f : SFits w16 (get_or part l.l-index (pos 0)) = record { sfits = omega arith } in
    let e = rw (to_z-of_z f) at c.put_literal-next.ensures in
    omega (arith, line_size part, spaced_size part l.l-index c.loop-l-test.true, spaced_most part (l.l-index + 1), l.invariant.ends, e.ends)

pub loop-l-preserved : goal.loop-l-preserved
loop-l-preserved c =
    let part = c.args.part.now in
    let l = c.loop-l in
    let f : SFits w16 (get_or part l.l-index (pos 0)) = record { sfits = omega arith } in
    spaced_put part l.l-index c.loop-l-test.true l.invariant (rw (to_z-of_z f) at c.put_literal-next.ensures)

pub returns : goal.returns
returns c = line_put c.args.part.now (rw (take_all c.loop-l.l-index c.args.part.now c.loop-l-test.false) at c.loop-l.invariant)
