-- `put_marked` meets its contract: a mark and a literal more.
use Rattle.meaning.proofs.Kit.{arith, get_or, length-set, pos, SFits, to_z-of_z, w16}
use Rattle.spelling.proofs.Pieces.{literal_most, marked_none, marked_put, put_none}
use Rattle.spelling.proofs.put_marked.Goals as goal

pub loop-l-init : goal.loop-l-init
loop-l-init c = (rw (marked_none c.args.mark c.args.part.now) (put_none _ _), omega arith)

pub put_literal-next-requires : goal.put_literal-next-requires
put_literal-next-requires c =
    let f : SFits w16 (get_or c.args.part.now c.loop-l.l-index (pos 0)) = record { sfits = omega arith } in
    rw (to_z-of_z f, length-set) (omega (arith, literal_most f))

pub loop-l-preserved : goal.loop-l-preserved
loop-l-preserved c =
    let l = c.loop-l in
    let f : SFits w16 (get_or c.args.part.now l.l-index (pos 0)) = record { sfits = omega arith } in
    let e = rw (to_z-of_z f) at c.put_literal-next.ensures in
    (marked_put c.args.mark c.args.part.now l.l-index c.loop-l-test.true l.invariant.0 e, omega (arith, e.ends, literal_most f))
