-- `pieces::put_hex` meets its contract: a byte more.
use Rattle.meaning.proofs.Kit.{arith}
use Rattle.spelling.proofs.Pieces.{put_none}
use Rattle.spell.proofs.Pages.{hex_none, hex_put}
use Rattle.spell.proofs.pieces.put_hex.Goals as goal

pub loop-byte-init : goal.loop-byte-init
loop-byte-init c = (rw (hex_none c.args.bytes.now) (put_none _ _), omega arith)

pub loop-byte-preserved : goal.loop-byte-preserved
loop-byte-preserved c =
    let l = c.loop-byte in
    (hex_put c.args.bytes.now l.byte-index c.loop-byte-test.true c.digit.ensures c.digit-in-loop-byte.ensures l.invariant.0, omega arith)
