-- Each round takes in one digit more.
use Rattle.std.proofs.Common.{arith}
use Rattle.orders.proofs.Digits.{valued_none, valued_more, valued_all}
use Rattle.orders.proofs.reading.value_of.Goals as goal
use Rattle.orders.proofs.reading.value_of.Goals.{then-value-gt-MOST, else-value-gt-MOST}

pub loop-byte-init : goal.loop-byte-init
loop-byte-init c = valued_none c.args.word.now c.requires

pub loop-byte-preserved : goal.loop-byte-preserved
loop-byte-preserved c =
    valued_more c.loop-byte.invariant c.loop-byte-test.true c.if-value-gt-MOST.value
    (elim c.if-value-gt-MOST.branch [ then-value-gt-MOST w ↦ omega arith | else-value-gt-MOST w ↦ omega arith ])

pub returns : goal.returns
returns c = valued_all c.loop-byte.invariant c.loop-byte-test.false
