-- From the last mark to the first.
use Rattle.std.proofs.Common.{◌≡◌, ◌<◌, ◌-◌, suc, cond, arith, eqb, length, get_or, ne_eqb, eq-eqb}
use Rattle.orders.proofs.Marked.{none_below, grown_below, marked_none, marked_step}
use Rattle.orders.proofs.marks.marked_by.Goals as goal
use Rattle.orders.proofs.marks.marked_by.Goals.{then-word-k-eq49, else-word-k-eq49}

pub loop-k-init : goal.loop-k-init
loop-k-init c = let word = c.args.word.now in (marked_none word, none_below 2 (length word))

pub loop-k-preserved : goal.loop-k-preserved
loop-k-preserved c =
    let word = c.args.word.now in
    let k = c.loop-k.k in
    let b = get_or word (k - 1) 0 in
    let left : length word - (k - 1) ≡ suc (length word - k) = omega arith in
    let bit : c.if-word-k-eq49.bit ≡ cond (eqb b 49) 1 0 =
    elim c.if-word-k-eq49.branch [
      | then-word-k-eq49 w ↦ rw (eq-eqb b 49 w.if-word-k-eq49.true) w.bit-is
      | else-word-k-eq49 w ↦ rw (ne_eqb b 49 w.if-word-k-eq49.false) w.bit-is
    ] in
    let small : c.if-word-k-eq49.bit < 2 = elim c.if-word-k-eq49.branch [ then-word-k-eq49 w ↦ omega arith | else-word-k-eq49 w ↦ omega arith ] in (
      omega (arith, c.loop-k.invariant.0, bit, marked_step word (k - 1) k (omega arith) (omega arith)),
      rw left (grown_below 2 (length word - k) c.loop-k.value c.if-word-k-eq49.bit c.loop-k.invariant.1 small),
    )
