-- A candidate whose bit is set has its flag set, and any other leaves the flags as they are.
use Rattle.std.proofs.Common.{◌<◌, length, inl, inr, arith}
use Rattle.candidates.proofs.Turns.{marked_turn}
use Rattle.candidates.proofs.sets.set_flags.Goals as goal
use Rattle.candidates.proofs.sets.set_flags.Goals.{then-rest-eq1, else-rest-eq1}

pub loop-place-preserved : goal.loop-place-preserved
loop-place-preserved c =
    let l = c.loop-place in
    let within : l.place-index < length c.args.places.now = omega arith in
    elim c.if-rest-eq1.branch [
      | then-rest-eq1 w ↦ marked_turn c.args.places.now l.place-index l.rest c.args.to within l.invariant (inl (w.if-rest-eq1.true, w.flags-is))
      | else-rest-eq1 w ↦ marked_turn c.args.places.now l.place-index l.rest c.args.to within l.invariant (inr (w.if-rest-eq1.false, w.flags-is))
    ]
