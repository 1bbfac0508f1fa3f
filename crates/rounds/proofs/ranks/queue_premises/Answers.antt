use Rattle.meaning.proofs.Kit.{◌<◌, arith, length}
use Rattle.rounds.proofs.Frontiers.{premises_none, premises_few, premises_held, premises_not, premises_past}
use Rattle.rounds.proofs.ranks.queue_premises.Goals as goal
use Rattle.rounds.proofs.ranks.queue_premises.Goals.{then-held-p, else-held-p}

pub loop-p-init : goal.loop-p-init
loop-p-init c = record { inside = omega arith; premises = premises_none }

pub loop-p-preserved-then-not-one_of_eight : goal.loop-p-preserved-then-not-one_of_eight
loop-p-preserved-then-not-one_of_eight c =
    record {
      inside = c.if-p-places.true;
      premises = premises_past c.loop-p.invariant.premises 8 (c.one_of_eight.ensures c.if-not-one_of_eight.true);
    }

-- there is a place in the queue for the premise in hand
pub offset_bounds-queue-end : goal.offset_bounds-queue-end
offset_bounds-queue-end c = omega (arith, premises_few c.loop-p.invariant.premises, c.requires)

pub bounds-queue-end : goal.bounds-queue-end
bounds-queue-end c = omega (arith, premises_few c.loop-p.invariant.premises, c.requires)

pub overflow_add-end : goal.overflow_add-end
overflow_add-end c = omega (arith, premises_few c.loop-p.invariant.premises, c.requires)

pub loop-p-preserved : goal.loop-p-preserved
loop-p-preserved c =
    let w = c.loop-p.invariant.premises in
    let room : c.loop-p.p < length c.loop-p.queue = omega (arith, c.requires) in
    record {
      inside = omega arith;
      premises = elim c.if-held-p.branch [
        | then-held-p y ↦ rw (y.queue-is, y.end-is) (premises_held w y.if-held-p.true room)
        | else-held-p y ↦ rw (y.queue-is, y.end-is) (premises_not w y.if-held-p.false)
      ];
    }
