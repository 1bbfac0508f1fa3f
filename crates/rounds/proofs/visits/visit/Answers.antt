use Rattle.meaning.proofs.Kit.{◌∙◌, arith}
use Rattle.index.proofs.Following.{heads_long}
use Rattle.findings.proofs.Queueing.{queued_none, queued_more}
use Rattle.rounds.proofs.Striking.{visited_linked, visited_none, visited_rises, visited_more}
use Rattle.rounds.proofs.visits.visit.Goals as goal

pub bounds-heads-p : goal.bounds-heads-p
bounds-heads-p c = omega (arith, heads_long c.requires.index, c.requires.p_in_bounds)

pub loop-cell-init : goal.loop-cell-init
loop-cell-init c =
    record {
      visited = visited_none c.requires.fit c.requires.index c.requires.p_in_bounds.0;
      queued = queued_none c.requires.room.count;
    }

pub bounds-links-cell : goal.bounds-links-cell
bounds-links-cell c = visited_linked c.requires.fit c.requires.index c.loop-cell.invariant.visited c.loop-cell-test.true

pub loop-cell-smaller : goal.loop-cell-smaller
loop-cell-smaller c =
    let inside = c.loop-cell-test.true in
    omega (arith, inside, visited_rises c.requires.fit c.requires.index c.loop-cell.invariant.visited inside)

pub loop-cell-preserved : goal.loop-cell-preserved
loop-cell-preserved c =
    let i = c.loop-cell.invariant in
    let b = c.requires.p_in_bounds in
    let e = c.strike-next.ensures in
    record {
      visited = visited_more c.requires.fit c.requires.index i.visited c.loop-cell-test.true (c.loop-cell.auto.counts ∙ b.2) e.counts_after b.1
          e.ranks_after;
      queued = queued_more c.loop-cell.auto.ranks i.queued e.queued;
    }
