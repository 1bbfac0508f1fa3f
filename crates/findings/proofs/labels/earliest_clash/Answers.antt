use Rattle.meaning.proofs.Kit.{◌≡◌, ◌∙◌, ap, ◌/◌, arith, length}
use Rattle.findings.specs.Ranks.{larger_in, earliest_in, found}
use Rattle.findings.proofs.Clashes.{found_none, found_more, found_kept}
use Rattle.findings.proofs.labels.earliest_clash.Goals as goal
use Rattle.findings.proofs.labels.earliest_clash.Goals.{then-rank-least, else-rank-least}

pub loop-s-init : goal.loop-s-init
loop-s-init c = found_none _

pub loop-s-preserved : goal.loop-s-preserved
unfolding larger_in
loop-s-preserved c =
    let i = c.loop-s.invariant in
    let here : c.larger-rank.result ≡ larger_in c.args.ranks.now c.loop-s.s = c.larger-rank.ensures in
    elim c.if-rank-least.branch [
      | then-rank-least w ↦ rw (w.found-is, w.least-is, here) (found_more i (omega arith) (rw here at w.if-rank-least.true))
      | else-rank-least w ↦ rw (w.found-is, w.least-is) (found_kept i (rw here at w.if-rank-least.false))
    ]

pub returns : goal.returns
unfolding earliest_in
returns c =
    let end : c.loop-s.s ≡ length c.args.ranks.now / 2 = omega arith in
    c.loop-s.invariant.told ∙ ap found (rw end at c.loop-s.invariant.is)
