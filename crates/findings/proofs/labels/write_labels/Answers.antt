use Rattle.meaning.proofs.Kit.{◌∙◌, refl, ap₂, ◌+◌, ◌*◌, arith, ltb}
use Rattle.meaning.specs.Tests.{none}
use Rattle.meaning.specs.Rounds.{label_of}
use Rattle.findings.specs.Ranks.{labels_from}
use Rattle.findings.proofs.RankTables.{any_default}
use Rattle.findings.proofs.Filling.{filled_none, filled_put, filled_all}
use Rattle.findings.proofs.labels.write_labels.Goals as goal

pub loop-s-init : goal.loop-s-init
loop-s-init c = filled_none

pub loop-s-preserved : goal.loop-s-preserved
loop-s-preserved c =
    let ranks = c.args.ranks.now in
    let s = c.loop-s.s in
    let same = ap₂ (λ a b. label_of (ltb a none) (ltb b none))
    (any_default ranks (2 * s) 0 none (omega arith)) (any_default ranks (2 * s + 1) 0 none (omega arith)) in
    filled_put c.loop-s.invariant c.label.result (omega arith) (c.label.ensures ∙ same)

pub returns : goal.returns
unfolding labels_from
returns c = filled_all c.loop-s.invariant _ refl (omega arith)
