-- `join_thirds` meets its contract.
use Rattle.meaning.proofs.Kit.{◌≡◌, ◌∙◌, ap, ◌*◌, arith}
use lib.Seq.{paste}
use Rattle.implicates.proofs.Thirds.{last_third, join_turn, join_done}
use Rattle.implicates.proofs.hits.join_thirds.Goals as goal

pub loop-i-preserved : goal.loop-i-preserved
loop-i-preserved c = join_turn c.args.hits.now c.args.third c.requires c.loop-i.hits c.loop-i.i c.loop-i-test.true c.loop-i.invariant

pub returns : goal.returns
returns c =
    let hits = c.args.hits.now in
    let third = c.args.third in
    let all : c.loop-i.i ≡ third = omega arith in
    c.loop-i.invariant ∙ ap (paste hits (2 * third) (last_third hits third)) all ∙ join_done hits third c.requires
