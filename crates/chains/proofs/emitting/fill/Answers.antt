-- `emitting::fill` meets its contract.
use Rattle.meaning.proofs.Kit.{◌∙◌, sym, arith}
use Rattle.chains.proofs.Stores.{fill_start, fill_step, fill_done}
use Rattle.chains.proofs.emitting.fill.Goals as goal

pub loop-k-init : goal.loop-k-init
loop-k-init c = let a = c.args in fill_start a.out.now a.at a.n a.byte

pub loop-k-preserved : goal.loop-k-preserved
loop-k-preserved c =
    let l = c.loop-k in
    let a = c.args in
    rw c.put.ensures (l.invariant ∙ fill_step l.out a.at l.k a.n a.byte (omega arith))

pub returns : goal.returns
returns c =
    let a = c.args in
    sym (c.loop-k.invariant ∙ fill_done c.loop-k.out a.at c.loop-k.k a.n a.byte (omega arith))
