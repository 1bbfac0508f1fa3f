-- After the last size no set ends the conflict.
use Rattle.std.proofs.Common.{arith, ap}
use Rattle.findings.specs.Ranks.{found}
use Rattle.least.proofs.Answers.{none_found}
use Rattle.least.proofs.search.search.Goals as goal

pub returns : goal.returns
returns c =
    let a = c.args in
    ap found (none_found a.table.now a.board a.furnace a.places.now c.loop-k.invariant.1 (omega (arith, c.loop-k-test.false)))
