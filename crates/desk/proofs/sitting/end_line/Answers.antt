-- `sitting::end_line` meets its contract: by whether anything is left.
use Rattle.std.proofs.Common.{◌≡◌, arith, length, take, length-take-le}
use Rattle.meaning.proofs.Kit.{ne_eqb}
use Rattle.desk.specs.Sittings.{after_end}
use Rattle.desk.proofs.sitting.end_line.Goals as goal

pub returns-then-sitting-eq0-clause-ended : goal.returns-then-sitting-eq0-clause-ended
unfolding after_end
returns-then-sitting-eq0-clause-ended g c = rw c.if-sitting-eq0.true

pub returns-clause-ended : goal.returns-clause-ended
unfolding after_end
returns-clause-ended g c =
    let n = c.args.sitting.filled in
    let long : length (take n c.args.line.now) ≡ n = length-take-le n c.args.line.now (omega arith) in
    rw (long, ne_eqb n 0 c.if-sitting-eq0.false) c.take_filled.ensures.names_after

pub returns-clause-failed : goal.returns-clause-failed
unfolding after_end
returns-clause-failed g c =
    let n = c.args.sitting.filled in
    let long : length (take n c.args.line.now) ≡ n = length-take-le n c.args.line.now (omega arith) in
    rw (long, ne_eqb n 0 c.if-sitting-eq0.false) c.take_filled.ensures.failed
