-- The loop of `emitting::fill`: what is left to write makes the whole.
use Rattle.meaning.proofs.Kit.{◌≡◌, ◌-◌, ◌+◌, replicate, sets}
use Rattle.chains.proofs.emitting.fill.Given as goal

abbrev pub invariant-loop-k : goal.invariant-loop-k
invariant-loop-k l = sets l.fn.out l.at (replicate l.n l.byte) ≡ sets l.out (l.at + l.k) (replicate (l.n - l.k) l.byte)
