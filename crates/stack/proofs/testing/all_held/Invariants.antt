-- The literals from this one on, of the flags that are left, tell what all of them tell.
use Rattle.std.proofs.Common.{◌≡◌, length, drop}
use Rattle.stack.specs.Striking.{all_struck}
use Rattle.stack.proofs.testing.all_held.Given as goal

abbrev pub invariant-loop-l : goal.invariant-loop-l
invariant-loop-l l =
    (length l.left ≡ 400) × (all_struck l.symbols l.left (drop l.l-index l.on) ≡ all_struck l.symbols l.fn.held l.on)
