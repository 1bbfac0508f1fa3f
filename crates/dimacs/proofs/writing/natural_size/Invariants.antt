-- The loop of `natural_size`: the digits of what is left, and those that were passed. The measure is what is left.
use Rattle.meaning.proofs.Kit.{◌≡◌, ◌+◌, length}
use Rattle.spelling.specs.Text.{natural}
use Rattle.dimacs.proofs.writing.natural_size.Given as goal

abbrev pub invariant-loop-left : goal.invariant-loop-left
invariant-loop-left l = length (natural l.n) + 1 ≡ l.size + length (natural l.left)

abbrev pub decreases-loop-left : goal.decreases-loop-left
decreases-loop-left l = l.left
