-- The loop of `writing::line_size`: the literals before this one, and two bytes for the end.
use Rattle.meaning.proofs.Kit.{◌≡◌, ◌≤◌, ◌+◌, ◌*◌, length, take}
use Rattle.dimacs.specs.Writing.{spaced}
use Rattle.dimacs.proofs.writing.line_size.Given as goal

abbrev pub invariant-loop-l : goal.invariant-loop-l
invariant-loop-l l = (l.size ≡ 2 + length (spaced (take l.l-index l.part))) × (l.size ≤ 2 + 7 * l.l-index)
