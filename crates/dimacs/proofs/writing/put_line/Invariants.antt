-- The loop of `writing::put_line`: the literals before this one are written.
use Rattle.meaning.proofs.Kit.{take}
use Rattle.spelling.specs.Text.{Put}
use Rattle.dimacs.specs.Writing.{spaced}
use Rattle.dimacs.proofs.writing.put_line.Given as goal

abbrev pub invariant-loop-l : goal.invariant-loop-l
invariant-loop-l l = Put l.fn.out l.out l.at (spaced (take l.l-index l.part)) l.next
