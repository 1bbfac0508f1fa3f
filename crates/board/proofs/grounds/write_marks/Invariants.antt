-- The first k bytes are written.
use Rattle.meaning.proofs.Kit.{map}
use Rattle.board.specs.Grounds.{byte_of}
use Rattle.literals.proofs.Copying.{Copied}
use Rattle.board.proofs.grounds.write_marks.Given as goal

abbrev pub invariant-loop-k : goal.invariant-loop-k
invariant-loop-k l = Copied (map byte_of l.reached) l.initial.marks l.marks l.k
