-- The loop of `one_row::write_row`: the first k numbers are written.
use Rattle.meaning.proofs.Kit.{take}
use Rattle.literals.specs.Row.{encode}
use Rattle.literals.proofs.Copying.{Copied}
use Rattle.implicates.proofs.one_row.write_row.Given as goal

abbrev pub invariant-loop-k : goal.invariant-loop-k
invariant-loop-k l = Copied (encode (take l.count l.row)) l.initial.part l.part l.k
