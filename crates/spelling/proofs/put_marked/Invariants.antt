-- The loop of `put_marked`: the literals before this one are written.
use Rattle.meaning.proofs.Kit.{◌≤◌, ◌+◌, ◌*◌, take}
use Rattle.spelling.specs.Text.{Put, marked}
use Rattle.spelling.proofs.put_marked.Given as goal

abbrev pub invariant-loop-l : goal.invariant-loop-l
invariant-loop-l l = Put l.fn.out l.out l.at (marked l.mark (take l.l-index l.part)) l.next × (l.next ≤ l.at + 7 * l.l-index)
