-- The loop of `put_shown`: the bytes before this one are written.
use Rattle.meaning.proofs.Kit.{◌+◌, take, map}
use Rattle.spelling.specs.Text.{Put, shown}
use Rattle.spelling.proofs.put_shown.Given as goal

abbrev pub invariant-loop-k : goal.invariant-loop-k
invariant-loop-k l = Put l.fn.out l.out l.at (map shown (take l.k l.line)) (l.at + l.k)
