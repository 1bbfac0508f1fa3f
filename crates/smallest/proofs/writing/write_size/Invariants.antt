-- The listed sets of k candidates among those below `set` are written.
use Rattle.smallest.proofs.Turns.{Stands, up_to}
use Rattle.smallest.proofs.writing.write_size.Given as goal

abbrev pub invariant-loop-set : goal.invariant-loop-set
invariant-loop-set l = Stands l.initial.out l.at (up_to l.notes l.n l.k l.set) l.out l.next
