-- The listed sets of fewer than k candidates are written.
use Rattle.smallest.specs.Search.{listed_below}
use Rattle.smallest.proofs.Turns.{Stands}
use Rattle.smallest.proofs.writing.write_listed.Given as goal

abbrev pub invariant-loop-k : goal.invariant-loop-k
invariant-loop-k l = Stands l.initial.out 0 (listed_below l.notes l.n l.k) l.out l.next
