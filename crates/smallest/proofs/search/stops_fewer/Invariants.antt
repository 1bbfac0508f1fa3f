-- It stops just if it does for one of the candidates from i on.
use Rattle.std.proofs.Common.{◌&&◌, ◌-◌, ◌^◌, get_or}
use Rattle.meaning.specs.Tests.{from, bit}
use Rattle.candidates.proofs.Along.{OneFrom}
use Rattle.smallest.specs.Search.{stops_at}
use Rattle.smallest.specs.declared.search.Note.TheVariants.{GoesOn}
use Rattle.smallest.proofs.search.stops_fewer.Given as goal

abbrev pub invariant-loop-i : goal.invariant-loop-i
invariant-loop-i l = OneFrom (λ i. bit i l.set && stops_at (get_or l.notes (l.set - 2 ^ i) GoesOn)) (from 0 l.n) l.i
