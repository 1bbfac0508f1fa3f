-- The sets of k candidates are written behind those of fewer.
use Rattle.std.proofs.Common.{refl, suc, add-one, arith, length-append}
use Rattle.candidates.specs.Sets.{size, sets_of}
use Rattle.meaning.proofs.BySize.{below_size_le}
use Rattle.smallest.specs.Search.{listed_in, listed_of_size, listed_below}
use Rattle.smallest.proofs.Turns.{stands_more, stands_long}
use Rattle.smallest.proofs.writing.write_listed.Goals as goal

pub write_size-next-requires-clause-room : goal.write_size-next-requires-clause-room
write_size-next-requires-clause-room c =
    let a = c.args in
    let k = c.loop-k.k in
    omega (
      arith,
      c.requires.room,
      c.loop-k.invariant.ends,
      stands_long c.loop-k.invariant,
      length-append (listed_below a.notes.now a.n k) (listed_of_size a.notes.now a.n k),
      below_size_le (size a.n) (listed_in a.notes.now) (sets_of a.n) (suc k) (suc a.n) (omega arith),
    )

pub loop-k-preserved : goal.loop-k-preserved
loop-k-preserved c =
    rw (add-one c.loop-k.k)
    (stands_more c.loop-k.invariant refl record { written = c.write_size-next.ensures.out_after; ends = c.write_size-next.ensures.value })
