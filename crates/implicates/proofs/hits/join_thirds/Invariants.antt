-- The loop of `join_thirds`: the last third is made up to i.
use Rattle.meaning.proofs.Kit.{◌≡◌, ◌*◌}
use lib.Seq.{paste}
use Rattle.implicates.proofs.Thirds.{last_third}
use Rattle.implicates.proofs.hits.join_thirds.Given as goal

abbrev pub invariant-loop-i : goal.invariant-loop-i
invariant-loop-i l = l.hits ≡ paste l.initial.hits (2 * l.third) (last_third l.initial.hits l.third) l.i
