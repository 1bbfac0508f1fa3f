-- The lowest n digits are those below 2 ^ n, and the size is how many of them are set.
use Rattle.std.proofs.Common.{◌∙◌, ap}
use lib.Bits.{and_mask}
use lib.Count.{ones}
use Rattle.candidates.proofs.Turns.{ones_size}
use Rattle.candidates.proofs.sets.size_of.Goals as goal

pub returns : goal.returns
returns c = rw c.power.ensures (ap ones (and_mask c.args.set c.args.n) ∙ ones_size c.args.n c.args.set)
