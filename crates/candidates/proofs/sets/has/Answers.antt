-- `has` meets its contract: a shift and a mask find the bit.
use Rattle.meaning.proofs.Kit.{◌∙◌, sym, ap, ℕ, ◌/◌, ◌^◌, eqb}
use lib.Bits.{and_mask}
use Rattle.meaning.proofs.Bits.{bit_is}
use Rattle.candidates.proofs.sets.has.Goals as goal

pub returns : goal.returns
returns c = ap (λ (n : ℕ). eqb n 1) (and_mask (c.args.set / 2 ^ c.args.i) 1) ∙ sym (bit_is c.args.i c.args.set)
