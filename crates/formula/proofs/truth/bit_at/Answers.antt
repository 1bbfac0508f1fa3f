-- `truth::bit_at` meets its contract: a mask of the lowest bit is the remainder by 2.
use Rattle.meaning.proofs.Kit.{ap, ℕ, ◌/◌, ◌^◌, eqb}
use lib.Bits.{and_mask}
use Rattle.formula.specs.Answers.{bit_at}
use Rattle.formula.proofs.truth.bit_at.Goals as goal

pub returns : goal.returns
unfolding bit_at
returns c = ap (λ (n : ℕ). eqb n 1) (and_mask (c.args.assignment / 2 ^ c.args.place) 1)
