-- `spelling::put_named` meets its contract: one piece after another.
use Rattle.meaning.proofs.Kit.{arith}
use Rattle.spelling.proofs.Pieces.{natural_most, put_length, put_put}
use Rattle.spelling.proofs.put_named.Goals as goal

pub put_natural-requires : goal.put_natural-requires
put_natural-requires c = omega (arith, put_length c.put_word-mid.ensures, natural_most 19 c.args.n (omega arith))

pub returns : goal.returns
returns c = record {
  put = put_put _ _ c.put_word-mid.ensures c.put_natural.ensures;
  upper_bound = omega (arith, natural_most 19 c.args.n (omega arith));
}
