-- `writing::put_counts` meets its contract: one piece after another.
use Rattle.meaning.proofs.Kit.{[], ◌∷◌, ◌++◌}
use Rattle.spelling.specs.Text.{natural}
use Rattle.spelling.proofs.Pieces.{put_one, put_put}
use Rattle.dimacs.specs.Form.{header_start}
use Rattle.dimacs.proofs.writing.put_counts.Goals as goal

pub returns : goal.returns
returns c =
    let S = natural c.args.symbols in
    let count = natural c.args.count in
    put_put header_start (S ++ (32 ∷ (count ++ (10 ∷ [])))) c.put_word-first.ensures
    (put_put S (32 ∷ (count ++ (10 ∷ []))) c.put_natural-second.ensures
    (put_put (32 ∷ []) (count ++ (10 ∷ [])) (put_one _ _ _)
    (put_put count (10 ∷ []) c.put_natural-third.ensures (put_one _ _ _))))
