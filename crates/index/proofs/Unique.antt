-- The public function's contract leaves one answer.
use Rattle.meaning.proofs.Kit.{refl}
use Rattle.meaning.proofs.Answers.{One, ◌&◌}
use Rattle.index.specs.contracts as contract'
use Rattle.index.proofs as index

one_fill : One contract'.fill.ended index.fill.Reads.Post
one_fill κs a x y = (refl, refl & refl & (cc) & (cc) & (cc) & refl)
