-- The public function's contract leaves one answer.
use Rattle.meaning.proofs.Kit.{refl}
use Rattle.meaning.proofs.Answers.{One, ◌&◌}
use Rattle.smallest.specs.contracts as contract'
use Rattle.smallest.proofs as smallest

one_smallest : One contract'.call.smallest.ended smallest.call.smallest.Reads.Post
one_smallest κs a x y = (cc, refl & refl & refl & refl & (cc) & refl)
