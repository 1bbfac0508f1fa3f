-- The public function's contract leaves one answer.
use Rattle.meaning.proofs.Kit.{refl}
use Rattle.meaning.proofs.Answers.{One, ◌&◌}
use Rattle.least.specs.contracts as contract'
use Rattle.least.proofs as least

one_least : One contract'.call.least.ended least.call.least.Reads.Post
one_least κs a x y = (cc, refl & refl & refl & refl)
