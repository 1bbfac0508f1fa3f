-- Each public function's contract leaves one answer.
use Rattle.meaning.proofs.Kit.{refl}
use Rattle.meaning.proofs.Answers.{One, ◌&◌}
use Rattle.rounds.specs.contracts as contract'
use Rattle.rounds.proofs as rounds

one_propagate : One contract'.propagation.propagate.ended rounds.propagation.propagate.Reads.Post
one_propagate κs a x y = (refl, refl & refl & refl & (cc) & refl & (cc) & refl)

one_trace : One contract'.propagation.trace.ended rounds.propagation.trace.Reads.Post
one_trace κs a x y = (refl, refl & refl & refl & (cc) & refl & (cc) & refl)
