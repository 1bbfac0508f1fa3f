-- Each public function's contract leaves one answer.
use Rattle.meaning.proofs.Kit.{refl}
use Rattle.meaning.proofs.Answers.{One}
use Rattle.stack.specs.contracts as contract'
use Rattle.stack.proofs as stack

one_open : One contract'.steps.open.ended stack.steps.open.Reads.Post
one_open κs a x y = (cc, refl)

one_withdraw : One contract'.steps.withdraw.ended stack.steps.withdraw.Reads.Post
one_withdraw κs a x y = (cc, refl)

one_push : One contract'.steps.push.ended stack.steps.push.Reads.Post
one_push κs a x y = (cc, refl)

one_pop : One contract'.steps.pop.ended stack.steps.pop.Reads.Post
one_pop κs a x y = (cc, refl)
