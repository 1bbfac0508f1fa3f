-- Each public function's contract leaves one answer.
use Rattle.meaning.proofs.Kit.{refl}
use Rattle.meaning.proofs.Answers.{One, ◌&◌}
use Rattle.implicates.specs.contracts as contract'
use Rattle.implicates.proofs as implicates

one_append_rule : One contract'.append_rule.ended implicates.append_rule.Reads.Post
one_append_rule κs a x y = (cc, (cc) & refl)

one_append_row : One contract'.one_row.append_row.ended implicates.one_row.append_row.Reads.Post
one_append_row κs a x y = (refl, (cc) & refl)
