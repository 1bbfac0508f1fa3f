-- Each public function's contract leaves one answer.
use Rattle.meaning.proofs.Kit.{refl}
use Rattle.meaning.proofs.Answers.{One, ◌&◌}
use Rattle.positions.specs.contracts as contract'
use Rattle.positions.proofs as positions

one_has_count : One contract'.variables.has_count.ended positions.variables.has_count.Reads.Post
one_has_count κs a x y = (cc, refl)

one_add_positions : One contract'.variables.add_positions.ended positions.variables.add_positions.Reads.Post
one_add_positions κs a x y = (cc, refl & (cc) & refl & refl)

one_add_pairs : One contract'.pairs.add_pairs.ended positions.pairs.add_pairs.Reads.Post
one_add_pairs κs a x y = (cc, refl & (cc) & refl & refl & refl & refl & refl)
