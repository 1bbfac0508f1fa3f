-- Each public function's contract leaves one answer.
use Rattle.meaning.proofs.Kit.{refl}
use Rattle.meaning.proofs.Answers.{One, ◌&◌}
use Rattle.candidates.specs.contracts as contract'
use Rattle.candidates.proofs as candidates

one_all_literals : One contract'.given.all_literals.ended candidates.given.all_literals.Reads.Post
one_all_literals κs a x y = (cc, refl & refl)

one_write_places : One contract'.given.write_places.ended candidates.given.write_places.Reads.Post
one_write_places κs a x y = (refl, refl & (cc) & refl)

one_repeated : One contract'.given.repeated.ended candidates.given.repeated.Reads.Post
one_repeated κs a x y = (cc, refl)

one_has : One contract'.sets.has.ended candidates.sets.has.Reads.Post
one_has κs a x y = (cc, refl)

one_power : One contract'.sets.power.ended candidates.sets.power.Reads.Post
one_power κs a x y = (cc, refl)

one_size_of : One contract'.sets.size_of.ended candidates.sets.size_of.Reads.Post
one_size_of κs a x y = (cc, refl)

one_set_flags : One contract'.sets.set_flags.ended candidates.sets.set_flags.Reads.Post
one_set_flags κs a x y = (refl, (cc) & refl)
