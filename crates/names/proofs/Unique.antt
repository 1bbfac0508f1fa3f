-- Each public function's contract leaves one answer.
use Rattle.meaning.proofs.Kit.{refl}
use Rattle.meaning.proofs.Answers.{One, ◌&◌}
use Rattle.names.specs.contracts as contract'
use Rattle.names.proofs as names

one_find : One contract'.slots.find.ended names.slots.find.Reads.Post
one_find κs a x y = (cc, refl)

one_put : One contract'.slots.put.ended names.slots.put.Reads.Post
one_put κs a x y = (refl, (cc) & refl)

one_is_letter : One contract'.naming.is_letter.ended names.naming.is_letter.Reads.Post
one_is_letter κs a x y = (cc, refl)

one_run : One contract'.naming.run.ended names.naming.run.Reads.Post
one_run κs a x y = (cc, refl)

one_is_name : One contract'.naming.is_name.ended names.naming.is_name.Reads.Post
one_is_name κs a x y = (cc, refl)

one_slot_of : One contract'.naming.slot_of.ended names.naming.slot_of.Reads.Post
one_slot_of κs a x y = (cc, refl)

one_replace : One contract'.replacing.replace.ended names.replacing.replace.Reads.Post
one_replace κs a x y = (refl, (cc) & refl)
