-- Each public function's contract leaves one answer.
use Rattle.meaning.proofs.Kit.{refl}
use Rattle.meaning.proofs.Answers.{One, ◌&◌}
use Rattle.text.specs.contracts as contract'
use Rattle.text.proofs as text

one_read : One contract'.reading.read.ended text.reading.read.Reads.Post
one_read κs a x y = (cc, refl & refl & refl & (cc) & refl)

one_add_text : One contract'.adding.add_text.ended text.adding.add_text.Reads.Post
one_add_text κs a x y = (cc, refl & (cc) & refl & refl)

one_write : One contract'.writing.write.ended text.writing.write.Reads.Post
one_write κs a x y = (cc, refl & refl & refl & (cc) & refl)
