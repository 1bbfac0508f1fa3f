-- Each public function's contract leaves one answer.
use Rattle.meaning.proofs.Kit.{refl}
use Rattle.meaning.proofs.Answers.{One, ◌&◌}
use Rattle.spelling.proofs.Unique.{put_one_way}
use Rattle.chains.specs.contracts as contract'
use Rattle.chains.proofs as chains

one_unit : One contract'.reading.unit.ended chains.reading.unit.Reads.Post
one_unit κs a x y = (cc, refl)

one_chain : One contract'.reading.chain.ended chains.reading.chain.Reads.Post
one_chain κs a x y = (cc, refl)

one_read_text : One contract'.reading.read_text.ended chains.reading.read_text.Reads.Post
one_read_text κs a x y = (cc, refl)

one_emit : One contract'.emitting.emit.ended chains.emitting.emit.Reads.Post
one_emit κs a x y = let one = put_one_way x.allowed y.allowed in (one.0, refl & one.1 & refl)

one_spell : One contract'.wording.spell.ended chains.wording.spell.Reads.Post
one_spell κs a x y = let one = put_one_way x.allowed y.allowed in (one.0, refl & refl & one.1 & refl)
