-- Each public function's contract leaves one answer.
use Rattle.meaning.proofs.Kit.{refl}
use Rattle.meaning.proofs.Answers.{One, ◌&◌}
use Rattle.formula.specs.contracts as contract'
use Rattle.formula.proofs as formula

one_symbols_of : One contract'.naming.symbols_of.ended formula.naming.symbols_of.Reads.Post
one_symbols_of κs a x y = (cc, refl)

one_kind_of : One contract'.reading.kind_of.ended formula.reading.kind_of.Reads.Post
one_kind_of κs a x y = (cc, refl)

one_breaks : One contract'.reading.breaks.ended formula.reading.breaks.Reads.Post
one_breaks κs a x y = (cc, refl)

one_past_by : One contract'.reading.past_by.ended formula.reading.past_by.Reads.Post
one_past_by κs a x y = (cc, refl)

one_read : One contract'.reading.read.ended formula.reading.read.Reads.Post
one_read κs a x y = (cc, refl)

one_read_whole : One contract'.reading.read_whole.ended formula.reading.read_whole.Reads.Post
one_read_whole κs a x y = (cc, refl)

one_fill_truth : One contract'.truth.fill_truth.ended formula.truth.fill_truth.Reads.Post
one_fill_truth κs a x y = (refl, refl & refl & refl & (cc) & refl)
