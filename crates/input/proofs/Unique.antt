-- The contract of `line_length` leaves one answer. That of `read_full` leaves more than one, as a read does: it is among the exceptions in
-- docs/CONTRACTS.md.
use Rattle.meaning.proofs.Kit.{refl}
use Rattle.meaning.proofs.Answers.{One}
use Rattle.input.specs.contracts as contract'
use Rattle.input.proofs as input

one_line_length : One contract'.line_length.ended input.line_length.Reads.Post
one_line_length κs a x y = (cc, refl)
