-- Each public function's contract leaves one answer.
use Rattle.meaning.proofs.Kit.{refl}
use Rattle.meaning.proofs.Answers.{One}
use Rattle.literals.specs.contracts as contract'
use Rattle.literals.proofs as literals

one_symbol : One contract'.symbol.ended literals.symbol.Reads.Post
one_symbol κs a x y = (cc, refl)

one_in_range : One contract'.in_range.ended literals.in_range.Reads.Post
one_in_range κs a x y = (cc, refl)

one_place : One contract'.place.ended literals.place.Reads.Post
one_place κs a x y = (cc, refl)

one_opposite : One contract'.opposite.ended literals.opposite.Reads.Post
one_opposite κs a x y = (cc, refl)

one_rows_lent : One contract'.rows_lent.ended literals.rows_lent.Reads.Post
one_rows_lent κs a x y = (cc, refl)

one_rule_at : One contract'.rule_at.ended literals.rule_at.Reads.Post
one_rule_at κs a x y = (cc, refl)

one_rows_sound : One contract'.rows_sound.ended literals.rows_sound.Reads.Post
one_rows_sound κs a x y = (cc, refl)

one_literal_count : One contract'.literal_count.ended literals.literal_count.Reads.Post
one_literal_count κs a x y = (cc, refl)

one_number : One contract'.refusal.U8FromRefusal.from.ended literals.refusal.U8FromRefusal.from.Reads.Post
one_number κs a x y = (cc, refl)
