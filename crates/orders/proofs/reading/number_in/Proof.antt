-- `reading::number_in` meets its contract: by whether the word is a number.
use Rattle.meaning.proofs.Kit.{◌∙◌, sym, ap}
use Rattle.orders.specs.Reading.{number_in}
use Rattle.std.specs.Prelude.{Ok}
use Rattle.orders.proofs.reading.number_in.Statement.{statement}
use Rattle.orders.proofs.reading.number_in.Tie as tie

returns : tie.Need-returns-then-is_number
unfolding number_in
returns c = rw (sym c.is_number.ensures ∙ c.if-is_number.true) (ap Ok c.value_of.ensures)

returns_2 : tie.Need-returns
unfolding number_in
returns_2 c = rw (sym c.is_number.ensures ∙ c.if-is_number.false)

pub number_in_spec : {M : Type 1} → statement M
number_in_spec = tie.close (tie.spec (λ c κs. tt) (λ c κs. sym c.is_number.ensures ∙ c.if-is_number.true) returns returns_2)
