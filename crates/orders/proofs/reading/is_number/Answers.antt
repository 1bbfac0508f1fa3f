-- The bytes are digits, or one is none.
use Rattle.std.proofs.Common.{◌∙◌, sym}
use Rattle.orders.specs.Reading.{is_number}
use Rattle.orders.proofs.reading.is_number.Goals as goal

pub returns-then-is_between : goal.returns-then-is_between
unfolding is_number
returns-then-is_between c = let digits = sym c.is_between.ensures ∙ c.if-is_between.true in rw digits

pub returns-else-is_between : goal.returns-else-is_between
unfolding is_number
returns-else-is_between c = let other = sym c.is_between.ensures ∙ c.if-is_between.false in c.if-is_between.false ∙ rw other
