-- The bytes are marks, or one is none.
use Rattle.std.proofs.Common.{◌∙◌, sym}
use Rattle.orders.specs.Marks.{are_marks}
use Rattle.orders.proofs.marks.are_marks.Goals as goal

pub returns-then-is_between : goal.returns-then-is_between
unfolding are_marks
returns-then-is_between c = let marks = sym c.is_between.ensures ∙ c.if-is_between.true in rw marks

pub returns-else-is_between : goal.returns-else-is_between
unfolding are_marks
returns-else-is_between c = let other = sym c.is_between.ensures ∙ c.if-is_between.false in c.if-is_between.false ∙ rw other
