-- A slot that has the word begins with it, and then it is over.
use Rattle.std.proofs.Common.{◌∙◌, sym, arith, eq-eqb}
use Rattle.names.proofs.Fitting.{fits_not, fits_whole, fits_over}
use Rattle.names.proofs.slots.fits.Goals as goal

-- a slot that does not begin with the word
pub returns-else-starts_with : goal.returns-else-starts_with
returns-else-starts_with c =
    let a = c.args in
    let differs = c.if-starts_with.false in
    differs ∙ sym (fits_not a.slot.now a.word.now (sym c.starts_with.ensures.value ∙ differs))

pub returns-then-slot-word : goal.returns-then-slot-word
returns-then-slot-word c =
    let a = c.args in
    let whole = c.if-slot-word.true in
    eq-eqb _ _ whole ∙ sym (fits_whole a.slot.now a.word.now (sym c.starts_with.ensures.value ∙ c.if-starts_with.true) whole)

pub returns-else-slot-word : goal.returns-else-slot-word
returns-else-slot-word c =
    let a = c.args in
    let begins = sym c.starts_with.ensures.value ∙ c.if-starts_with.true in
    sym (fits_over a.slot.now a.word.now begins (omega (arith, c.starts_with.ensures.bound c.if-starts_with.true)))
