-- The first slot that has the word, or none.
use Rattle.std.proofs.Common.{◌∙◌, ◌*◌, sym, ap, refl, arith}
use Rattle.names.specs.Slots.{fits}
use Rattle.names.proofs.Finding.{slot_part, found_here, found_nowhere}
use Rattle.names.proofs.slots.find.Goals as goal

pub returns-then-fits : goal.returns-then-fits
returns-then-fits c =
    let a = c.args in
    let k = c.loop-k.k in
    let told = c.fits.ensures ∙ ap (λ s. fits s a.word.now) (slot_part a.width k (a.width * k) a.slots.now refl) in
    found_here a.width a.count a.slots.now a.word.now k c.loop-k-test.true (sym told ∙ c.if-fits.true) c.loop-k.invariant

pub returns : goal.returns
returns c =
    let a = c.args in
    found_nowhere a.width a.count a.slots.now a.word.now (λ i h. c.loop-k.invariant i (omega arith))
