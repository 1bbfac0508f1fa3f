-- The set of the candidates from i on is below 4096, and one more candidate is its lowest bit.
use Rattle.std.proofs.Common.{◌≡◌, ◌∙◌, ℕ, ◌-◌, sym, ap, arith, length, get_or, drop, eqb}
use Rattle.least.specs.Effects.{marked_set}
use Rattle.least.proofs.Turns.{bit_of, marked_end, marked_more, marked_few}
use Rattle.least.proofs.effects.marked.Goals as goal

pub loop-i-init : goal.loop-i-init
loop-i-init c = sym (marked_end c.args.marks.now c.args.places.now (length c.args.places.now) (omega arith))

pub overflow_mul-set : goal.overflow_mul-set
overflow_mul-set c = omega (arith, c.loop-i.invariant, marked_few c.args.marks.now c.args.places.now c.loop-i.i c.requires.0)

pub overflow_add-set : goal.overflow_add-set
overflow_add-set c =
    let test = eqb (get_or c.args.marks.now (get_or c.args.places.now (c.loop-i.i - 1) 0) 0) 1 in
    omega (arith, c.loop-i.invariant, marked_few c.args.marks.now c.args.places.now c.loop-i.i c.requires.0, c.from.ensures, (bit_of test).small)

pub loop-i-preserved : goal.loop-i-preserved
loop-i-preserved c =
    let test = eqb (get_or c.args.marks.now (get_or c.args.places.now (c.loop-i.i - 1) 0) 0) 1 in
    let more = marked_more c.args.marks.now c.args.places.now c.loop-i.i (omega arith) (omega arith) in
    omega (arith, more, c.loop-i.invariant, c.from.ensures, (bit_of test).is)

pub returns : goal.returns
returns c =
    let done : c.loop-i.i ≡ 0 = omega arith in
    c.loop-i.invariant ∙ ap (λ (k : ℕ). marked_set c.args.marks.now (drop k c.args.places.now)) done
