-- A set that has candidate i stops where the one without it does.
use Rattle.std.proofs.Common.{◌≡◌, ◌∙◌, sym, ap, refl, false, Bool, ◌&&◌, not, ℕ, ◌-◌, ◌^◌, arith, get_or, List}
use denote.Enum.Bare.{sameb}
use Rattle.meaning.proofs.Kit.{and-false}
use Rattle.meaning.specs.Tests.{bit}
use Rattle.meaning.proofs.Tests.{and_intro}
use Rattle.candidates.proofs.ChosenSets.{bit_low}
use Rattle.candidates.proofs.Along.{below_on, below_found, below_none}
use Rattle.smallest.specs.contracts.search.Note.{the_type}
use Rattle.smallest.specs.declared.search.Note.{Note}
use Rattle.smallest.specs.declared.search.Note.TheVariants.{GoesOn, Stops, Listed}
use Rattle.smallest.specs.Search.{stops_at, stops_fewer}
use Rattle.smallest.proofs.search.stops_fewer.Goals as goal
use Rattle.smallest.proofs.search.stops_fewer.Goals.{then-has+else-ne, else-has}

-- the search stops at a set unless its note is that it goes on
by_note : (n : Note) → stops_at n ≡ not (sameb the_type n GoesOn)
by_note GoesOn = refl
by_note Stops = refl
by_note Listed = refl

unseen : (b s : Bool) → s ≡ false → (b && s) ≡ false
unseen b s e = rw e (and-false b)

missing : (b s : Bool) → b ≡ false → (b && s) ≡ false
missing b s e = rw e

-- whether it stops at the set with so much less
abbrev stops_less : List Note → ℕ → ℕ → Bool
stops_less notes set k = stops_at (get_or notes (set - k) GoesOn)

pub overflow_sub-set : goal.overflow_sub-set
overflow_sub-set c = omega (arith, c.power.ensures, bit_low c.loop-i.i c.args.set (sym c.has.ensures ∙ c.if-has.true))

pub returns-then-ne : goal.returns-then-ne
unfolding stops_fewer
returns-then-ne c =
    let a = c.args in
    let stops = sym (ap (stops_less a.notes.now a.set) c.power.ensures) ∙ by_note _ ∙ sym c.ne.ensures ∙ c.if-ne.true in
    below_found _ a.n _ c.loop-i.invariant (omega arith) (and_intro _ _ (sym c.has.ensures ∙ c.if-has.true) stops)

pub loop-i-preserved : goal.loop-i-preserved
loop-i-preserved c =
    let a = c.args in
    let i = c.loop-i.i in
    below_on _ a.n _ c.loop-i.invariant (omega arith)
    (elim c.if-has.branch [
      | then-has+else-ne w ↦
          unseen (bit i a.set) _ (sym (ap (stops_less a.notes.now a.set) w.power.ensures) ∙ by_note _ ∙ sym w.ne.ensures ∙ w.if-ne.false)
      | else-has w ↦ missing (bit i a.set) (stops_less a.notes.now a.set (2 ^ i)) (sym c.has.ensures ∙ w.if-has.false)
    ])

pub returns : goal.returns
unfolding stops_fewer
returns c = below_none _ c.args.n _ c.loop-i.invariant (omega arith)
