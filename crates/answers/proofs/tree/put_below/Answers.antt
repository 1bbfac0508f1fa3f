-- A literal in range has an opposite in range, whose place is below 400.
use Rattle.meaning.proofs.Kit.{◌∙◌, sym, ◌≤◌, arith, ℤ, nat_abs, to_z-of_z}
use Rattle.literals.proofs.Signed.{back, minus_abs, minus_fits}
use Rattle.literals.proofs.Places.{place_bound}
use Rattle.literals.proofs.Arguments.{range_facts}
use Rattle.answers.proofs.tree.put_below.Goals as goal

pub waiting_at-requires : goal.waiting_at-requires
waiting_at-requires c =
    let other : ℤ = c.in-Some.other.now in
    let f = range_facts 200 (back other) (sym c.in_range.ensures ∙ c.if-in_range.true) in
    let small : (1 ≤ nat_abs (back c.opposite.result)) × (nat_abs (back c.opposite.result) ≤ 200) =
    rw (c.opposite.ensures, to_z-of_z (minus_fits (back other) (omega (arith, f))), minus_abs) f in
    (c.requires.2, omega (arith, c.place.ensures, place_bound 200 (back c.opposite.result) small.0 small.1))
