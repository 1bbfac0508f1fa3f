-- `premises::is_held` is safe: a literal in range has its place among the 400.
use Rattle.meaning.proofs.Kit.{◌≡◌, ◌∙◌, sym, true, ◌<◌, arith, rules, not-false}
use Rattle.literals.specs.Literal.{in_range}
use Rattle.literals.proofs.Signed.{back}
use Rattle.literals.proofs.Arguments.{range_facts, place_fits}
use Rattle.saying.proofs.premises.is_held.Statement.{statement}
use Rattle.saying.proofs.premises.is_held.Tie as tie

within : (c : tie.Else-not-in_range) → in_range 200 (back c.before.before.args.l) ≡ true
within c = sym c.before.in_range.ensures ∙ not-false _ c.if-not-in_range.false-raw

-- the place lies among the flags
place : (c : tie.After-place-p) → c.place-p.result < 400
place c = omega (arith, c.place-p.ensures, place_fits 200 (back c.before.before.before.args.l) (within c.before))

pub is_held_spec : {M : Type 1} → statement M
is_held_spec = tie.close (tie.spec
    (λ c κs. search rules) (λ c. search rules) (λ c κs. range_facts 200 (back c.before.before.args.l) (within c))
    (λ c. omega (arith, place c.before.before.before)) (λ c. search rules) (λ c. omega (arith, place c.before.before.before))
    (λ c. search rules))
