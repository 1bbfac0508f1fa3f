-- `taking::pop_line` meets its contract: nothing follows the word.
use Rattle.meaning.proofs.Kit.{◌∙◌, sym, rules, not-false, not-true}
use Rattle.orders.proofs.Slips.{slip_does}
use Rattle.orders.proofs.Carried.{popped_does}
use Rattle.orders.proofs.taking.pop_line.Statement.{statement}
use Rattle.orders.proofs.taking.pop_line.Tie as tie

returns : tie.Need-returns-then-not-ends_at
returns c = rw (c.slip.ensures, sym c.ends_at.ensures ∙ not-true _ c.if-not-ends_at.true-raw) (slip_does _ _ 1)

returns_2 : tie.Need-returns
returns_2 c =
    rw (c.of_step.ensures, c.pop.ensures, sym c.ends_at.ensures ∙ not-false _ c.if-not-ends_at.false-raw) (popped_does _ _ _ _)

pub pop_line_spec : {M : Type 1} → statement M
pop_line_spec = tie.close (tie.spec (λ c κs. search rules) (λ c κs. search rules) returns (λ c κs. search rules) (λ c κs. search rules) returns_2)
