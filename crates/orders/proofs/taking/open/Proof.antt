-- `taking::open` meets its contract: by the outcome of the call.
use Rattle.meaning.proofs.Kit.{rules}
use Rattle.orders.proofs.Own.{zeros, opened_does, unopened_does}
use Rattle.orders.proofs.taking.open.Statement.{statement}
use Rattle.orders.proofs.taking.open.Tie as tie

returns : tie.Need-returns-in-Err
returns c =
    rw c.simple.ensures (unopened_does _ _ _ _ _ (rw (← c.open-step.ensures) c.in-Err.is))

returns_2 : tie.Need-returns-in-Ok
returns_2 c =
    rw (c.simple-in-Ok.ensures, c.put.ensures, c.requires, zeros, c.open-step.ensures)
    (opened_does _ _ _ _ (rw (← c.open-step.ensures) c.in-Ok.is))

pub open_spec : {M : Type 1} → statement M
open_spec = tie.close (tie.spec
    (λ c κs. search rules) (λ c. search rules) (λ c κs. search rules) (λ c. search rules) (λ c κs. search rules) (λ c κs. search rules)
    returns (λ c. search rules) returns_2)
