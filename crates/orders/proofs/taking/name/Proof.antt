-- `taking::name` meets its contract: the name is written where the tests are passed.
use Rattle.meaning.proofs.Kit.{ap, ◌≤◌, ◌-◌, ◌+◌, ◌*◌, arith, rules}
use Rattle.orders.specs.States.{is_made}
use Rattle.orders.proofs.Own.{named_does}
use Rattle.orders.proofs.Named.{named_fits, slot_written, unmade}
use Rattle.orders.proofs.taking.name.Statement.{statement}
use Rattle.orders.proofs.taking.name.Tie as tie

fits : (c : tie.In-Done) → let a = c.args in (1 ≤ a.symbol) × (a.symbol ≤ 200)
fits c = named_fits _ _ _ _ _ c.judge_name-judged.ensures c.in-Done.is

returns : tie.Need-returns-in-Done
returns c =
    let a = c.args in
    let at = 24 * (a.symbol - 1) in
    rw (slot_written a.names.now at (at + 24 - at) a.given.now _ (omega arith) (omega (arith, fits c.before.before.before.before, c.requires)) c.put.ensures)
    (rw (ap is_made c.in-Done.is) at (named_does a.desk a.table.now _ _ _ _ c.judge_name-judged.ensures))

returns_2 : tie.Need-returns-in_default
returns_2 c =
    let a = c.args in
    rw (unmade _ c.in_default.in_default-own.keys2) at (named_does a.desk a.table.now _ _ _ _ c.judge_name-judged.ensures)

pub name_spec : {M : Type 1} → statement M
name_spec = tie.close (tie.spec
    (λ c κs. search rules) (λ c. search rules) (λ c. omega (arith, (fits c).0)) (λ c. omega (arith, (fits c).1)) (λ c. omega (arith, (fits c).1))
    (λ c. omega arith) (λ c. omega arith) (λ c. omega (arith, fits c)) (λ c κs. search rules) (λ c. search rules) returns (λ c. search rules)
    returns_2)
