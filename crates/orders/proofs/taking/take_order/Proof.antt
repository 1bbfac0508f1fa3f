-- `taking::take_order` meets its contract: by the order.
use Rattle.meaning.proofs.Kit.{rules}
use Rattle.orders.proofs.Slips.{slip_does, ask_does, rest_does}
use Rattle.orders.proofs.Asks.{asks_only}
use Rattle.orders.proofs.taking.take_order.Statement.{statement}
use Rattle.orders.proofs.taking.take_order.Tie as tie

returns : tie.Need-returns-in-Open
returns c = rw c.in-Open.is c.open_line.ensures

returns_2 : tie.Need-returns-in-Name
returns_2 c = rw c.in-Name.is c.name_line.ensures

returns_3 : tie.Need-returns-in-Rule
returns_3 c = rw c.in-Rule.is c.rule_line.ensures

returns_4 : tie.Need-returns-in-Hold
returns_4 c = rw c.in-Hold.is c.literal_line.ensures

returns_5 : tie.Need-returns-in-Drop
returns_5 c = rw c.in-Drop.is c.literal_line-in-Drop.ensures

returns_6 : tie.Need-returns-in-Push
returns_6 c = rw c.in-Push.is c.literal_line-in-Push.ensures

returns_7 : tie.Need-returns-in-Pop
returns_7 c = rw c.in-Pop.is c.pop_line.ensures

returns_8 : tie.Need-returns-in-Valve
returns_8 c = rw c.in-Valve.is c.valve_line.ensures

returns_9 : tie.Need-returns-in-Pairs
returns_9 c = rw c.in-Pairs.is c.pairs_line.ensures

returns_10 : tie.Need-returns-in-Furnace
returns_10 c = rw c.in-Furnace.is c.furnace_line.ensures

returns_11 : tie.Need-returns-in-Unknown
returns_11 c = rw (c.in-Unknown.is, c.slip.ensures) (slip_does _ _ 0)

returns_12 : tie.Need-returns-in-Nothing
returns_12 c = rw (c.in-Nothing.is, c.simple.ensures) (rest_does _)

returns_13 : tie.Need-returns-in_default
returns_13 c = rw (asks_only _ _ _ _ _ c.in_default.in_default-own.keys13, c.simple-in_default.ensures) (ask_does _)

pub take_order_spec : {M : Type 1} → statement M
take_order_spec = tie.close (tie.spec
    (λ c. search rules) (λ c κs. search rules) (λ c. search rules) (λ c κs. search rules) (λ c. search rules) (λ c κs. search rules)
    (λ c. search rules) (λ c κs. search rules) (λ c. search rules) (λ c κs. search rules) (λ c. search rules) (λ c κs. search rules)
    (λ c. search rules) (λ c κs. search rules) (λ c. search rules) (λ c κs. search rules) (λ c. search rules) (λ c κs. search rules)
    (λ c. search rules) (λ c κs. search rules) (λ c. search rules) (λ c κs. search rules) (λ c. search rules) (λ c κs. search rules)
    (λ c κs. search rules) (λ c. search rules) (λ c. search rules) returns (λ c. search rules) (λ c. search rules) returns_2 (λ c. search rules)
    (λ c. search rules) returns_3 (λ c. search rules) (λ c. search rules) returns_4 (λ c. search rules) (λ c. search rules) returns_5
    (λ c. search rules) (λ c. search rules) returns_6 (λ c. search rules) (λ c. search rules) returns_7 (λ c. search rules) (λ c. search rules)
    returns_8 (λ c. search rules) (λ c. search rules) returns_9 (λ c. search rules) (λ c. search rules) returns_10 returns_11 returns_12 returns_13)
