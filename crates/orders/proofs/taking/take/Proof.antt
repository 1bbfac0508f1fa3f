-- `taking::take` meets its contract: a line that is too long is none; of another the first word decides.
use Rattle.meaning.proofs.Kit.{arith, length, rules, lt-ltb, le-ltb}
use Rattle.orders.specs.Lines.{line_of}
use Rattle.orders.proofs.Slips.{slip_does}
use Rattle.orders.proofs.taking.take.Statement.{statement}
use Rattle.orders.proofs.taking.take.Tie as tie

returns : tie.Need-returns-then-line-gt-MOST_BYTES
unfolding line_of
returns c =
    rw (c.slip.ensures, lt-ltb 500 (length c.args.line.now) (omega arith)) (slip_does _ _ 0)

returns_2 : tie.Need-returns
unfolding line_of
returns_2 c =
    rw (le-ltb 500 (length c.args.line.now) (omega arith), ← c.word.ensures, ← c.order_of-order.ensures) c.take_order.ensures

pub take_spec : {M : Type 1} → statement M
take_spec = tie.close (tie.spec
    (λ c κs. search rules) returns (λ c κs. search rules) (λ c κs. search rules) (λ c κs. search rules) (λ c. search rules) (λ c. search rules)
    returns_2)
