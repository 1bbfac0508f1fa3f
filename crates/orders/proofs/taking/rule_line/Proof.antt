-- `taking::rule_line` meets its contract: the text has room.
use Rattle.meaning.proofs.Kit.{sym, ap, ◌≤◌, arith, length, length-take-le, rules}
use Rattle.orders.proofs.Typed.{rest_within}
use Rattle.orders.proofs.taking.rule_line.Statement.{statement}
use Rattle.orders.proofs.taking.rule_line.Tie as tie

short : (c : tie.After-rest-typed) → length c.rest-typed.result.now ≤ 500
short c = omega (arith, ap length c.rest-typed.ensures, rest_within 1 c.args.line.now, c.requires.1)

add_typed_requires : tie.Need-add_typed-requires
add_typed_requires c κs = (c.requires.0, length-take-le _ _ (omega (arith, short c.before.before)))

returns : tie.Need-returns
returns c = rw (← c.rest-typed.ensures) c.add_typed.ensures

pub rule_line_spec : {M : Type 1} → statement M
rule_line_spec = tie.close (tie.spec
    (λ c κs. search rules) (λ c. omega (arith, short c.before)) (λ c. sym (length-take-le _ _ (omega (arith, short c.before.before))))
    add_typed_requires (λ c. search rules) returns)
