-- `sitting::plain_length` meets its contract: by the last byte.
use Rattle.meaning.proofs.Kit.{rules, ne_eqb}
use Rattle.desk.specs.Sittings.{plain_length}
use Rattle.desk.proofs.Plain.{plain_none}
use Rattle.desk.proofs.sitting.plain_length.Statement.{statement}
use Rattle.desk.proofs.sitting.plain_length.Tie as tie

returns : tie.Need-returns-then-n-eq0
returns c = plain_none c.before.args.line.now c.if-n-eq0.true

returns_2 : tie.Need-returns-then-line-n-eq13
unfolding plain_length
returns_2 c = rw c.if-line-n-eq13.true

returns_3 : tie.Need-returns
unfolding plain_length
returns_3 c = rw (ne_eqb _ 13 c.if-line-n-eq13.false)

pub plain_length_spec : {M : Type 1} → statement M
plain_length_spec = tie.close (tie.spec returns (λ c. search rules) (λ c. search rules) (λ c. search rules) returns_2 returns_3)
