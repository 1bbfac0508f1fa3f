-- `taking::work` meets its contract: by the furnace's number.
use Rattle.meaning.proofs.Kit.{◌∙◌, rules, ne_eqb}
use Rattle.board.specs.Furnaces.{is_furnace}
use Rattle.orders.proofs.taking.work.Statement.{statement}
use Rattle.orders.proofs.taking.work.Tie as tie

returns : tie.Need-returns-then-furnace-eq1
unfolding is_furnace
returns c = c.simple.ensures ∙ rw c.if-furnace-eq1.true

returns_2 : tie.Need-returns-then-furnace-eq2
unfolding is_furnace
returns_2 c = c.simple-then-furnace-eq2.ensures ∙ rw c.if-furnace-eq2.true

returns_3 : tie.Need-returns
unfolding is_furnace
returns_3 c = c.simple-2.ensures ∙ rw (ne_eqb _ 1 c.if-furnace-eq1.false, ne_eqb _ 2 c.if-furnace-eq2.false)

pub work_spec : {M : Type 1} → statement M
work_spec = tie.close (tie.spec (λ c κs. search rules) returns (λ c κs. search rules) returns_2 (λ c κs. search rules) returns_3)
