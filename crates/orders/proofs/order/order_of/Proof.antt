-- `order::order_of` meets its contract: each test settles a case of it.
use Rattle.meaning.proofs.Kit.{◌∙◌, sym, ap, arith}
use Rattle.orders.specs.Orders.{order_at}
use Rattle.orders.proofs.FirstWords.{order_of_none, order_of_remark, order_unknown, order_in_table}
use Rattle.orders.proofs.order.order_of.Statement.{statement}
use Rattle.orders.proofs.order.order_of.Tie as tie

returns : tie.Need-returns-then-word-eq0
returns c = order_of_none _ c.if-word-eq0.true

returns_2 : tie.Need-returns-then-word-eq35
returns_2 c = order_of_remark _ (omega arith) c.if-word-eq35.true

returns_3 : tie.Need-returns-then-run-word
returns_3 c =
    order_unknown c.args.word.now (omega arith) c.if-word-eq35.false (λ e. c.if-run-word.true (c.run.ensures ∙ e))

returns_4 : tie.Need-returns
returns_4 c =
    c.order_at.ensures
    ∙ ap order_at c.slot_of_order.ensures
    ∙ order_in_table c.args.word.now (omega arith) c.if-word-eq35.false (sym c.run.ensures ∙ c.if-run-word.false)

pub order_of_spec : {M : Type 1} → statement M
order_of_spec = tie.close (tie.spec returns (λ c. omega arith) returns_2 (λ c κs. tt) returns_3 (λ c κs. tt) (λ c κs. tt) returns_4)
