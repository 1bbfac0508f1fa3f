-- The bytes that it looks in are the first words.
use Rattle.orders.specs.Orders.{slot_of_order}
use Rattle.orders.proofs.order.slot_of_order.Goals as goal

pub returns : goal.returns
unfolding slot_of_order
returns c = c.find.ensures
