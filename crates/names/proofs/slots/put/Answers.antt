-- The word's bytes are copied, and zeros fill what is left.
use Rattle.names.proofs.Padding.{padded_put}
use Rattle.names.proofs.slots.put.Goals as goal

pub returns : goal.returns
returns c =
    padded_put c.args.slot.now c.args.word.now c.copy_from_slice.new.self c.min-n.result c.min-n.ensures c.copy_from_slice.ensures.after
    c.fill.new.self (c.fill.ensures.after (λ y e. e))
