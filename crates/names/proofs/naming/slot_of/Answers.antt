-- A word that is no name has no slot; another has the one that is found.
use Rattle.std.proofs.Common.{◌∙◌, sym}
use Rattle.names.specs.Names.{name_slot}
use Rattle.names.proofs.naming.slot_of.Goals as goal

pub returns-then-not-is_name : goal.returns-then-not-is_name
unfolding name_slot
returns-then-not-is_name c = rw (sym c.is_name.ensures ∙ c.if-not-is_name.true)

pub returns : goal.returns
unfolding name_slot
returns c = rw (sym c.is_name.ensures ∙ c.if-not-is_name.false) c.find.ensures
