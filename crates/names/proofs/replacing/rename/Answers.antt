-- A run that has a slot becomes its symbol's number, and another stays.
use Rattle.std.proofs.Common.{◌∙◌, sym, ap, add-one, arith, length}
use Rattle.std.specs.Option.{is_some}
use Rattle.names.specs.Replacing.{numeral}
use Rattle.names.proofs.Finding.{slot_few, symbol_at}
use Rattle.names.proofs.Replaced.{renamed_known, unknown_stays}
use Rattle.names.proofs.replacing.rename.Goals as goal

pub overflow_add-slot : goal.overflow_add-slot
overflow_add-slot c = omega (arith, slot_few c.args.names.now c.args.part.now c.in-Some.slot (sym c.in-Some.ensures))

pub returns-in-Some : goal.returns-in-Some
returns-in-Some c =
    let names = c.args.names.now in
    let part = c.args.part.now in
    let slot = c.in-Some.ensures in
    c.fill_numeral.ensures ∙ ap (numeral (length part)) (add-one c.in-Some.slot ∙ sym (symbol_at names part _ (sym slot)))
    ∙ sym (renamed_known names part (sym (ap is_some slot)))

pub returns-in_default : goal.returns-in_default
returns-in_default c = sym (unknown_stays c.args.names.now c.args.part.now (sym (ap is_some c.in_default.ensures)))
