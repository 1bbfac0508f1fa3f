-- Each test settles a case of it: a number, no name, a name that is known, another.
use Rattle.std.proofs.Common.{sym, ap, add-one, arith, Ok}
use Rattle.names.proofs.Finding.{slot_few}
use Rattle.orders.specs.Reading.{symbol_in}
use Rattle.orders.proofs.reading.symbol_in.Goals as goal

pub returns-then-is_number : goal.returns-then-is_number
unfolding symbol_in
returns-then-is_number c = rw (← c.is_number.ensures, c.if-is_number.true) (ap Ok c.value_of.ensures)

pub returns-then-not-is_name : goal.returns-then-not-is_name
unfolding symbol_in
returns-then-not-is_name c = rw (← c.is_number.ensures, c.if-is_number.false, ← c.is_name.ensures, c.if-not-is_name.true)

pub overflow_add-result : goal.overflow_add-result
overflow_add-result c = omega (arith, slot_few c.args.names.now c.args.word.now c.in-Some.slot (sym c.in-Some.ensures))

pub returns-in-Some : goal.returns-in-Some
unfolding symbol_in
returns-in-Some c =
    rw (← c.is_number.ensures, c.if-is_number.false, ← c.is_name.ensures, c.if-not-is_name.false, ← c.in-Some.ensures)
    (ap Ok (add-one c.in-Some.slot))

pub returns-in-None : goal.returns-in-None
unfolding symbol_in
returns-in-None c = rw (← c.is_number.ensures, c.if-is_number.false, ← c.is_name.ensures, c.if-not-is_name.false, ← c.in-None.ensures)
