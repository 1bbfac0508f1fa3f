-- A slot of the table is below 200.
use Rattle.std.proofs.Common.{sym, arith}
use Rattle.names.proofs.Finding.{slot_few}
use Rattle.answers.proofs.answering.say_named.Goals as goal

pub overflow_add-slot : goal.overflow_add-slot
overflow_add-slot g c = omega (arith, slot_few c.args.names.now c.word-given.result.now c.in-Some.slot (sym c.in-Some.ensures))
