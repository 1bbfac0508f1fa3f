-- `sitting::take_line` meets its contract: what `take` promises, of the line without its carriage return.
use Rattle.std.proofs.Common.{sym, arith, length-take-le}
use Rattle.desk.proofs.Plain.{plain_within, plain_taken}
use Rattle.desk.proofs.Leaving.{leaves, on_err}
use Rattle.desk.proofs.sitting.take_line.Goals as goal

pub slice_bounds-text-end : goal.slice_bounds-text-end
slice_bounds-text-end g c = sym (length-take-le _ _ (omega (arith, c.plain_length-n.ensures, plain_within c.args.line.now)))

pub returns-clause-names_after : goal.returns-clause-names_after
returns-clause-names_after g c = plain_taken _ _ _ c.plain_length-n.ensures c.take-taken.ensures.moved

pub returns-in_err-say_line-clause-failed : goal.returns-in_err-say_line-clause-failed
returns-in_err-say_line-clause-failed g c = on_err _ (leaves (plain_taken _ _ _ c.plain_length-n.ensures c.take-taken.ensures.moved))

pub returns-in_err-echo-clause-failed : goal.returns-in_err-echo-clause-failed
returns-in_err-echo-clause-failed g c = on_err _ (leaves (plain_taken _ _ _ c.plain_length-n.ensures c.take-taken.ensures.moved))
