-- The loop of `words::line_end`: no line feed stands before this byte.
use Rattle.dimacs.specs.Words.{ends}
use Rattle.dimacs.proofs.Scanning.{Sought}
use Rattle.dimacs.proofs.words.line_end.Given as goal

abbrev pub invariant-loop-i : goal.invariant-loop-i
invariant-loop-i l = Sought ends l.text l.at l.i
