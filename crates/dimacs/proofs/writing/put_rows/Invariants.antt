-- The loop of `writing::put_rows`: the lines of the rows before this one are written.
use Rattle.spelling.specs.Text.{Put}
use Rattle.dimacs.specs.Writing.{clauses_at, clause_lines}
use Rattle.dimacs.proofs.writing.put_rows.Given as goal

abbrev pub invariant-loop-row : goal.invariant-loop-row
invariant-loop-row l = Put l.fn.out l.out l.at (clause_lines (clauses_at l.row l.table)) l.next
