-- The loop of `writing::text_size`: the header, and the lines of the rows before this one.
use Rattle.meaning.proofs.Kit.{◌≡◌, ◌≤◌, ◌+◌, ◌*◌, length}
use Rattle.dimacs.specs.Writing.{clauses_at, counts_line, clause_lines}
use Rattle.dimacs.proofs.writing.text_size.Given as goal

abbrev pub invariant-loop-row : goal.invariant-loop-row
invariant-loop-row l =
    (l.size ≡ length (counts_line l.symbols l.used) + length (clause_lines (clauses_at l.row l.table))) × (l.size ≤ 48 + 58 * l.row)
