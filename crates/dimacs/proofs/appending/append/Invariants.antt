-- The loop of `append`: what is left comes to the table that the whole comes to. The measure is how many bytes are left.
use Rattle.meaning.proofs.Kit.{◌≡◌, [], ◌-◌, length, drop}
use Rattle.literals.specs.Row.{rows_lent}
use Rattle.implicates.specs.Appending.{appended}
use Rattle.dimacs.specs.Words.{words}
use Rattle.dimacs.specs.Form.{clauses_in}
use Rattle.dimacs.proofs.LastPass.{Left, numbered_rows}
use Rattle.dimacs.proofs.appending.append.Given as goal

abbrev pub invariant-loop-places : goal.invariant-loop-places
invariant-loop-places l =
    let whole = appended l.fn.table l.used (numbered_rows l.symbols l.rules (clauses_in l.variables [] (words (drop l.at l.text)))) in
    (length l.places ≡ 8) × Left l.symbols (rows_lent l.fn.table) l.variables l.text whole (length l.fn.table) l.i l.row l.rule l.table

abbrev pub decreases-loop-places : goal.decreases-loop-places
decreases-loop-places l = length l.text - l.i
