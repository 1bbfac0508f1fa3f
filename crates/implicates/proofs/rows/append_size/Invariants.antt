-- The loop of `append_size`: the rows of the clauses that are chosen of the first c stand in the table.
use Rattle.meaning.proofs.Kit.{take}
use Rattle.meaning.specs.BySize.{of_size}
use Rattle.meaning.specs.Clauses.{clauses, size}
use Rattle.implicates.specs.Hits.{marked}
use Rattle.implicates.proofs.Turns.{Stands}
use Rattle.implicates.proofs.rows.append_size.Given as goal

abbrev pub invariant-loop-c : goal.invariant-loop-c
invariant-loop-c l = Stands l.initial.table l.row l.rule l.symbols (of_size size (marked l.primes) (take l.c (clauses l.n)) l.k) l.table l.next
