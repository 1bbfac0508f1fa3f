-- The loop of `append_primes`: the rows of the clauses of fewer than k literals stand in the table.
use Rattle.meaning.specs.BySize.{below_size}
use Rattle.meaning.specs.Clauses.{clauses, size}
use Rattle.implicates.specs.Hits.{marked}
use Rattle.implicates.proofs.Turns.{Stands}
use Rattle.implicates.proofs.rows.append_primes.Given as goal

abbrev pub invariant-loop-k : goal.invariant-loop-k
invariant-loop-k l = Stands l.initial.table l.row l.rule l.symbols (below_size size (marked l.primes) (clauses l.n) l.k) l.table l.next
