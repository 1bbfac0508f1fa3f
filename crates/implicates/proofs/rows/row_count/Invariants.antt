-- The loop of `row_count`: `count` counts those of the first c clauses that are marked.
use Rattle.meaning.proofs.Kit.{◌≡◌, ◌≤◌, length, take}
use Rattle.meaning.specs.Tests.{keep}
use Rattle.meaning.specs.Clauses.{clauses}
use Rattle.implicates.specs.Hits.{marked}
use Rattle.implicates.proofs.rows.row_count.Given as goal

abbrev pub invariant-loop-c : goal.invariant-loop-c
invariant-loop-c l = (l.count ≤ l.c) × (l.count ≡ length (keep (marked l.primes) (take l.c (clauses l.n))))
