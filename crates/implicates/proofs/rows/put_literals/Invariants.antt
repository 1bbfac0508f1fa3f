-- The loop of `put_literals`: the literals of the symbols from k on stand in the row, from `at` on, and `rest` has the others' digits.
use Rattle.meaning.proofs.Kit.{◌≡◌, take}
use Rattle.meaning.specs.Clauses.{size}
use Rattle.implicates.specs.Numbers.{number, clause_at}
use Rattle.implicates.proofs.Putting.{put_from}
use Rattle.implicates.proofs.rows.put_literals.Given as goal

abbrev pub invariant-loop-k : goal.invariant-loop-k
invariant-loop-k l = record {
  left : l.rest ≡ number (take l.k (clause_at l.n l.c));
  ahead : l.at ≡ size (take l.k (clause_at l.n l.c));
  put : l.row ≡ put_from l.symbols (clause_at l.n l.c) l.k;
}
