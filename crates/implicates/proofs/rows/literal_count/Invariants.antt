-- The loop of `literal_count`: `rest` is the number of the digits of the symbols that are left, and `count` counts the literals of the others.
use Rattle.meaning.proofs.Kit.{◌≡◌, ◌-◌, drop, take}
use Rattle.meaning.specs.Clauses.{size}
use Rattle.implicates.specs.Numbers.{number, clause_at}
use Rattle.implicates.proofs.rows.literal_count.Given as goal

abbrev pub invariant-loop : goal.invariant-loop
invariant-loop l = record {
  left : l.rest ≡ number (take (l.n - l.counter) (clause_at l.n l.c));
  counted : l.count ≡ size (drop (l.n - l.counter) (clause_at l.n l.c));
}
