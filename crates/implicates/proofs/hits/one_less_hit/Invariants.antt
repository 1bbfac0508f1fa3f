-- The loop of `one_less_hit`: `rest` is the number of the digits of the symbols that are left, `weight` the next digit's weight, and each clause
-- without one literal of a later symbol is hit.
use Rattle.meaning.proofs.Kit.{◌≡◌, true, ◌-◌, ◌^◌, take}
use Rattle.implicates.specs.Numbers.{number, clause_at}
use Rattle.implicates.proofs.Lone.{hits_after}
use Rattle.implicates.proofs.hits.one_less_hit.Given as goal

abbrev pub invariant-loop : goal.invariant-loop
invariant-loop l = record {
  left : l.rest ≡ number (take (l.n - l.counter) (clause_at l.n l.c));
  weighs : l.weight ≡ 3 ^ (l.n - (l.n - l.counter));
  after : hits_after l.hits l.n l.c (l.n - l.counter) ≡ true;
}
