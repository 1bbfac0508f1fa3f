-- The loop of `mark_primes`: below c the table has the answers, and from c on it is as it was.
use Rattle.meaning.proofs.Kit.{◌≡◌, false, ◌≤◌, ℕ, ◌<◌, get_or}
use Rattle.implicates.specs.Numbers.{clause_at}
use Rattle.implicates.specs.Hits.{prime_in}
use Rattle.implicates.proofs.hits.mark_primes.Given as goal

abbrev pub invariant-loop-c : goal.invariant-loop-c
invariant-loop-c l = record {
  answered : (i : ℕ) → i < l.c → get_or l.hits i false ≡ prime_in l.initial.hits (clause_at l.n i);
  ahead : (i : ℕ) → l.c ≤ i → get_or l.hits i false ≡ get_or l.initial.hits i false;
}
