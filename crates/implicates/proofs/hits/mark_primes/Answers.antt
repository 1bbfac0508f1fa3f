-- `mark_primes` meets its contract.
use Rattle.meaning.proofs.Kit.{◌∙◌, false, arith, get_or-set_other}
use Rattle.meaning.proofs.Tables.{filled_more}
use Rattle.implicates.specs.Numbers.{clause_at}
use Rattle.implicates.specs.Hits.{prime_in, prime_table}
use Rattle.implicates.proofs.Numbers.{table_filled}
use Rattle.implicates.proofs.Lone.{prime_in_ahead}
use Rattle.implicates.proofs.hits.mark_primes.Goals as goal

pub loop-c-preserved : goal.loop-c-preserved
loop-c-preserved c =
    let hits = c.args.hits.now in
    let n = c.args.n in
    let l = c.loop-c in
    let prime = c.is_prime.ensures ∙ prime_in_ahead l.hits hits n l.c (omega arith) l.invariant.ahead in
    record {
      answered = filled_more false (λ i. prime_in hits (clause_at n i)) l.hits l.c c.is_prime.result (omega arith) l.invariant.answered prime;
      ahead = λ i h. get_or-set_other l.hits l.c i c.is_prime.result false (λ e. omega (arith, e)) ∙ l.invariant.ahead i (omega arith);
    }

pub returns : goal.returns
unfolding prime_table
returns c =
    let l = c.loop-c in
    table_filled (prime_in c.args.hits.now) c.args.n l.hits (omega arith) (λ i h. l.invariant.answered i (omega arith))
