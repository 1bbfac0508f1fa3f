-- The prime implicates in order: which clauses the list has, and on what of the rule it depends.
use Rattle.meaning.proofs.Kit.{◌≡◌, subst, Bool, List, In, ℕ, suc, arith, length}
use Rattle.meaning.specs.Clauses.{Digit, clauses, size, in_order, prime, primes_in_order}
use Rattle.meaning.specs.Promises.{AllPrimes}
use Rattle.meaning.proofs.BySize.{below_size_of, below_size_in, below_size_same}
use Rattle.meaning.proofs.Clauses.{clauses_in_lem, clauses_length, size_le}
use Rattle.meaning.proofs.Primes.{prime_same}

-- the list has the prime implicates over n symbols and no other clause
pub all_primes : AllPrimes
all_primes sat n v = (
  λ m. let r = below_size_of size (prime sat) (clauses n) v (suc n) m in (clauses_length n v r.0, r.1),
  λ r.
      below_size_in size (prime sat) (clauses n) v (suc n) (subst (λ (m : ℕ). In v (clauses m)) r.0 (clauses_in_lem v)) r.1
      (omega (arith, size_le v, r.0)),
)

-- two tests that agree on the clauses over n symbols
pub in_order_same : (p q : List Digit → Bool) (n : ℕ) → ((v : List Digit) → length v ≡ n → p v ≡ q v) → in_order p n ≡ in_order q n
in_order_same p q n e = below_size_same size p q (clauses n) (λ v m. e v (clauses_length n v m)) (suc n)

-- two rules with the same satisfying assignments to n symbols have the same prime implicates
pub primes_same : (sat sat' : List Bool → Bool) (n : ℕ) → ((a : List Bool) → length a ≡ n → sat a ≡ sat' a)
    → primes_in_order sat n ≡ primes_in_order sat' n
primes_same sat sat' n f = in_order_same (prime sat) (prime sat') n (λ v l. prime_same sat sat' v (λ a k. f a (subst (λ (m : ℕ). length a ≡ m) l k)))
