-- The places of candidates that are literals of a board, and of those that a set has.
use Rattle.meaning.proofs.Kit.{◌≡◌, ◌∙◌, true, List, In, ◌≤◌, ℕ, ◌<◌, ◌*◌, arith, ltb, ℤ, ltb-true, lt-ltb}
use Rattle.meaning.specs.Tests.{all}
use Rattle.candidates.specs.Sets.{chosen}
use Rattle.meaning.proofs.Tests.{all_at, all_map, all_imp}
use Rattle.candidates.proofs.ChosenSets.{chosen_in}
use Rattle.literals.specs.Literal.{in_range, place_of}
use Rattle.literals.proofs.Arguments.{range_more, place_fits}
use Rattle.candidates.specs.Given.{places_of}

-- each is one of the board's places,
pub places_low : (S : ℕ) (cands : List ℤ) → all (in_range S) cands ≡ true → all (λ p. ltb p (2 * S)) (places_of cands) ≡ true
places_low S cands e =
    all_map (λ p. ltb p (2 * S)) place_of cands
    ∙ all_imp (in_range S) (λ c. ltb (place_of c) (2 * S)) cands (λ c m h. lt-ltb (place_of c) (2 * S) (place_fits S c h)) e

-- and of a larger table's,
pub low_more : (n k : ℕ) (places : List ℕ) → n ≤ k → all (λ p. ltb p n) places ≡ true → all (λ p. ltb p k) places ≡ true
low_more n k places le e = all_imp (λ p. ltb p n) (λ p. ltb p k) places (λ p m h. lt-ltb p k (omega (arith, ltb-true p n h))) e

-- and each literal one of a larger board's
pub in_range_more : (S T : ℕ) (cands : List ℤ) → S ≤ T → all (in_range S) cands ≡ true → all (in_range T) cands ≡ true
in_range_more S T cands le e = all_imp (in_range S) (in_range T) cands (λ c m h. range_more S c h T le) e

-- the candidates that a set has are candidates
pub chosen_low : (n : ℕ) (cands : List ℕ) (m p : ℕ) → all (λ q. ltb q n) cands ≡ true → In p (chosen cands m) → p < n
chosen_low n cands m p low h = ltb-true p n (all_at (λ q. ltb q n) low (chosen_in cands m h))
