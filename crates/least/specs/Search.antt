-- How the least is searched: the sets by size, then by number, until one ends the conflict; and cores of the conflicts that were left are kept, so
-- that no set is tried that misses one of these.
use Rattle.std.specs.Prelude.{ℕ, ◌^◌, ◌≤◌, ◌<◌, ◌≡◌, ◌⊎◌, Bool, false, not, ◌&&◌, eqb, ℤ, length, take, Some, None}
use mathlib.Core.List.{List, Memᴰ as In}
use Rattle.std.specs.Int.Bits.{bit_and}
use Rattle.meaning.specs.Tests.{any, none}
use Rattle.candidates.specs.Sets.{size}
use Rattle.board.specs.Faults.{first_fault}
use Rattle.board.specs.declared.Board.{Board}
use Rattle.candidates.specs.Given.{places_of}
use Rattle.least.specs.Withdrawing.{least_at, stay_faults, candidate_faults, withdrawal}
use Rattle.least.specs.declared.Withdrawal.{Withdrawal}
use Rattle.least.specs.declared.search.Progress.{Progress}

-- some core has no candidate of the set
abbrev pub misses_one : (cores : List ℕ) → ℕ → Bool
misses_one cores m = any (λ core. eqb (bit_and core m) 0) cores

-- a set of k candidates that misses no core: it may end the conflict
abbrev pub worth_trying : (cores : List ℕ) → (n k m : ℕ) → Bool
worth_trying cores n k m = eqb (size n m) k && not (misses_one cores m)

-- what is known, where `ends` tells of a set whether it ends the conflict: none of fewer than k candidates does, and none of k below the number m;
-- the first `known` of `cores` are cores, and no set that misses one of them does
pub record Searched (ends : ℕ → Bool) (n k m known : ℕ) (cores : List ℕ) : Type 0 where
  pub smaller : (a : ℕ) → a < 2 ^ n → size n a < k → ends a ≡ false
  pub lower : (a : ℕ) → a < m → size n a ≡ k → ends a ≡ false
  pub room : known ≤ length cores
  pub missed : (core a : ℕ) → In core (take known cores) → bit_and core a ≡ 0 → ends a ≡ false

-- how far a search is: none is found yet, and so much is known; or one is, and it is the answer
abbrev pub Looked : (ends : ℕ → Bool) → (answer n k m : ℕ) → Progress → (cores : List ℕ) → Type 0
Looked ends answer n k m so_far cores =
    ((so_far.found ≡ None) × Searched ends n k m so_far.cores cores) ⊎ ((so_far.found ≡ Some answer) × (answer < none))

-- ---- the answer, once the tests before have passed

-- by the candidates' places: 18, or the set
abbrev pub stay_answer : List ℤ → Board → (furnace : ℕ) → (places : List ℕ) → Withdrawal
stay_answer table b furnace places = withdrawal (first_fault (stay_faults table b furnace places)) (least_at table b furnace places)

-- by the candidates, no more than 12 of them: 17 and 11 before that
abbrev pub given_answer : List ℤ → Board → (furnace : ℕ) → (cands : List ℤ) → Withdrawal
given_answer table b furnace cands =
    withdrawal (first_fault (candidate_faults false table b furnace cands)) (least_at table b furnace (places_of cands))
