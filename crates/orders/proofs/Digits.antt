-- The number of a word, a digit at a time: it stays at 32,767 once it is there, so that no count of digits is too large for a machine word.
use Rattle.meaning.proofs.Kit.{◌≡◌, ◌∙◌, sym, refl, true, List, [], ◌∷◌, ◌≤◌, ℕ, ◌<◌, ◌-◌, ◌+◌, suc, ◌*◌, min, add-one, arith, ltb, length, get_or}
use Rattle.meaning.proofs.Kit.{drop, drop_of_length-le, drop-cons}
use Rattle.meaning.specs.Tests.{all}
use Rattle.meaning.proofs.Tests.{both_true}
use Rattle.candidates.proofs.Turns.{all_drop}
use Rattle.spelling.specs.Text.{decimal, is_digit}
use Rattle.orders.specs.Reading.{is_number, most, value_of}

-- that a number is capped early changes nothing once the whole is capped
capped : (cap n : ℕ) (w : List ℕ) → min (decimal (min n cap) w) cap ≡ min (decimal n w) cap
unfolding decimal
capped cap n [] = omega arith
capped cap n (c ∷ rest) = go (c - 48) (λ m. capped cap m rest)
  where
    go : (d : ℕ) → ((m : ℕ) → min (decimal (min m cap) rest) cap ≡ min (decimal m rest) cap)
        → min (decimal (min n cap * 10 + d) rest) cap ≡ min (decimal (n * 10 + d) rest) cap
    go d ih = let e : min (min n cap * 10 + d) cap ≡ min (n * 10 + d) cap = omega arith in sym (ih (min n cap * 10 + d)) ∙ rw e (ih (n * 10 + d))

-- a word that is read up to place k: digits are left, and the number goes on from `value`
pub record Valued (word : List ℕ) (k value : ℕ) : Type 0 where
  pub within : k ≤ length word
  pub small : value ≤ most
  pub digits : all is_digit (drop k word) ≡ true
  pub goes_on_lem : value_of word ≡ min (decimal value (drop k word)) most

pub valued_none : (word : List ℕ) → is_number word ≡ true → Valued word 0 0
unfolding is_number value_of
valued_none word e =
    record { within = omega arith; small = omega arith; digits = (both_true (all is_digit word) (ltb 0 (length word)) e).0; goes_on_lem = refl }

module _ {word : List ℕ} {k value : ℕ} (v : Valued word k value) where
  pub valued_more : k < length word → (next : ℕ) → next ≡ min (value * 10 + (get_or word k 0 - 48)) most → Valued word (k + 1) next
  unfolding decimal
  valued_more h next e = record {
    within = omega arith;
    small = omega arith;
    digits = (both_true (is_digit (get_or word k 0)) (all is_digit (drop (k + 1) word)) (sym (all_drop is_digit word k 0 h) ∙ v.digits)).1;
    goes_on_lem = v.goes_on_lem ∙ rw (add-one k, drop-cons word k 0 h, e) (sym (capped most (value * 10 + (get_or word k 0 - 48)) (drop (suc k) word)));
  }

  pub valued_all : length word ≤ k → value ≡ value_of word
  unfolding decimal
  valued_all h = let e : min value most ≡ value = omega (arith, v.small) in sym (v.goes_on_lem ∙ rw (drop_of_length-le word {i = k} h) e)
