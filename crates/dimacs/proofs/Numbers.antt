-- The number that a word spells, a byte at a time: it stays at 32,768 once it is there, so that no count of digits is too large for a machine
-- word; and it is the plain number of the digits, where that is below.
use Rattle.meaning.proofs.Kit.{◌≡◌, sym, refl, true, false, Bool, cond, List, [], ◌∷◌, ◌≤◌, ℕ, ◌<◌, ◌-◌, ◌+◌, ◌*◌, min, add-one, arith, length, get_or}
use Rattle.meaning.proofs.Kit.{drop, drop_of_length-le, drop-cons}
use Rattle.meaning.specs.Tests.{all}
use Rattle.spelling.specs.Text.{decimal, is_digit}
use Rattle.dimacs.specs.Words.{beyond, is_gap, number_of, up_to}
use Rattle.dimacs.specs.Gathering.{grown}
use Rattle.dimacs.proofs.Tested.{by_test}

-- a number with the bytes of a word after it
unfoldable pub spelled : (sum : ℕ) → List ℕ → ℕ
spelled sum [] = sum
spelled sum (c ∷ rest) = spelled (grown sum c) rest

-- ---- it is the number that is meant

beyond_stays : (w : List ℕ) → spelled beyond w ≡ beyond
unfolding spelled
beyond_stays [] = refl
beyond_stays (c ∷ rest) =
    let e : min (beyond * 10 + (c - 48)) beyond ≡ beyond = omega arith in
    by_test (is_digit c) (λ t. rw (t, e) (beyond_stays rest)) (λ f. rw f (beyond_stays rest))

spelled_is : (n : ℕ) (w : List ℕ) → spelled (min n beyond) w ≡ cond (all is_digit w) (min (decimal n w) beyond) beyond
unfolding spelled decimal
spelled_is n [] = refl
spelled_is n (c ∷ rest) =
    let d = c - 48 in
    let e : min (min n beyond * 10 + d) beyond ≡ min (n * 10 + d) beyond = omega arith in
    by_test (is_digit c) (λ t. rw (t, e) (spelled_is (n * 10 + d) rest)) (λ f. rw f (beyond_stays rest))

pub number_is : (w : List ℕ) → number_of w ≡ spelled 0 w
unfolding number_of
number_is w = sym (spelled_is 0 w)

-- ---- none is above 32,768

most : (b : Bool) (n : ℕ) → cond b (min n beyond) beyond ≤ beyond
most true n = omega arith
most false n = omega arith

pub grown_most : (n c : ℕ) → grown n c ≤ beyond
grown_most n c = most (is_digit c) (n * 10 + (c - 48))

pub number_most : (w : List ℕ) → number_of w ≤ beyond
unfolding number_of
number_most w = most (all is_digit w) (decimal 0 w)

-- ---- up to a gap of a text

module _ (sum : ℕ) (text : List ℕ) (i : ℕ) where
  pub spelled_stops : i < length text → is_gap (get_or text i 0) ≡ true → spelled sum (up_to is_gap (drop i text)) ≡ sum
  unfolding up_to spelled
  spelled_stops h e = rw (drop-cons text i 0 h, e)

  pub spelled_more : i < length text → is_gap (get_or text i 0) ≡ false
      → spelled sum (up_to is_gap (drop i text)) ≡ spelled (grown sum (get_or text i 0)) (up_to is_gap (drop (i + 1) text))
  unfolding up_to spelled
  spelled_more h e = rw (add-one, drop-cons text i 0 h, e)

  pub spelled_none : length text ≤ i → spelled sum (up_to is_gap (drop i text)) ≡ sum
  unfolding up_to spelled
  spelled_none h = rw (drop_of_length-le text h)
