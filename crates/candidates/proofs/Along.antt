-- Going along a list, or through the numbers below n, to find whether one passes a test: by those from i on. The library's tests of a list are these.
use Rattle.meaning.proofs.Kit.{◌≡◌, ◌∙◌, sym, ap, refl, ◌&&◌, ◌||◌, true, false, Bool, List, ◌∷◌, ◌≤◌, ℕ, ◌<◌, ◌+◌, suc, zero, add-one, arith, length, get_or, drop, drop_of_length-le}
use Rattle.meaning.proofs.Kit.{drop-cons}
use Rattle.std.specs.List.{list_all, list_any, range_with_len}
use Rattle.std.proofs.lemmas.List.Recursion.{same_from_clauses}
use Rattle.meaning.specs.Tests.{any, all, from}
use Rattle.meaning.proofs.Tests.{in_at, any_at}
use Rattle.meaning.proofs.BySize.{length_from, from_at}

-- one of them passes just if one from i on does
pub record OneFrom {A : Type 0} (test : A → Bool) (xs : List A) (i : ℕ) : Type 0 where
  pub is : any test (drop i xs) ≡ any test xs

module _ {A : Type 0} {test : A → Bool} {xs : List A} {i : ℕ} where
  pub one_on : OneFrom test xs i → (d : A) → i < length xs → test (get_or xs i d) ≡ false → OneFrom test xs (i + 1)
  one_on o d l e = record { is = sym (sym o.is ∙ rw (drop-cons xs i d l, add-one i, e)) }

  pub one_found : OneFrom test xs i → (d : A) → i < length xs → test (get_or xs i d) ≡ true → true ≡ any test xs
  one_found o d l e = sym (any_at test (in_at xs i d l) e)

  pub one_none : OneFrom test xs i → length xs ≤ i → false ≡ any test xs
  one_none o l = rw (drop_of_length-le xs {i = i} l) at o.is

-- the tests of a list are the library's
pub list_all_is : {A : Type 0} (test : A → Bool) (xs : List A) → list_all test xs ≡ all test xs
list_all_is test = same_from_clauses (list_all test) (all test) (λ x b. test x && b) refl (λ _ _. refl) (λ _ _. refl)

pub list_any_is : {A : Type 0} (test : A → Bool) (xs : List A) → list_any test xs ≡ any test xs
list_any_is test = same_from_clauses (list_any test) (any test) (λ x b. test x || b) refl (λ _ _. refl) (λ _ _. refl)

-- and so are the numbers of a range
range_is : (a n : ℕ) → range_with_len a n ≡ from a n
range_is a zero = refl
range_is a (suc n) = ap (λ (ns : List ℕ). a ∷ ns) (range_is (a + 1) n ∙ ap (λ (k : ℕ). from k n) (add-one a))

pub range_any_is : (test : ℕ → Bool) (n : ℕ) → list_any test (range_with_len 0 n) ≡ any test (from 0 n)
range_any_is test n = ap (list_any test) (range_is 0 n) ∙ list_any_is test (from 0 n)

-- of the numbers below n
module _ (test : ℕ → Bool) (n i : ℕ) (o : OneFrom test (from 0 n) i) where
  abbrev number : i < n → get_or (from 0 n) i 0 ≡ i
  number l = from_at 0 n i l ∙ omega arith

  pub below_on : i < n → test i ≡ false → OneFrom test (from 0 n) (i + 1)
  below_on l e = one_on o 0 (omega (arith, length_from 0 n)) (ap test (number l) ∙ e)

  pub below_found : i < n → test i ≡ true → true ≡ any test (from 0 n)
  below_found l e = one_found o 0 (omega (arith, length_from 0 n)) (ap test (number l) ∙ e)

  pub below_none : n ≤ i → false ≡ any test (from 0 n)
  below_none l = one_none o (omega (arith, length_from 0 n))
