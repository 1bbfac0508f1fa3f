-- The first number that passes a test, as a loop finds it.
use Rattle.meaning.proofs.Kit.{◌≡◌, ◌∙◌, sym, refl, inl, inr, true, false, Bool, cond, not, ◌≤◌, ℕ, ◌<◌, suc, zero, arith, ⊎_elim, eqb, ne_eqb, eqb-true, eqb-false}
use Rattle.std.specs.Prelude.{Option, Some, None}
use Rattle.std.specs.Option.{is_some}
use Rattle.meaning.specs.Tests.{none, first}
use Rattle.meaning.proofs.Tests.{true_or_false}
use Rattle.meaning.proofs.Tables.{first_is, first_only}
use Rattle.findings.specs.Ranks.{found}

module _ (test : ℕ → Bool) (n : ℕ) (few : n ≤ none) where
  pub first_found : (r : ℕ) → r < n → ((i : ℕ) → i < r → test i ≡ false) → test r ≡ true → r ≡ first test n
  first_found r h before here = first_only test n r _ (inl (h, here, before)) (first_is test n few)

  pub first_missing : ((i : ℕ) → i < n → test i ≡ false) → none ≡ first test n
  first_missing all = first_only test n none _ (inr (refl, all)) (first_is test n few)

-- what the search answers, by whether it found a number
pub found_some : {n : ℕ} → n < none → Some n ≡ found n
found_some {n} h = rw (ne_eqb n none (λ e. omega arith))

pub found_at : {r n : ℕ} → Some r ≡ found n → (r ≡ n) × (r ≡ none → ⊥)
found_at {r} {n} e =
    ⊎_elim (λ t. absurd (let no : Some r ≡ None = rw t at e in cc))
    (λ f. (let one : Some r ≡ Some n = rw f at e in let is : r ≡ n = cc in (is, λ z. eqb-false n none f (sym is ∙ z))))
    (true_or_false (eqb n none))

pub found_not : {n : ℕ} → None ≡ found n → n ≡ none
found_not {n} e =
    ⊎_elim (λ t. eqb-true n none t) (λ f. absurd (let no : None ≡ Some n = rw f at e in cc)) (true_or_false (eqb n none))

pub found_is_some : (n : ℕ) {one : Option ℕ} → one ≡ found n → is_some one ≡ not (eqb n none)
found_is_some n e = rw e (go (eqb n none))
  where
    go : (t : Bool) → is_some (cond t None (Some n)) ≡ not t
    go true = refl
    go false = refl

-- tests that agree have the same first
pub first_same : (n : ℕ) (f g : ℕ → Bool) → ((i : ℕ) → i < n → f i ≡ g i) → first f n ≡ first g n
first_same zero f g h = refl
first_same (suc n) f g h = rw (first_same n f g (λ i l. h i (omega arith)), h n (omega arith))
