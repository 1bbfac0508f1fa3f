-- Assignments are all listed, so a formula that is true of some truth values is satisfiable; and what an implicate says of them.
use Rattle.meaning.proofs.Kit.{◌≡◌, ◌∙◌, sym, ap, refl, ⊎_elim, true, false, Bool, ◌&&◌, not, List, [], ◌∷◌, map, In, here, in_of_map}
use Rattle.meaning.proofs.Kit.{in_map, in_append_left, in_append_right, in_one, ℕ, suc, zero, length, length-map, not-true}
use mathlib.Core.List.Memᴰ
use Rattle.meaning.specs.Tests.{all}
use Rattle.meaning.specs.Formulae.{Formula, value, inside, symbols_of, rule_of}
use Rattle.meaning.specs.Clauses.{Digit, assignments, falsifies, hit, implicate, shorter, prime, satisfiable}
use Rattle.meaning.proofs.Tests.{both_true, and_intro, not_intro, false_of, clash, any_found, any_at}
use Rattle.meaning.proofs.Formulae.{accepts_value}

-- the assignments to n symbols are the lists of n Booleans
pub assignment_listed : (a : List Bool) → In a (assignments (length a))
assignment_listed [] = here refl
assignment_listed (false ∷ a) = in_append_left _ (in_map (λ (b : List Bool). false ∷ b) (assignment_listed a))
assignment_listed (true ∷ a) =
    in_append_right (map (λ (b : List Bool). false ∷ b) (assignments (length a))) (in_map (λ (b : List Bool). true ∷ b) (assignment_listed a))

one_longer : (c : Bool) (n : ℕ) (a : List Bool) → ((b : List Bool) → In b (assignments n) → length b ≡ n)
    → In a (map (λ (b : List Bool). c ∷ b) (assignments n)) → length a ≡ suc n
one_longer c n a ih m = let r = in_of_map (λ (b : List Bool). c ∷ b) (assignments n) m in sym (ap length r.2) ∙ ap suc (ih r.0 r.1)

pub assignment_length : (n : ℕ) (a : List Bool) → In a (assignments n) → length a ≡ n
assignment_length zero a m = ap length (in_one m)
assignment_length (suc n) a m =
    ⊎_elim (one_longer false n a (assignment_length n)) (one_longer true n a (assignment_length n))
    (Memᴰ.append_cases (map (λ (b : List Bool). false ∷ b) (assignments n)) m)

pub satisfied_by : (S : ℕ) (f : Formula) (e : ℕ → Bool) → inside S f ≡ true → value e f ≡ true → satisfiable (rule_of S f) ≡ true
satisfied_by S f e i h =
    any_at (rule_of S f).accepts (rw (length-map (symbols_of S f) e) at (assignment_listed (map e (symbols_of S f)))) (accepts_value S f e i ∙ h)

module _ (sat : List Bool → Bool) where
  -- no assignment that satisfies the rule makes an implicate false
  pub implicate_holds : (v : List Digit) (a : List Bool) → implicate sat v ≡ true → length a ≡ length v → sat a ≡ true → falsifies v a ≡ false
  unfolding implicate hit
  implicate_holds v a i e s =
      false_of (falsifies v a)
      (λ f. clash (any_at (λ (b : List Bool). falsifies v b && sat b) (rw e at (assignment_listed a)) (and_intro (falsifies v a) (sat a) f s))
      (not-true (hit sat v) i))

  -- and a clause that none makes false is an implicate
  pub implicate_of : (v : List Digit) → ((a : List Bool) → length a ≡ length v → sat a ≡ true → falsifies v a ≡ true → ⊥) → implicate sat v ≡ true
  unfolding implicate hit
  implicate_of v h = not_intro (hit sat v) (false_of (hit sat v) bad)
    where
      bad : hit sat v ≡ true → ⊥
      bad e =
          let r = any_found (λ (b : List Bool). falsifies v b && sat b) (assignments (length v)) e in
          let k = both_true (falsifies v r.0) (sat r.0) r.2 in
          h r.0 (assignment_length (length v) r.0 r.1) k.1 k.0

  pub prime_implicate : (v : List Digit) → prime sat v ≡ true → implicate sat v ≡ true
  unfolding prime
  prime_implicate v p = (both_true (implicate sat v) (all (λ (u : List Digit). not (implicate sat u)) (shorter v)) p).0
