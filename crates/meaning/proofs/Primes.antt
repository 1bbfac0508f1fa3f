-- Prime implicates: leaving out one literal decides, and every implicate contains one.
use Rattle.meaning.proofs.Kit.{◌≡◌, ◌∙◌, sym, ap, refl, subst, ap₂, ⊎_elim, inl, inr, ◌⊎◌, true, Bool, ◌&&◌, not, List, [], ◌∷◌, map, In, here}
use Rattle.meaning.proofs.Kit.{there, in_nil, in_of_map, in_map, in_append_left, in_append_right, in_append, ℕ, ◌<◌, suc, zero, arith}
use Rattle.meaning.proofs.Kit.{length, not-false}
use mathlib.Core.Bool.{not-not}
use Rattle.meaning.specs.Tests.{all}
use Rattle.meaning.specs.Clauses.{Digit, denies, out, size, hit, implicate, shorter, prime, lone}
use Rattle.meaning.proofs.Tests.{all_append, all_map, all_same, all_of, all_or_not, both_true, and_intro, same_test}
use Rattle.meaning.proofs.Clauses.{Leaves, done, kept, left, leaves_self, leaves_more, hit_leaves, hit_same}

-- ---- the shorter clauses

-- a clause of a list of clauses, each with the digit d in front
with_digit : (P : List Digit → Type 0) (d : Digit) (vs : List (List Digit)) {u : List Digit} → In u (map (λ t. d ∷ t) vs)
    → ((t : List Digit) → In t vs → P (d ∷ t)) → P u
with_digit P d vs m f = let w = in_of_map (λ (t : List Digit). d ∷ t) vs m in subst P w.2 (f w.0 w.1)

abbrev Fewer : List Digit → List Digit → Type 0
Fewer v u = Leaves u v × (size u < size v)

fewer_denies : (x : Bool) (v u : List Digit) → ((t : List Digit) → In t (shorter v) → Fewer v t) → In u (shorter (denies x ∷ v))
    → Fewer (denies x ∷ v) u
fewer_denies x v u f m =
    ⊎_elim
    (λ k. with_digit (Fewer (denies x ∷ v)) (denies x) (shorter v) k (λ t h. (kept (f t h).0, omega (arith, (f t h).1))))
    (λ k. with_digit (Fewer (denies x ∷ v)) out (v ∷ shorter v) k without)
    (in_append (map (λ (t : List Digit). denies x ∷ t) (shorter v)) m)
  where
    without : (t : List Digit) → In t (v ∷ shorter v) → Fewer (denies x ∷ v) (out ∷ t)
    without t (here e) = subst (λ (s : List Digit). Fewer (denies x ∷ v) (out ∷ s)) (sym e) (left (leaves_self v), omega arith)
    without t (there h) = (left (f t h).0, omega (arith, (f t h).1))

-- each clause of `shorter v` is v with some literals left out, and has fewer
pub shorter_fewer : (v u : List Digit) → In u (shorter v) → Leaves u v × (size u < size v)
shorter_fewer [] u m = absurd (in_nil m)
shorter_fewer (out ∷ v) u m = with_digit (Fewer (out ∷ v)) out (shorter v) m (λ t h. (kept (shorter_fewer v t h).0, (shorter_fewer v t h).1))
shorter_fewer (denies x ∷ v) u m = fewer_denies x v u (shorter_fewer v) m

-- and every clause with some literals left out is there
pub leaves_shorter : {u v : List Digit} → Leaves u v → (u ≡ v) ⊎ In u (shorter v)
leaves_shorter done = inl refl
leaves_shorter (kept {d = out} l) =
    ⊎_elim (λ e. inl (ap (λ (t : List Digit). out ∷ t) e)) (λ m. inr (in_map (λ (t : List Digit). out ∷ t) m)) (leaves_shorter l)
leaves_shorter (kept {d = denies x} {v = v} l) =
    ⊎_elim (λ e. inl (ap (λ (t : List Digit). denies x ∷ t) e))
    (λ m. inr (in_append_left (map (λ (t : List Digit). out ∷ t) (v ∷ shorter v)) (in_map (λ (t : List Digit). denies x ∷ t) m)))
    (leaves_shorter l)
leaves_shorter (left {d = out} l) =
    ⊎_elim (λ e. inl (ap (λ (t : List Digit). out ∷ t) e)) (λ m. inr (in_map (λ (t : List Digit). out ∷ t) m)) (leaves_shorter l)
leaves_shorter (left {d = denies x} {v = v} l) =
    inr (in_append_right (map (λ (t : List Digit). denies x ∷ t) (shorter v))
    (in_map (λ (t : List Digit). out ∷ t) (⊎_elim (λ e. here e) (λ m. there m) (leaves_shorter l))))

-- ---- leaving out one literal

-- a test that passes at a clause with fewer literals too
abbrev Keeps : (List Digit → Bool) → Type 0
Keeps p = (u v : List Digit) → Leaves u v → p v ≡ true → p u ≡ true

lone_shorter : (p : List Digit → Bool) → Keeps p → (v : List Digit) → lone p v ≡ true → all p (shorter v) ≡ true
lone_shorter p k [] h = refl
lone_shorter p k (out ∷ v) h =
    all_map p (λ (u : List Digit). out ∷ u) (shorter v) ∙ lone_shorter (λ u. p (out ∷ u)) (λ u w l. k (out ∷ u) (out ∷ w) (kept l)) v h
lone_shorter p k (denies x ∷ v) h =
    let r = both_true (p (out ∷ v)) (lone (λ u. p (denies x ∷ u)) v) h in
    all_append p (map (λ (u : List Digit). denies x ∷ u) (shorter v)) (map (λ (u : List Digit). out ∷ u) (v ∷ shorter v))
    ∙ and_intro (all p (map (λ (u : List Digit). denies x ∷ u) (shorter v))) (all p (map (λ (u : List Digit). out ∷ u) (v ∷ shorter v)))
    (all_map p (λ (u : List Digit). denies x ∷ u) (shorter v)
    ∙ lone_shorter (λ u. p (denies x ∷ u)) (λ u w l. k (denies x ∷ u) (denies x ∷ w) (kept l)) v r.1)
    (and_intro (p (out ∷ v)) (all p (map (λ (u : List Digit). out ∷ u) (shorter v))) r.0
    (all_map p (λ (u : List Digit). out ∷ u) (shorter v)
    ∙ all_of (λ u. p (out ∷ u)) (shorter v) (λ u m. k (out ∷ u) (out ∷ v) (kept (shorter_fewer v u m).0) r.0)))

shorter_lone : (p : List Digit → Bool) (v : List Digit) → all p (shorter v) ≡ true → lone p v ≡ true
shorter_lone p [] h = refl
shorter_lone p (out ∷ v) h = shorter_lone (λ u. p (out ∷ u)) v (sym (all_map p (λ (u : List Digit). out ∷ u) (shorter v)) ∙ h)
shorter_lone p (denies x ∷ v) h =
    let first = map (λ (u : List Digit). denies x ∷ u) (shorter v) in
    let rest = map (λ (u : List Digit). out ∷ u) (shorter v) in
    let r = both_true (all p first) (p (out ∷ v) && all p rest) (sym (all_append p first ((out ∷ v) ∷ rest)) ∙ h) in
    and_intro (p (out ∷ v)) (lone (λ u. p (denies x ∷ u)) v) (both_true (p (out ∷ v)) (all p rest) r.1).0
    (shorter_lone (λ u. p (denies x ∷ u)) v (sym (all_map p (λ (u : List Digit). denies x ∷ u) (shorter v)) ∙ r.0))

-- it suffices to leave out one
pub prime_lone : (sat : List Bool → Bool) (v : List Digit) → prime sat v ≡ (not (hit sat v) && lone (hit sat) v)
unfolding prime implicate
prime_lone sat v = ap (λ (b : Bool). not (hit sat v) && b)
    (all_same (λ (u : List Digit). not (not (hit sat u))) (hit sat) (shorter v) (λ u m. not-not (hit sat u))
    ∙ same_test (all (hit sat) (shorter v)) (lone (hit sat) v) (shorter_lone (hit sat) v) (lone_shorter (hit sat) (λ u w l. hit_leaves sat l) v))

-- two tests that agree on clauses over as many symbols
pub lone_same : (p q : List Digit → Bool) (v : List Digit) → ((u : List Digit) → length u ≡ length v → p u ≡ q u) → lone p v ≡ lone q v
lone_same p q [] e = refl
lone_same p q (out ∷ v) e = lone_same (λ u. p (out ∷ u)) (λ u. q (out ∷ u)) v (λ u l. e (out ∷ u) (ap suc l))
lone_same p q (denies x ∷ v) e =
    ap₂ ◌&&◌ (e (out ∷ v) refl) (lone_same (λ u. p (denies x ∷ u)) (λ u. q (denies x ∷ u)) v (λ u l. e (denies x ∷ u) (ap suc l)))

-- whether a clause is prime depends on the assignments to as many symbols only
pub prime_same : (sat sat' : List Bool → Bool) (v : List Digit) → ((a : List Bool) → length a ≡ length v → sat a ≡ sat' a)
    → prime sat v ≡ prime sat' v
prime_same sat sat' v f =
    prime_lone sat v
    ∙ ap₂ (λ (a b : Bool). not a && b) (hit_same sat sat' v f) (lone_same (hit sat) (hit sat') v (λ u l. hit_same sat sat' u (λ a k. f a (k ∙ l))))
    ∙ sym (prime_lone sat' v)

-- ---- every implicate contains a prime implicate

abbrev Contains : (List Bool → Bool) → List Digit → Type 0
Contains sat v = (u : List Digit) × Leaves u v × (prime sat u ≡ true)

-- v is prime, or a shorter implicate contains a prime one
contains_step : (sat : List Bool → Bool) (v : List Digit) → implicate sat v ≡ true
    → ((u : List Digit) → size u < size v → implicate sat u ≡ true → Contains sat u) → Contains sat v
unfolding prime
contains_step sat v h f =
    ⊎_elim (λ e. (v, leaves_self v, and_intro (implicate sat v) (all (λ u. not (implicate sat u)) (shorter v)) h e))
    (λ w. let s = shorter_fewer v w.0 w.1 in
    let r = f w.0 s.1 (not-false (implicate sat w.0) w.2) in
    (r.0, leaves_more r.1 s.0, r.2))
    (all_or_not (λ (u : List Digit). not (implicate sat u)) (shorter v))

contains_below : (sat : List Bool → Bool) (k : ℕ) (v : List Digit) → size v < k → implicate sat v ≡ true → Contains sat v
contains_below sat zero v b h = absurd (omega arith)
contains_below sat (suc k) v b h = contains_step sat v h (λ u l. contains_below sat k u (omega arith))

pub contains_prime : (sat : List Bool → Bool) (v : List Digit) → implicate sat v ≡ true → (u : List Digit) × Leaves u v × (prime sat u ≡ true)
contains_prime sat v h = contains_below sat (suc (size v)) v (omega arith) h
