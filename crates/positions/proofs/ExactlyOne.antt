-- The prime implicates of the rule that exactly one of n symbols is true: the clause of all + literals, and those of two − literals.
use Rattle.meaning.proofs.Kit.{◌≡◌, ◌∙◌, sym, ap, refl, subst, ⊎_elim, inl, inr, ◌⊎◌, true, false, Bool, not, ◌||◌, or-false, true≢false, List, []}
use Rattle.meaning.proofs.Kit.{◌∷◌, In, ℕ, suc, zero, length, replicate}
use Rattle.meaning.specs.Tests.{all}
use Rattle.meaning.specs.Clauses.{Digit, denies, out, plus, minus, hit, implicate, prime, shorter, lone}
use Rattle.meaning.proofs.Tests.{both_true, both_false, and_intro, or_left, or_right, clash, all_at}
use Rattle.meaning.proofs.Clauses.{hit_denies, hit_out, Leaves, done, kept, left}
use Rattle.meaning.proofs.Primes.{leaves_shorter}
use Rattle.meaning.proofs.ClauseRows.{prime_of, not_hit}
use Rattle.positions.proofs.PositionRules.{none_true, one_true}

-- ---- what is hit, by the clause's first digit

abbrev never : List Bool → Bool
never a = false

hit_never : (v : List Digit) → hit never v ≡ false
hit_never [] = unfold hit in refl
hit_never (denies x ∷ v) = hit_denies never x v ∙ hit_never v
hit_never (out ∷ v) = hit_out never v ∙ rw (hit_never v)

none_plus : (v : List Digit) → hit none_true (plus ∷ v) ≡ hit none_true v
none_plus v = hit_denies none_true false v

none_minus : (v : List Digit) → hit none_true (minus ∷ v) ≡ false
none_minus v = hit_denies none_true true v ∙ hit_never v

none_out : (v : List Digit) → hit none_true (out ∷ v) ≡ hit none_true v
none_out v = hit_out none_true v ∙ rw (hit_never v) (or-false (hit none_true v))

one_plus : (v : List Digit) → hit one_true (plus ∷ v) ≡ hit one_true v
one_plus v = hit_denies one_true false v

one_minus : (v : List Digit) → hit one_true (minus ∷ v) ≡ hit none_true v
one_minus v = hit_denies one_true true v

one_out : (v : List Digit) → hit one_true (out ∷ v) ≡ (hit one_true v || hit none_true v)
one_out v = hit_out one_true v

-- ---- clauses of no literals, of one − literal alone, and of two

pub data Outs : List Digit → Type 0 where
  end : Outs []
  more : {v : List Digit} → Outs v → Outs (out ∷ v)

pub data Single : List Digit → Type 0 where
  single : {v : List Digit} → Outs v → Single (minus ∷ v)
  more : {v : List Digit} → Single v → Single (out ∷ v)

pub data Double : List Digit → Type 0 where
  double : {v : List Digit} → Single v → Double (minus ∷ v)
  more : {v : List Digit} → Double v → Double (out ∷ v)

-- they are hit, or not
outs_hit : {v : List Digit} → Outs v → hit none_true v ≡ true
outs_hit Outs.end = unfold hit in refl
outs_hit (Outs.more {v = v} o) = none_out v ∙ outs_hit o

single_safe : {v : List Digit} → Single v → hit none_true v ≡ false
single_safe (Single.single {v = v} o) = none_minus v
single_safe (Single.more {v = v} o) = none_out v ∙ single_safe o

single_hit : {v : List Digit} → Single v → hit one_true v ≡ true
single_hit (Single.single {v = v} o) = one_minus v ∙ outs_hit o
single_hit (Single.more {v = v} o) = one_out v ∙ or_left (hit one_true v) (hit none_true v) (single_hit o)

double_none : {v : List Digit} → Double v → hit none_true v ≡ false
double_none (Double.double {v = v} o) = none_minus v
double_none (Double.more {v = v} o) = none_out v ∙ double_none o

double_safe : {v : List Digit} → Double v → hit one_true v ≡ false
double_safe (Double.double {v = v} o) = one_minus v ∙ single_safe o
double_safe (Double.more {v = v} o) = one_out v ∙ rw (double_safe o) (double_none o)

pluses_safe : (n : ℕ) → hit one_true (replicate n plus) ≡ false
pluses_safe zero = unfold hit in refl
pluses_safe (suc n) = one_plus (replicate n plus) ∙ pluses_safe n

pluses_hit : (n : ℕ) → hit none_true (replicate n plus) ≡ true
pluses_hit zero = unfold hit in refl
pluses_hit (suc n) = none_plus (replicate n plus) ∙ pluses_hit n

-- leaving out any one literal makes them hit
lone_more : (p q : List Digit → Bool) → ((u : List Digit) → p u ≡ true → q u ≡ true) → (v : List Digit) → lone p v ≡ true → lone q v ≡ true
lone_more p q f [] h = refl
lone_more p q f (out ∷ v) h = lone_more (λ u. p (out ∷ u)) (λ u. q (out ∷ u)) (λ u. f (out ∷ u)) v h
lone_more p q f (denies x ∷ v) h =
    let r = both_true (p (out ∷ v)) (lone (λ u. p (denies x ∷ u)) v) h in
    and_intro (q (out ∷ v)) (lone (λ u. q (denies x ∷ u)) v) (f (out ∷ v) r.0)
    (lone_more (λ u. p (denies x ∷ u)) (λ u. q (denies x ∷ u)) (λ u. f (denies x ∷ u)) v r.1)

outs_lone : (p : List Digit → Bool) {v : List Digit} → Outs v → lone p v ≡ true
outs_lone p Outs.end = refl
outs_lone p (Outs.more o) = outs_lone (λ u. p (out ∷ u)) o

single_lone : {v : List Digit} → Single v → lone (hit none_true) v ≡ true
single_lone (Single.single {v = v} o) =
    and_intro (hit none_true (out ∷ v)) (lone (λ u. hit none_true (minus ∷ u)) v) (none_out v ∙ outs_hit o)
    (outs_lone (λ u. hit none_true (minus ∷ u)) o)
single_lone (Single.more {v = v} o) = lone_more (hit none_true) (λ u. hit none_true (out ∷ u)) (λ u h. none_out u ∙ h) v (single_lone o)

double_lone : {v : List Digit} → Double v → lone (hit one_true) v ≡ true
double_lone (Double.double {v = v} o) =
    and_intro (hit one_true (out ∷ v)) (lone (λ u. hit one_true (minus ∷ u)) v)
    (one_out v ∙ or_left (hit one_true v) (hit none_true v) (single_hit o))
    (lone_more (hit none_true) (λ u. hit one_true (minus ∷ u)) (λ u h. one_minus u ∙ h) v (single_lone o))
double_lone (Double.more {v = v} o) =
    lone_more (hit one_true) (λ u. hit one_true (out ∷ u)) (λ u h. one_out u ∙ or_left (hit one_true u) (hit none_true u) h) v (double_lone o)

pluses_lone : (n : ℕ) → lone (hit one_true) (replicate n plus) ≡ true
pluses_lone zero = refl
pluses_lone (suc n) =
    let v = replicate n plus in
    and_intro (hit one_true (out ∷ v)) (lone (λ u. hit one_true (plus ∷ u)) v)
    (one_out v ∙ or_right (hit one_true v) (hit none_true v) (pluses_hit n))
    (lone_more (hit one_true) (λ u. hit one_true (plus ∷ u)) (λ u h. one_plus u ∙ h) v (pluses_lone n))

-- ---- a clause that is not hit contains one of two − literals, or has all + literals

outs_of : (v : List Digit) → (u : List Digit) × Outs u × Leaves u v
outs_of [] = ([], Outs.end, done)
outs_of (d ∷ v) = let r = outs_of v in (out ∷ r.0, Outs.more r.1, left r.2)

single_in : (v : List Digit) → hit none_true v ≡ false → (u : List Digit) × Single u × Leaves u v
single_in [] h = absurd (true≢false (unfold hit in h))
single_in (denies false ∷ v) h = let r = single_in v (sym (none_plus v) ∙ h) in (out ∷ r.0, Single.more r.1, left r.2)
single_in (denies true ∷ v) h = let r = outs_of v in (minus ∷ r.0, Single.single r.1, kept r.2)
single_in (out ∷ v) h = let r = single_in v (sym (none_out v) ∙ h) in (out ∷ r.0, Single.more r.1, kept r.2)

double_in : (v : List Digit) → hit one_true v ≡ false → (v ≡ replicate (length v) plus) ⊎ ((u : List Digit) × Double u × Leaves u v)
double_in [] h = inl refl
double_in (denies false ∷ v) h =
    ⊎_elim (λ e. inl (ap (λ (t : List Digit). plus ∷ t) e)) (λ r. inr (out ∷ r.0, Double.more r.1, left r.2))
    (double_in v (sym (one_plus v) ∙ h))
double_in (denies true ∷ v) h = let r = single_in v (sym (one_minus v) ∙ h) in inr (minus ∷ r.0, Double.double r.1, kept r.2)
double_in (out ∷ v) h =
    let n = both_false (hit one_true v) (hit none_true v) (sym (one_out v) ∙ h) in
    ⊎_elim (λ e. clash (pluses_hit (length v)) (rw e at n.1)) (λ r. inr (out ∷ r.0, Double.more r.1, kept r.2)) (double_in v n.0)

-- a prime one is no longer than what it contains
pub prime_found : (v : List Digit) → prime one_true v ≡ true → (v ≡ replicate (length v) plus) ⊎ Double v
prime_found v p = ⊎_elim inl (λ r. inr (shortest r.0 r.1 (leaves_shorter r.2))) (double_in v (not_hit one_true v p))
  where
    shortest : (u : List Digit) → Double u → (u ≡ v) ⊎ In u (shorter v) → Double v
    shortest u d (inl e) = subst Double e d
    shortest u d (inr m) =
        unfold prime implicate in
        clash
        (all_at (λ (t : List Digit). not (implicate one_true t))
        (both_true (implicate one_true v) (all (λ t. not (implicate one_true t)) (shorter v)) p).1 m)
        (rw (double_safe d))

-- and these are prime
pub pluses_prime : (n : ℕ) → prime one_true (replicate n plus) ≡ true
pluses_prime n = prime_of one_true (replicate n plus) (pluses_safe n) (pluses_lone n)

pub double_prime : {v : List Digit} → Double v → prime one_true v ≡ true
double_prime {v} d = prime_of one_true v (double_safe d) (double_lone d)
