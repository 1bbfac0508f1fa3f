-- Reading looks at no byte further than it says: a formula is the same from any bytes that begin with its own, and so is a fault from any that
-- begin with those up to it. From just its own bytes nothing follows a formula.
use Rattle.meaning.proofs.Kit.{◌≡◌, ◌∙◌, sym, ap, refl, ◌≢◌, List, [], ◌∷◌, ◌≤◌, ℕ, ◌<◌, ◌-◌, suc, zero, arith, length, drop, take, length-take-le}
use Rattle.meaning.proofs.Kit.{take-take, eq-eqb}
use native.Mathlib.Nat.{sub-zero, suc-sub-suc}
use lib.Seq.{take-nil}
use Rattle.formula.proofs.Words.{Formula, number_of, Refusal, good, parse, levels, whole_of}
use Rattle.formula.proofs.Steps.{Taken, one, not, two, Met, deep, short, unknown, missing, beyond, inner, left, right, taken, taken_told}
use Rattle.formula.proofs.Extents.{taken_within}

drop_take : (m n : ℕ) (l : List ℕ) → m ≤ n → drop m (take n l) ≡ take (n - m) (drop m l)
drop_take zero n l h = rw sub-zero
drop_take (suc m) zero l h = absurd (omega arith)
drop_take (suc m) (suc n) [] h = sym (take-nil (suc n - suc m))
drop_take (suc m) (suc n) (x ∷ xs) h = rw suc-sub-suc (drop_take m n xs (omega arith))

-- ---- bytes that are alike up to some place

-- bytes whose front begins with k, and what follows it
record Begun (l : List ℕ) (n k : ℕ) (t : List ℕ) : Type 0 where
  pub rest : List ℕ
  pub is : l ≡ k ∷ rest
  pub front : take n rest ≡ t

begun : (n : ℕ) (l : List ℕ) {k : ℕ} {t : List ℕ} → take (suc n) l ≡ k ∷ t → Begun l n k t
begun n [] e = let z : ◌≡◌ {A = ℕ} 0 1 = ap length e ∙ cc in absurd (omega arith)
begun n (x ∷ xs) e = record { rest = xs; is = cc; front = cc }

drop_alike : (used n : ℕ) (l bytes : List ℕ) → used ≤ n → take n l ≡ take n bytes → take (n - used) (drop used l) ≡ take (n - used) (drop used bytes)
drop_alike used n l bytes h e = sym (drop_take used n l h) ∙ ap (drop used) e ∙ drop_take used n bytes h

pub alike : {S depth used : ℕ} {bytes : List ℕ} {f : Formula} (n : ℕ) (l : List ℕ) → take n l ≡ take n bytes → used ≤ n → Taken S depth bytes f used
    → Taken S depth l f used
alike zero l e h (one k fits) = absurd (omega arith)
alike (suc zero) l e h (one k fits) = absurd (omega arith)
alike (suc (suc n)) l e h (one k fits) =
    let a = begun (suc n) l e in
    let b = begun n a.rest a.front in
    rw (a.is, b.is) (one k fits)
alike zero l e h (not k t) = absurd (omega arith)
alike (suc n) l e h (not k t) = let a = begun n l e in rw a.is (not k (alike n a.rest a.front (omega arith) t))
alike zero l e h (two k t u) = absurd (omega arith)
alike (suc n) l e h (two {used = used} {body = body} k t u) =
    let a = begun n l e in
    let second = drop_alike used n a.rest body (omega arith) a.front in
    rw a.is (two k (alike n a.rest a.front (omega arith) t) (alike (n - used) (drop used a.rest) second (omega arith) u))

ends_alike : (n : ℕ) (l : List ℕ) → take (suc n) l ≡ [] → l ≡ []
ends_alike n [] e = refl
ends_alike n (x ∷ xs) e = let z : ◌≡◌ {A = ℕ} 1 0 = ap (λ (r : List ℕ). length (take 1 r)) e in absurd (omega arith)

-- a fault of depth is met before the byte at its place is looked at, any other with that byte or its want
pub met_again : {S depth at : ℕ} {bytes : List ℕ} {why : Refusal} (n : ℕ) (l : List ℕ) → take n l ≡ take n bytes → at ≤ n
    → (number_of why ≢ 5 → at < n) → Met S depth bytes why at → Met S depth l why at
met_again n l e far seen deep = deep
met_again zero l e far seen short = absurd (omega (arith, seen (λ five. omega arith)))
met_again zero l e far seen (unknown k) = absurd (omega (arith, seen (λ five. omega arith)))
met_again zero l e far seen (missing k) = absurd (omega arith)
met_again zero l e far seen (beyond k fits) = absurd (omega arith)
met_again zero l e far seen (inner k m) = absurd (omega arith)
met_again zero l e far seen (left k m) = absurd (omega arith)
met_again zero l e far seen (right k t m) = absurd (omega arith)
met_again (suc n) l e far seen short = rw (ends_alike n l e) short
met_again (suc n) l e far seen (unknown k) = rw (begun n l e).is (unknown k)
met_again (suc zero) l e far seen (missing k) = absurd (omega (arith, seen (λ five. omega arith)))
met_again (suc (suc n)) l e far seen (missing k) =
    let a = begun (suc n) l e in
    rw (a.is, ends_alike n a.rest a.front) (missing k)
met_again (suc zero) l e far seen (beyond k fits) = absurd (omega (arith, seen (λ five. omega arith)))
met_again (suc (suc n)) l e far seen (beyond k fits) =
    let a = begun (suc n) l e in
    rw (a.is, (begun n a.rest a.front).is) (beyond k fits)
met_again (suc n) l e far seen (inner k m) =
    let a = begun n l e in
    rw a.is (inner k (met_again n a.rest a.front (omega arith) (λ other. omega (arith, seen other)) m))
met_again (suc n) l e far seen (left k m) =
    let a = begun n l e in
    rw a.is (left k (met_again n a.rest a.front (omega arith) (λ other. omega (arith, seen other)) m))
met_again (suc n) l e far seen (right {used = used} {body = body} k t m) =
    let a = begun n l e in
    let second = drop_alike used n a.rest body (omega arith) a.front in
    rw a.is
    (right k (alike n a.rest a.front (omega arith) t)
    (met_again (n - used) (drop used a.rest) second (omega arith) (λ other. omega (arith, seen other)) m))

-- ---- from just its own bytes it is the whole

pub alone : {S depth used : ℕ} {bytes : List ℕ} {f : Formula} → Taken S depth bytes f used → Taken S depth (take used bytes) f used
alone {used = used} {bytes = bytes} t = alike used (take used bytes) (take-take used used bytes (omega arith)) (omega arith) t

pub whole_alone : (S : ℕ) (bytes : List ℕ) (f : Formula) (used : ℕ) → parse S levels bytes ≡ good f used → whole_of S (take used bytes) ≡ good f used
unfolding whole_of
whole_alone S bytes f used e =
    let t = taken S e in
    rw (taken_told S (alone t), eq-eqb used (length (take used bytes)) (sym (length-take-le used bytes (taken_within t))))
