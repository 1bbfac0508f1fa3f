-- How far reading looks: with d levels at no more than 3 * 2^(d-1) - 1 bytes, with 16 at no more than 98,303. So the first 98,304 bytes tell what all
-- of them do.
use Rattle.meaning.proofs.Kit.{◌≡◌, ap, refl, true, false, Bool, List, ◌≤◌, ℕ, ◌<◌, ◌+◌, suc, ◌*◌, zero, arith, leb, length, take, length-take-le}
use Rattle.meaning.proofs.Kit.{take_all, take-take, ne_eqb, leb-true, leb-false}
use Rattle.formula.proofs.Words.{Formula, Refusal, Parsed, good, bad, levels, parse, ended, whole_of}
use Rattle.formula.proofs.Steps.{Taken, one, not, two, taken, taken_told, Met, deep, short, unknown, missing, beyond, inner, left, right, met}
use Rattle.formula.proofs.Steps.{met_told}
use Rattle.formula.proofs.Alone.{alike, met_again}

-- 2 to the d
abbrev spread : ℕ → ℕ
spread zero = 1
spread (suc d) = 2 * spread d

spread_some : (d : ℕ) → 1 ≤ spread d
spread_some zero = omega arith
spread_some (suc d) = omega (arith, spread_some d)

taken_most : {S depth used : ℕ} {bytes : List ℕ} {f : Formula} → Taken S depth bytes f used → 2 * (used + 1) ≤ 3 * spread depth
taken_most (one {d = d} e fits) = omega (arith, spread_some d)
taken_most (not {d = d} e t) = omega (arith, spread_some d, taken_most t)
taken_most (two e t u) = omega (arith, taken_most t, taken_most u)

met_most : {S depth at : ℕ} {bytes : List ℕ} {why : Refusal} → Met S depth bytes why at → 2 * (at + 1) ≤ 3 * spread depth
met_most deep = omega arith
met_most (short {d = d}) = omega (arith, spread_some d)
met_most (unknown {d = d} e) = omega (arith, spread_some d)
met_most (missing {d = d} e) = omega (arith, spread_some d)
met_most (beyond {d = d} e fits) = omega (arith, spread_some d)
met_most (inner {d = d} e m) = omega (arith, spread_some d, met_most m)
met_most (left {d = d} e m) = omega (arith, spread_some d, met_most m)
met_most (right e t m) = omega (arith, taken_most t, met_most m)

-- so many bytes are enough to read with the levels there are
abbrev pub enough : ℕ
enough = 98304

pub used_most : (S : ℕ) (bytes : List ℕ) {f : Formula} {used : ℕ} → parse S levels bytes ≡ good f used → used < enough
used_most S bytes e = omega (arith, taken_most (taken S e))

front_told : (S n : ℕ) (bytes : List ℕ) → enough ≤ n → parse S levels (take n bytes) ≡ parse S levels bytes
front_told S n bytes h = go (parse S levels bytes) refl
  where
    same : take n (take n bytes) ≡ take n bytes
    same = take-take n n bytes (omega arith)

    go : (p : Parsed) → parse S levels bytes ≡ p → parse S levels (take n bytes) ≡ p
    go (good f used) e = taken_told S (alike n (take n bytes) same (omega (arith, used_most S bytes e)) (taken S e))
    go (bad why at) e =
        let far = met_most (met S e) in
        met_told S (met_again n (take n bytes) same (omega (arith, far)) (λ other. omega (arith, far)) (met S e))

pub front_whole : (S : ℕ) (bytes : List ℕ) → whole_of S (take enough bytes) ≡ whole_of S bytes
unfolding whole_of
front_whole S bytes = go (leb (length bytes) enough) refl (parse S levels bytes) refl
  where
    go : (b : Bool) → leb (length bytes) enough ≡ b → (p : Parsed) → parse S levels bytes ≡ p
        → ended (length (take enough bytes)) (parse S levels (take enough bytes)) ≡ ended (length bytes) (parse S levels bytes)
    go true h p e =
        let all = take_all enough bytes (leb-true (length bytes) enough h) in
        ap (λ (l : List ℕ). ended (length l) (parse S levels l)) all
    go false h (good f used) e =
        let long = leb-false (length bytes) enough h in
        let cut : length (take enough bytes) ≡ enough = length-take-le enough bytes (omega (arith, long)) in
        let most = used_most S bytes e in
        rw (
          front_told S enough bytes (omega arith),
          e,
          ne_eqb used (length (take enough bytes)) (λ q. omega (arith, q, cut, most)),
          ne_eqb used (length bytes) (λ q. omega (arith, q, long, most)),
        )
    go false h (bad why at) e = rw (front_told S enough bytes (omega arith), e)
