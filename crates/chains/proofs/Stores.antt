-- Laws of runs of stores, and of what the writer counts and adds up.
use Rattle.meaning.proofs.Kit.{◌≡◌, ◌∙◌, sym, ap, refl, true, false, cond, List, [], ◌∷◌, ◌≤◌, ℕ, ◌<◌, ◌-◌, ◌+◌, suc, ◌*◌, arith, eqb, length}
use Rattle.meaning.proofs.Kit.{replicate, set, sets}
use Rattle.std.specs.List.{count_by, fold}
use Rattle.std.proofs.lemmas.List.Recursion.{is_count_by}
use Rattle.chains.proofs.Words.{number_byte, minuses_of, capped}

pub fill_step : (out : List ℕ) (at k n byte : ℕ) → k < n
    → sets out (at + k) (replicate (n - k) byte) ≡ sets (set out (at + k) byte) (at + (k + 1)) (replicate (n - (k + 1)) byte)
fill_step out at k n byte h =
    let e : n - k ≡ suc (n - (k + 1)) = omega arith in
    let f : at + (k + 1) ≡ suc (at + k) = omega arith in
    rw (e, f)

pub fill_start : (out : List ℕ) (at n byte : ℕ) → sets out at (replicate n byte) ≡ sets out (at + 0) (replicate (n - 0) byte)
fill_start out at n byte =
    let e : n ≡ n - 0 = omega arith in
    let f : at ≡ at + 0 = omega arith in
    ap (λ (m : ℕ). sets out at (replicate m byte)) e ∙ ap (λ (k : ℕ). sets out k (replicate (n - 0) byte)) f

pub fill_done : (out : List ℕ) (at k n byte : ℕ) → n ≤ k → sets out (at + k) (replicate (n - k) byte) ≡ out
fill_done out at k n byte h = let e : n - k ≡ 0 = omega arith in rw e

-- ---- minus signs

pub minus_count : (part : List ℕ) → count_by (λ c. eqb c 45) part ≡ minuses_of part
unfolding minuses_of
minus_count part =
    sym (is_count_by minuses_of (λ c. eqb c 45) refl (λ c rest. let e : suc (minuses_of rest) ≡ 1 + minuses_of rest = omega arith in rw e) part)

pub minus_within : (part : List ℕ) → minuses_of part ≤ length part
unfolding minuses_of
minus_within [] = omega arith
minus_within (c ∷ rest) =
    let inner = minus_within rest in
    elim (eqb c 45) as (λ b. cond b (suc (minuses_of rest)) (minuses_of rest) ≤ suc (length rest)) [ true ↦ omega arith | false ↦ omega arith ]

-- ---- digits

pub capped_fold : (digits : List ℕ) (sum : ℕ) → fold (λ n c. number_byte (n * 10 + (c - 48))) sum digits ≡ capped sum digits
unfolding capped
capped_fold [] sum = refl
capped_fold (c ∷ rest) sum = capped_fold rest (number_byte (sum * 10 + (c - 48)))
