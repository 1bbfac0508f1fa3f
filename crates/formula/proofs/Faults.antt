-- A fault that is met in a formula is of the numbers 2 to 5; 6 is of what follows one.
use Rattle.meaning.proofs.Kit.{◌≡◌, refl, true, false, cond, List, ◌≤◌, ℕ, arith, eqb, length}
use Rattle.formula.proofs.Words.{number_of, Refusal, BytesLeftOver, Parsed, good, bad, parse, levels, ended, whole_of}
use Rattle.formula.proofs.Steps.{Met, deep, short, unknown, missing, beyond, inner, left, right, met}

-- where bytes are no formula, why is of the numbers 2 to the last
abbrev pub UpTo : (last : ℕ) → Parsed → Type 0
UpTo last (good f used) = Unit {0}
UpTo last (bad why at) = (2 ≤ number_of why) × (number_of why ≤ last)

pub met_faults : {S depth : ℕ} {bytes : List ℕ} {why : Refusal} {at : ℕ} → Met S depth bytes why at → (2 ≤ number_of why) × (number_of why ≤ 5)
met_faults deep = (omega arith, omega arith)
met_faults short = (omega arith, omega arith)
met_faults (unknown e) = (omega arith, omega arith)
met_faults (missing e) = (omega arith, omega arith)
met_faults (beyond e fits) = (omega arith, omega arith)
met_faults (inner e m) = met_faults m
met_faults (left e m) = met_faults m
met_faults (right e t m) = met_faults m

pub parse_faults : (S depth : ℕ) (bytes : List ℕ) → UpTo 5 (parse S depth bytes)
parse_faults S depth bytes = go (parse S depth bytes) refl
  where
    go : (p : Parsed) → parse S depth bytes ≡ p → UpTo 5 p
    go (good f used) e = tt
    go (bad why at) e = met_faults (met S e)

pub whole_faults : (S : ℕ) (bytes : List ℕ) → UpTo 6 (whole_of S bytes)
unfolding whole_of
whole_faults S bytes = go (parse S levels bytes) (parse_faults S levels bytes)
  where
    go : (p : Parsed) → UpTo 5 p → UpTo 6 (ended (length bytes) p)
    go (good f used) h =
        elim (eqb used (length bytes)) as (λ b. UpTo 6 (cond b (good f used) (bad BytesLeftOver used))) [ true ↦ tt | false ↦ omega arith ]
    go (bad why at) h = (h.0, omega (arith, h.1))
