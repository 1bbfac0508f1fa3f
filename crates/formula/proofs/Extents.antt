-- No answer looks further than the bytes go: the bytes used and the places of faults are within the bytes that were parsed.
use Rattle.meaning.proofs.Kit.{◌≡◌, refl, List, ◌≤◌, ℕ, ◌-◌, ◌+◌, arith, length, length-drop}
use Rattle.formula.proofs.Words.{Formula, Refusal, Parsed, good, bad, parse, read_of, extent, past, used_of, Kind, Result, Ok, Err, Break}
use Rattle.formula.proofs.Parts.{onward, onward_length}
use Rattle.formula.proofs.Parsing.{At, first, second}
use Rattle.formula.proofs.Steps.{Taken, one, not, two, Met, deep, short, unknown, missing, beyond, inner, left, right, taken, met}

pub taken_within : {S depth used : ℕ} {bytes : List ℕ} {f : Formula} → Taken S depth bytes f used → used ≤ length bytes
taken_within (one e fits) = omega arith
taken_within (not e t) = omega (arith, taken_within t)
taken_within (two {used = used} {body = body} e t u) = omega (arith, taken_within t, taken_within u, length-drop used body)

pub taken_some : {S depth used : ℕ} {bytes : List ℕ} {f : Formula} → Taken S depth bytes f used → 1 ≤ used
taken_some (one e fits) = omega arith
taken_some (not e t) = omega arith
taken_some (two e t u) = omega arith

pub met_within : {S depth at : ℕ} {bytes : List ℕ} {why : Refusal} → Met S depth bytes why at → at ≤ length bytes
met_within deep = omega arith
met_within short = omega arith
met_within (unknown e) = omega arith
met_within (missing e) = omega arith
met_within (beyond e fits) = omega arith
met_within (inner e m) = omega (arith, met_within m)
met_within (left e m) = omega (arith, met_within m)
met_within (right {used = used} {body = body} e t m) = omega (arith, taken_within t, met_within m, length-drop used body)

pub parse_extent : (S depth : ℕ) (bytes : List ℕ) → extent (read_of (parse S depth bytes)) ≤ length bytes
parse_extent S depth bytes = go (parse S depth bytes) refl
  where
    go : (p : Parsed) → parse S depth bytes ≡ p → extent (read_of p) ≤ length bytes
    go (good f used) e = taken_within (taken S e)
    go (bad why at) e = met_within (met S e)

-- ---- the same of a reader's first operand, and of both

module _ (S : ℕ) {depth : ℕ} {bytes : List ℕ} {kind : Kind} (at : At depth bytes kind) where
  pub first_extent : 1 + extent (read_of (first S depth bytes)) ≤ length bytes
  first_extent = omega (arith, parse_extent S (depth - 1) (onward 1 bytes), onward_length 1 bytes, at.long)

  pub both_extent : (count : ℕ) → 1 + count ≤ length bytes → 1 + count + extent (read_of (second S depth bytes count)) ≤ length bytes
  both_extent count h =
      omega (arith, parse_extent S (depth - 1) (onward count (onward 1 bytes)), onward_length count (onward 1 bytes), onward_length 1 bytes)

-- of what is left from a place on, and of an answer that starts further on
pub rest_extent : (S depth : ℕ) (bytes : List ℕ) (count : ℕ) → count ≤ length bytes
    → count + extent (read_of (parse S (depth - 1) (onward count bytes))) ≤ length bytes
rest_extent S depth bytes count h = omega (arith, parse_extent S (depth - 1) (onward count bytes), onward_length count bytes)

pub past_extent : (skipped : ℕ) (a : Result ℕ Break) → extent (past skipped a) ≡ skipped + extent a
past_extent skipped (Ok count) = refl
past_extent skipped (Err at) = refl

pub used_extent : (p : Parsed) → used_of p ≤ extent (read_of p)
used_extent (good f used) = omega arith
used_extent (bad why at) = omega arith

pub parse_used : (S depth : ℕ) (bytes : List ℕ) → used_of (parse S depth bytes) ≤ length bytes
parse_used S depth bytes = omega (arith, used_extent (parse S depth bytes), parse_extent S depth bytes)
