-- What an assignment gives a symbol, from the place at which the symbol stands among the names.
use Rattle.meaning.proofs.Kit.{◌≡◌, ◌∙◌, ap, refl, true, false, Bool, cond, not, List, [], ◌∷◌, ℕ, ◌-◌, ◌+◌, suc, arith, eqb, ltb, length, lt-ltb}
use Rattle.std.specs.Prelude.{Some, None}
use Rattle.std.specs.List.{position, position_or_len}
use Prim.Native.Nat.compare
use Rattle.formula.specs.Answers.{bit_at}
use Rattle.formula.proofs.Words.{look, bits}

-- the name is the symbol
abbrev pub named_so : (s : ℕ) → ℕ → Bool
named_so s n = eqb n s

module _ (number s : ℕ) where
  -- the bit of the first name that is the symbol
  look_placed : (names : List ℕ) → let k = position_or_len (named_so s) names in
      look names (bits (length names) number) s ≡ cond (ltb k (length names)) (bit_at number (length names - 1 - k)) false
  unfolding bits
  look_placed [] = refl
  look_placed (n ∷ names) = go (look_placed names) (eqb n s)
    where
      last : ℕ
      last = length names

      k : ℕ
      k = position_or_len (named_so s) names

      go : look names (bits last number) s ≡ cond (ltb k last) (bit_at number (last - 1 - k)) false
          → (b : Bool) → cond b (bit_at number last) (look names (bits last number) s)
          ≡ cond (ltb (cond (not b) (1 + k) 0) (suc last)) (bit_at number (suc last - 1 - cond (not b) (1 + k) 0)) false
      go rest true = let here : suc last - 1 - 0 ≡ last = omega arith in rw (lt-ltb 0 (suc last) (omega arith), here)
      go rest false =
          let one : 1 + k ≡ suc k = omega arith in
          let there : suc last - 1 - suc k ≡ last - 1 - k = omega arith in
          rw (one, there, compare.suc-suc) rest

  pub look_found : (names : List ℕ) (k : ℕ) → position (named_so s) names ≡ Some k
      → look names (bits (length names) number) s ≡ bit_at number (length names - 1 - k)
  look_found names k e = look_placed names ∙ go (ltb at (length names)) e
    where
      at : ℕ
      at = position_or_len (named_so s) names

      go : (b : Bool) → cond b (Some at) None ≡ Some k → cond b (bit_at number (length names - 1 - at)) false ≡ bit_at number (length names - 1 - k)
      go true e = let same : at ≡ k = cc in ap (λ (j : ℕ). bit_at number (length names - 1 - j)) same
      go false e = cc

  pub look_missed : (names : List ℕ) → position (named_so s) names ≡ None → look names (bits (length names) number) s ≡ false
  look_missed names e = look_placed names ∙ go (ltb at (length names)) e
    where
      at : ℕ
      at = position_or_len (named_so s) names

      go : (b : Bool) → cond b (Some at) None ≡ None → cond b (bit_at number (length names - 1 - at)) false ≡ false
      go true e = cc
      go false e = refl
