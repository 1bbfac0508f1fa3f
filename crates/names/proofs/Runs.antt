-- Laws of the bytes of a name at the front of a text.
use Rattle.meaning.proofs.Kit.{◌≡◌, ◌∙◌, refl, true, false, Bool, not, cond, List, [], ◌∷◌, ◌≤◌, ℕ, ◌+◌, suc, arith, ltb, ltb-false, length}
use Rattle.std.specs.List.{position, position_or_len}
use Rattle.std.specs.Option.{unwrap_or}
use Rattle.std.proofs.Common.{Some, None}
use Rattle.std.proofs.lemmas.List.Sums.{prefix_len-le-length}
use Rattle.names.specs.Names.{in_name, run}

-- they go on until the first byte that is none
until : (text : List ℕ) → position_or_len (λ b. not (in_name b)) text ≡ run text
unfolding run
until [] = refl
until (c ∷ rest) =
    let inner = until rest in
    let after = position_or_len (λ b. not (in_name b)) rest in
    elim (in_name c) as (λ b. cond (not (not b)) (1 + after) 0 ≡ cond b (suc (run rest)) 0) [ true ↦ omega arith | false ↦ refl ]

-- the place of the first that passes a test, or else the end, as a chain answers it
pub place_or_end : (test : ℕ → Bool) (text : List ℕ) → unwrap_or (position test text) (length text) ≡ position_or_len test text
place_or_end test text = by (ltb k (length text)) refl
  where
    k : ℕ
    k = position_or_len test text

    by : (b : Bool) → ltb k (length text) ≡ b → unwrap_or (cond b (Some k) None) (length text) ≡ k
    by true e = refl
    by false e = omega (arith, prefix_len-le-length (λ b. not (test b)) text, ltb-false _ _ e)

pub run_until : (text : List ℕ) → unwrap_or (position (λ b. not (in_name b)) text) (length text) ≡ run text
run_until text = place_or_end (λ b. not (in_name b)) text ∙ until text

pub run_extent : (text : List ℕ) → run text ≤ length text
unfolding run
run_extent [] = omega arith
run_extent (c ∷ rest) =
    let inner = run_extent rest in
    elim (in_name c) as (λ b. cond b (suc (run rest)) 0 ≤ suc (length rest)) [ true ↦ omega arith | false ↦ omega arith ]
