-- A word put into a slot: its bytes, and zeros after them.
use Rattle.meaning.proofs.Kit.{◌≡◌, ◌∙◌, sym, ap, refl, List, [], ◌∷◌, ◌++◌, append-nil, ◌≤◌, ℕ, ◌-◌, suc, zero, min, arith, length, drop, take, length-append}
use Rattle.meaning.proofs.Kit.{length-drop, length-take-le, drop-length, take_at, drop_at}
use Rattle.std.proofs.Math.Nat.{sub-zero}
use Rattle.std.proofs.Math.ListN.{replicate}
use borrow.Rule.Slice.PartMut.{put_mid, Post-is}
use Rattle.names.specs.Slots.{padded}

padded_is : (width : ℕ) (word : List ℕ) → let n = min width (length word) in padded width word ≡ take n word ++ replicate (width - n) 0
unfolding padded
padded_is zero word = let none : min zero (length word) ≡ 0 = omega arith in rw none refl
padded_is (suc width) [] =
    let none : min (suc width) 0 ≡ 0 = omega arith in
    let inner : min width 0 ≡ 0 = omega arith in
    rw (none, sub-zero) (ap (λ l. 0 ∷ l) (padded_is width [] ∙ rw (inner, sub-zero) refl))
padded_is (suc width) (c ∷ word) =
    let next : min (suc width) (suc (length word)) ≡ suc (min width (length word)) = omega arith in
    let less : suc width - suc (min width (length word)) ≡ width - min width (length word) = omega arith in
    rw (next, less) (ap (λ l. c ∷ l) (padded_is width word))

-- the word's front is copied to the front of the slot, and zeros fill the rest
module _ (slot word copied : List ℕ) (n : ℕ) (least : n ≡ min (length slot) (length word)) (is : copied ≡ take n word) where
  abbrev half : List ℕ
  half = copied ++ drop n slot

  long : length copied ≡ n
  long = let few : n ≤ length word = omega arith in ap length is ∙ length-take-le n word few

  whole : length half ≡ length slot
  whole = omega (arith, length-append copied (drop n slot), length-drop n slot, long)

  left : length (take (length half - n) (drop n half)) ≡ length slot - n
  left =
      let rest : drop n half ≡ drop n slot = drop_at copied (drop n slot) n long in
      let few : length half - n ≤ length (drop n slot) = omega (arith, whole, length-drop n slot) in
      ap (λ l. length (take (length half - n) l)) rest ∙ length-take-le (length half - n) (drop n slot) few ∙ ap (λ m. m - n) whole

  pub padded_put : (zeros : List ℕ) → zeros ≡ replicate (length (take (length half - n) (drop n half))) 0
      → put_mid n (length half - n) half zeros ≡ padded (length slot) word
  padded_put zeros e =
      let within : n ≤ length half = omega (arith, whole) in
      rw (take_at copied (drop n slot) n long, Post-is n (length half) half within, drop-length half)
      (rw (append-nil zeros, e, left, is, least) (sym (padded_is (length slot) word)))
