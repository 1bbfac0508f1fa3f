-- A chain of one unit, and of two units and the mark between them, where the chain does not go on.
use Rattle.meaning.proofs.Kit.{◌≡◌, ap, refl, true, false, List, [], ◌∷◌, ◌++◌, ℕ, ◌<◌, ◌+◌, suc, zero, arith, length, get_or, length-append}
use Rattle.meaning.proofs.Kit.{drop-append_seam}
use Rattle.chains.proofs.Words.{Formula, Parsed, good, after, goes_on, joined_by, from_mark, go_on, more, chain_of}

mark_ends : (next : ℕ → Formula → List ℕ → Parsed) (join : ℕ) (f : Formula) (used : ℕ) (tail : List ℕ) → goes_on join (get_or tail 0 0) ≡ false
    → from_mark next join f used tail ≡ good f used
unfolding from_mark
mark_ends next join f used [] e = refl
mark_ends next join f used (c ∷ rest) e = rw e

module _ (unit : List ℕ → Parsed) where
  last_unit : (most join : ℕ) (wrap : Formula → Formula) (text tail : List ℕ) (f : Formula) → 0 < most
      → unit (text ++ tail) ≡ good f (length text) → goes_on join (get_or tail 0 0) ≡ false
      → more unit most join wrap (text ++ tail) ≡ good (wrap f) (length text)
  unfolding more go_on
  last_unit zero join wrap text tail f h e g = absurd (omega arith)
  last_unit (suc most) join wrap text tail f h e g =
      rw (e, drop-append_seam text tail) (mark_ends (λ c f rest. more unit most c (joined_by c f) rest) join (wrap f) (length text) tail g)

  pub chain_one : (text tail : List ℕ) (f : Formula) → unit (text ++ tail) ≡ good f (length text) → goes_on 0 (get_or tail 0 0) ≡ false
      → chain_of unit (text ++ tail) ≡ good f (length text)
  chain_one text tail f e g = last_unit (suc (length (text ++ tail))) 0 (λ f. f) text tail f (omega arith) e g

  pub chain_two : (one two tail : List ℕ) (mark : ℕ) (f g : Formula) → unit (one ++ (mark ∷ (two ++ tail))) ≡ good f (length one)
      → unit (two ++ tail) ≡ good g (length two) → goes_on 0 mark ≡ true → goes_on mark (get_or tail 0 0) ≡ false
      → chain_of unit (one ++ (mark ∷ (two ++ tail))) ≡ good (joined_by mark f g) (length one + 1 + length two)
  unfolding more go_on from_mark
  chain_two one two tail mark f g e h goes stops =
      let text = one ++ (mark ∷ (two ++ tail)) in
      let some : 0 < length text = omega (arith, length-append one (mark ∷ (two ++ tail))) in
      rw (e, drop-append_seam one (mark ∷ (two ++ tail)), goes)
      (ap (after (length one + 1) (λ f. f)) (last_unit (length text) mark (joined_by mark f) two tail g some h stops))
