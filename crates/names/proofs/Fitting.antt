-- Whether a slot has a word: it begins with it, and then it is over.
use Rattle.meaning.proofs.Kit.{◌≡◌, ◌∙◌, sym, ap, refl, true, false, Bool, ◌&&◌, List, [], ◌∷◌, ◌≤◌, ℕ, ◌<◌, arith, eqb, length, get_or, drop, take}
use Rattle.meaning.proofs.Kit.{drop_of_length-le, drop-cons}
use Rattle.std.proofs.lemmas.Grind.{common_steps}
use Rattle.std.proofs.Math.Bool.{and_assoc}
use Rattle.std.specs.Cmp.Lexicographic.{pointwise}
use Rattle.names.specs.Slots.{fits, is_over}

-- the front of a slot is the word
abbrev pub begins : (slot word : List ℕ) → Bool
begins slot word = pointwise eqb word (take (length word) slot)

eqb_turned : (a b : ℕ) → eqb a b ≡ eqb b a
eqb_turned a b = grind (arith, common_steps)

fits_begins : (slot word : List ℕ) → fits slot word ≡ (begins slot word && is_over (drop (length word) slot))
unfolding fits is_over
fits_begins slot [] = refl
fits_begins [] (c ∷ word) = refl
fits_begins (b ∷ slot) (c ∷ word) =
    let front = begins slot word in
    ap (λ x. eqb b c && x) (fits_begins slot word)
    ∙ ap (λ x. x && (front && is_over (drop (length word) slot))) (eqb_turned b c)
    ∙ sym (and_assoc (eqb c b) front (is_over (drop (length word) slot)))

pub fits_not : (slot word : List ℕ) → begins slot word ≡ false → fits slot word ≡ false
fits_not slot word e = rw (fits_begins slot word, e)

module _ (slot word : List ℕ) (e : begins slot word ≡ true) where
  pub fits_whole : length slot ≡ length word → fits slot word ≡ true
  unfolding is_over
  fits_whole h = let same : length slot ≤ length word = omega arith in rw (fits_begins slot word, e, drop_of_length-le slot {i = length word} same)

  pub fits_over : length word < length slot → fits slot word ≡ eqb (get_or slot (length word) 0) 0
  unfolding is_over
  fits_over h = rw (fits_begins slot word, e, drop-cons slot (length word) 0)
