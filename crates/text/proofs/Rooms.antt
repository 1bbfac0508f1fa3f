-- What a buffer holds of a text's bytes: all of them, or as many as tell what all do.
use Rattle.meaning.proofs.Kit.{◌≡◌, ◌∙◌, sym, ap, refl, true, List, [], ◌∷◌, ◌≤◌, ℕ, suc, ◌*◌, zero, min, arith, length, take, set, take_all, sets}
use Rattle.meaning.proofs.Kit.{length-take, take-take}
use Rattle.chains.proofs.Words.{is_good, Put, whole_text}
use Rattle.formula.proofs.Sizes.{enough}
use Rattle.chains.proofs.Emitted.{emitted_most}
use Rattle.text.specs.Reading.{bytes_in}

sets_later : (x : ℕ) (l : List ℕ) (k : ℕ) (piece : List ℕ) → sets (x ∷ l) (suc k) piece ≡ x ∷ sets l k piece
sets_later x l k [] = refl
sets_later x l k (y ∷ piece) = sets_later x (set l k y) (suc k) piece

-- what fits of a piece stands at the front
clipped : (n : ℕ) (l piece : List ℕ) → n ≤ length l → n ≤ length piece → take n (sets l 0 piece) ≡ take n piece
clipped zero l piece h k = refl
clipped (suc n) [] piece h k = absurd (omega arith)
clipped (suc n) (y ∷ l) [] h k = absurd (omega arith)
clipped (suc n) (y ∷ l) (x ∷ piece) h k = rw (sets_later x l 0 piece, clipped n l piece (omega arith) (omega arith))

take_least : (k n : ℕ) (l : List ℕ) → k ≡ min (length l) n → take k l ≡ take n l
take_least k n l e = sym (take-take k n l (omega arith)) ∙ take_all k (take n l) (omega (arith, length-take n l))

module _ (text : List ℕ) {before after : List ℕ} {size : ℕ} (p : Put before after 0 (bytes_in text) size) where
  size_is : size ≡ length (bytes_in text)
  size_is = omega (arith, p.ends)

  front : (n : ℕ) → n ≤ length before → n ≤ size → take n after ≡ take n (bytes_in text)
  front n h k = ap (take n) p.written ∙ clipped n before (bytes_in text) h (omega (arith, size_is))

  -- with room for twice the text's bytes, or for as many as are enough, what is kept of them tells what all of them do
  pub kept_held : {room kept : ℕ} → length before ≡ room → min (2 * length text) enough ≤ room → room ≤ enough → kept ≡ min size room
      → is_good (whole_text text) ≡ true → take kept after ≡ take enough (bytes_in text)
  kept_held {room} {kept} long wide most is keeps =
      let all : kept ≡ min (length (bytes_in text)) enough = omega (arith, size_is, emitted_most text keeps) in
      front kept (omega arith) (omega arith) ∙ take_least kept enough (bytes_in text) all
