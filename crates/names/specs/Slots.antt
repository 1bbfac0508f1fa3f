-- A table of words in slots of equal width: a word's bytes, and zeros after them.
use Rattle.std.specs.Prelude.{ℕ, zero, suc, ◌*◌, Bool, true, false, ◌&&◌, List, [], ◌∷◌, eqb, take, drop, Option}
use Rattle.std.specs.List.{position}
use Rattle.meaning.specs.Tests.{from}

-- nothing, or a zero first
unfoldable pub is_over : List ℕ → Bool
is_over [] = true
is_over (b ∷ rest) = eqb b 0

-- a slot has a word: its bytes are the word's, and then it is over
unfoldable pub fits : (slot word : List ℕ) → Bool
fits slot [] = is_over slot
fits [] (c ∷ word) = false
fits (b ∷ slot) (c ∷ word) = eqb b c && fits slot word

abbrev pub slot_at : (width k : ℕ) → (slots : List ℕ) → List ℕ
slot_at width k slots = take width (drop (width * k) slots)

-- the number of the first of `count` slots that has the word, from 0, if any has it
unfoldable pub slot_of : (width count : ℕ) → (slots word : List ℕ) → Option ℕ
slot_of width count slots word = position (λ k. fits (slot_at width k slots) word) (from 0 count)

-- what stands in a slot of so many bytes that a word was put into
unfoldable pub padded : (width : ℕ) → (word : List ℕ) → List ℕ
padded zero word = []
padded (suc width) [] = 0 ∷ padded width []
padded (suc width) (c ∷ word) = c ∷ padded width word
