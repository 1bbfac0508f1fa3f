-- The text of a rule: it fits into a line's bytes, and a word put into a slot of its own length is all that stands there.
use Rattle.meaning.proofs.Kit.{◌≡◌, ap, refl, List, [], ◌∷◌, ◌≤◌, ℕ, suc, zero, arith, length}
use Rattle.dimacs.specs.Words.{since}
use Rattle.dimacs.proofs.Scanning.{since_within}
use Rattle.names.specs.Slots.{padded}
use Rattle.orders.specs.Words.{in_word, is_blank, rest_at}

pub rest_within : (k : ℕ) (line : List ℕ) → length (rest_at k line) ≤ length line
unfolding rest_at
rest_within zero line = since_within in_word line
rest_within (suc k) line =
    omega (arith, since_within in_word (since is_blank (rest_at k line)), since_within is_blank (rest_at k line), rest_within k line)

pub padded_whole : (word : List ℕ) → padded (length word) word ≡ word
unfolding padded
padded_whole [] = refl
padded_whole (c ∷ word) = ap (λ (l : List ℕ). c ∷ l) (padded_whole word)
