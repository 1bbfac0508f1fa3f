-- Each public function's contract leaves one answer.
use Rattle.meaning.proofs.Kit.{◌≡◌, ◌∙◌, sym, refl, List, ℕ}
use Rattle.meaning.proofs.Answers.{One, ◌&◌}
use Rattle.spelling.specs.Text.{Put}
use Rattle.spelling.specs.contracts as contract'
use Rattle.spelling.proofs as spelling

-- of a piece put at a place there is one buffer and one place after it
pub put_one_way : {before m n : List ℕ} {at i j : ℕ} {piece : List ℕ} → Put before m at piece i → Put before n at piece j → (i ≡ j) × (m ≡ n)
put_one_way p q = (p.ends ∙ sym q.ends, p.written ∙ sym q.written)

one_put_natural : One contract'.put_natural.ended spelling.put_natural.Reads.Post
one_put_natural κs a x y = let one = put_one_way x.allowed y.allowed in (one.0, one.1 & refl)

one_put_literal : One contract'.put_literal.ended spelling.put_literal.Reads.Post
one_put_literal κs a x y = let one = put_one_way x.allowed y.allowed in (one.0, one.1 & refl)

one_put_word : One contract'.put_word.ended spelling.put_word.Reads.Post
one_put_word κs a x y = let one = put_one_way x.allowed y.allowed in (one.0, one.1 & refl)

one_put_named : One contract'.put_named.ended spelling.put_named.Reads.Post
one_put_named κs a x y = let one = put_one_way x.allowed.0 y.allowed.0 in (one.0, one.1 & refl)

one_put_literals : One contract'.put_literals.ended spelling.put_literals.Reads.Post
one_put_literals κs a x y = let one = put_one_way x.allowed.0 y.allowed.0 in (one.0, one.1 & refl)

one_put_marked : One contract'.put_marked.ended spelling.put_marked.Reads.Post
one_put_marked κs a x y = let one = put_one_way x.allowed.0 y.allowed.0 in (one.0, one.1 & refl)

one_put_shown : One contract'.put_shown.ended spelling.put_shown.Reads.Post
one_put_shown κs a x y = let one = put_one_way x.allowed.0 y.allowed.0 in (one.0, one.1 & refl)
