-- The numbers of a row as it is written, one at a time.
use Rattle.meaning.proofs.Kit.{◌≡◌, ◌∙◌, sym, ap, true, List, ◌++◌, map, append-nil, ◌≤◌, ℕ, ◌<◌, ◌-◌, ◌+◌, arith, ltb, ℤ, pos, length, get_or, drop}
use Rattle.meaning.proofs.Kit.{take, replicate, length-map, drop_of_length-le, list_get_or_append, length-take-le, get_or-take, get_or-append-add}
use Rattle.meaning.proofs.Kit.{get_or-replicate, ltb-true}
use Rattle.meaning.specs.Tests.{all}
use Rattle.meaning.proofs.Tests.{all_at, in_at}
use Rattle.literals.specs.Literal.{literal_at}
use Rattle.literals.specs.Row.{encode, most_literals}
use Rattle.literals.proofs.Encoding.{length_encode}
use Rattle.implicates.proofs.Numbers.{get_d_map_in}

pub small_at : (row : List ℕ) (count k : ℕ) → count ≤ length row → all (λ p. ltb p 400) (take count row) ≡ true → k < count → get_or row k 0 < 400
small_at row count k h e i =
    let there = in_at (take count row) k 0 (omega (arith, length-take-le count row h)) in
    rw (get_or-take count row k 0 i) at (ltb-true (get_or (take count row) k 0) 400 (all_at (λ p. ltb p 400) e there))

module _ (g : List ℕ) (k : ℕ) (h : k < most_literals) where
  pub encode_literal : k < length g → get_or (encode g) k (pos 0) ≡ literal_at (get_or g k 0)
  unfolding encode
  encode_literal i =
      get_or-take most_literals (map literal_at g ++ replicate most_literals (pos 0)) k (pos 0) h
      ∙ list_get_or_append (map literal_at g) (replicate most_literals (pos 0)) (pos 0) k (omega (arith, length-map g literal_at))
      ∙ get_d_map_in literal_at g k (pos 0) 0 i

  pub encode_zero : length g ≤ k → get_or (encode g) k (pos 0) ≡ pos 0
  unfolding encode
  encode_zero i =
      let e : length (map literal_at g) + (k - length (map literal_at g)) ≡ k = omega (arith, length-map g literal_at) in
      get_or-take most_literals (map literal_at g ++ replicate most_literals (pos 0)) k (pos 0) h
      ∙ ap (λ (j : ℕ). get_or (map literal_at g ++ replicate most_literals (pos 0)) j (pos 0)) (sym e)
      ∙ get_or-append-add (map literal_at g) (replicate most_literals (pos 0)) (k - length (map literal_at g)) (pos 0)
      ∙ get_or-replicate most_literals (k - length (map literal_at g)) (pos 0) (pos 0) (omega arith)

-- written over a part of eight numbers, it is all of the part
pub encode_all_lem : (g : List ℕ) (part : List ℤ) → length part ≡ most_literals → encode g ++ drop (length (encode g)) part ≡ encode g
encode_all_lem g part e = rw (drop_of_length-le part {i = length (encode g)} (omega (arith, length_encode g))) (append-nil (encode g))
