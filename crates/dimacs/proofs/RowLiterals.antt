-- The literals of a row: the part of the table from the row's place on, as long as the row has literals.
use Rattle.meaning.proofs.Kit.{◌≡◌, ap, refl, List, [], ◌∷◌, ◌≤◌, ℕ, ◌-◌, ◌+◌, ◌*◌, arith, eqb, ℤ, nat_abs, length, drop, take, length-take, take-take}
use Rattle.literals.specs.Row.{decode, most_literals, numbers_at, width}
use Rattle.literals.proofs.Counting.{count_few}
use Rattle.dimacs.specs.Writing.{clause_at, literals_of}
use Rattle.dimacs.proofs.Tested.{by_test}

literals_take : (row : List ℤ) → take (length (decode row)) row ≡ literals_of row
unfolding literals_of decode
literals_take [] = refl
literals_take (l ∷ row) = by_test (eqb (nat_abs l) 0) (λ t. rw t) (λ f. rw f (rw (literals_take row)))

module _ (t : List ℤ) (r : ℕ) where
  pub clause_few : length (clause_at t r) ≤ most_literals
  unfolding numbers_at
  clause_few =
      let row = numbers_at t r in
      omega (arith, ap length (literals_take row), length-take (length (decode row)) row, count_few t (width * r))

  -- the part of n numbers, where the row has n literals
  pub part_is : (n : ℕ) → n ≡ length (decode (take most_literals (drop (width * r) t)))
      → take ((width * r + n) - width * r) (drop (width * r) t) ≡ clause_at t r
  unfolding numbers_at
  part_is n is =
      let from = drop (width * r) t in
      let size : (width * r + n) - width * r ≡ n = omega arith in
      rw (size, ← take-take n most_literals from (omega (arith, is, count_few t (width * r))), is) (literals_take (take most_literals from))
