-- The words of a pair table's marks, one after the other: whether each is so many marks, and the pairs that they allow.
use Rattle.meaning.proofs.Kit.{◌≡◌, refl, subst, true, ◌&&◌, List, ◌≤◌, ℕ, ◌<◌, ◌-◌, ◌+◌, suc, ◌*◌, zero, arith, eqb, leb, length, eqb-true, leb-true}
use Rattle.meaning.specs.Tests.{all}
use Rattle.meaning.proofs.Tests.{both_true}
use Rattle.positions.specs.Positions.{Variable, counted}
use Rattle.orders.specs.Words.{word_at}
use Rattle.orders.specs.Marks.{has_count}
use Rattle.orders.specs.Marks.{are_marks, are_rows, is_mark, marked_by, rows_marked}

-- it is the test that the calls make
one_count : (x : Variable) → has_count x.count ≡ counted x
one_count x = refl

pub count_few : (n : ℕ) → has_count n ≡ true → n ≤ 7
count_few n e = leb-true n 7 (both_true (leb 2 n) (leb n 7) e).1

-- ---- from word j on, k being the next

module _ (line : List ℕ) (from rows j k : ℕ) (e : k ≡ suc j) (h : k ≤ rows) where
  one_left : rows - j ≡ suc (rows - k)
  one_left = omega arith

  next_after : from + k ≡ suc (from + j)
  next_after = omega arith

  pub rows_step : (count : ℕ)
      → are_rows line (from + j) (rows - j) count ≡ (are_marks count (word_at (from + j) line) && are_rows line (from + k) (rows - k) count)
  unfolding are_rows
  rows_step count = rw (one_left, next_after)

  pub marked_rows_step : rows_marked line (from + j) (rows - j) ≡ 128 * rows_marked line (from + k) (rows - k) + marked_by (word_at (from + j) line)
  unfolding rows_marked
  marked_rows_step = rw (one_left, next_after)

module _ (line : List ℕ) (from rows : ℕ) where
  pub rows_none : (count : ℕ) → are_rows line from rows count ≡ are_rows line (from + 0) (rows - 0) count
  rows_none count =
      let a : from + 0 ≡ from = omega arith in
      let b : rows - 0 ≡ rows = omega arith in
      rw (a, b)

  pub rows_over : (k count : ℕ) → rows ≤ k → are_rows line from (rows - k) count ≡ true
  unfolding are_rows
  rows_over k count h = let e : rows - k ≡ 0 = omega arith in rw e

  pub marked_rows_none : 0 ≡ rows_marked line (from + rows) (rows - rows)
  unfolding rows_marked
  marked_rows_none = let e : rows - rows ≡ 0 = omega arith in rw e

-- ---- each of the words is so many marks

row_marks : (line : List ℕ) (from rows count j : ℕ) → are_rows line from rows count ≡ true → j < rows → are_marks count (word_at (from + j) line) ≡ true
unfolding are_rows
row_marks line from zero count j e h = absurd (omega arith)
row_marks line from (suc rows) count zero e h =
    let here : from + 0 ≡ from = omega arith in
    rw here (both_true (are_marks count (word_at from line)) (are_rows line (suc from) rows count) e).0
row_marks line from (suc rows) count (suc j) e h =
    let next : suc from + j ≡ from + suc j = omega arith in
    subst (λ (n : ℕ). are_marks count (word_at n line) ≡ true) next
    (row_marks line (suc from) rows count j (both_true (are_marks count (word_at from line)) (are_rows line (suc from) rows count) e).1 (omega arith))

pub row_size : (line : List ℕ) (from rows count j : ℕ) → are_rows line from rows count ≡ true → j < rows → length (word_at (from + j) line) ≡ count
unfolding are_marks
row_size line from rows count j e h =
    let word = word_at (from + j) line in
    eqb-true (length word) count (both_true (all is_mark word) (eqb (length word) count) (row_marks line from rows count j e h)).1
