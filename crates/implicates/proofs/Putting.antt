-- Laws of a row as it is written: zeros, and a clause's literals put in from the last on.
use Rattle.meaning.proofs.Kit.{◌≡◌, ◌∙◌, sym, ap, refl, ap₂, true, not, List, [], ◌∷◌, ◌++◌, map, ◌≤◌, ℕ, ◌<◌, ◌-◌, ◌+◌, suc, zero, ◌^◌, ◌%◌, arith}
use Rattle.meaning.proofs.Kit.{eqb, leb, ℤ, pos, length, get_or, drop, take, replicate, set, length-append, length-map, length-drop, length-replicate}
use Rattle.meaning.proofs.Kit.{take-append-drop, replicate-append-replicate, drop-cons, take_all, leb-true}
use lib.Seq.{take-append-add}
use Rattle.meaning.specs.Tests.{all}
use Rattle.meaning.specs.Literals.{place}
use Rattle.meaning.specs.Clauses.{Digit, denies, out, size, row_of}
use Rattle.meaning.proofs.Tests.{all_at, in_at}
use Rattle.meaning.proofs.Clauses.{size_le, length_row_of}
use Rattle.literals.specs.Literal.{literal_at}
use Rattle.literals.specs.Row.{most_literals, encode}
use Rattle.implicates.specs.Numbers.{clause_at}
use Rattle.implicates.proofs.Numbers.{length_clause_at}
use Rattle.implicates.proofs.Digits.{Turn, digit_of, take_turn, drop_turn, drop_first, is_literal, is_out}

-- ---- stores into copies of one value

-- a store at the last of some copies
set_last : (z x : ℤ) (m : ℕ) (t : List ℤ) → set (replicate (suc m) z ++ t) m x ≡ replicate m z ++ (x ∷ t)
set_last z x zero t = refl
set_last z x (suc m) t = ap (λ (l : List ℤ). z ∷ l) (set_last z x m t)

take_replicate : (m n : ℕ) (z : ℤ) → m ≤ n → take m (replicate n z) ≡ replicate m z
take_replicate zero n z h = refl
take_replicate (suc m) zero z h = absurd (omega arith)
take_replicate (suc m) (suc n) z h = ap (λ (l : List ℤ). z ∷ l) (take_replicate m n z (omega arith))

-- ---- a clause's literals

size_append : (u v : List Digit) → size (u ++ v) ≡ size u + size v
size_append [] v = omega arith
size_append (denies x ∷ u) v = omega (arith, size_append u v)
size_append (out ∷ u) v = size_append u v

-- a clause's literals, given the numbers of its symbols
abbrev literals : List ℕ → List Digit → List ℤ
literals ss v = map literal_at (row_of ss v)

length_literals : (ss : List ℕ) (v : List Digit) → length v ≤ length ss → length (literals ss v) ≡ size v
length_literals ss v h = length-map (row_of ss v) literal_at ∙ length_row_of ss v h

literals_none : (ss : List ℕ) → literals ss [] ≡ []
literals_none [] = refl
literals_none (s ∷ ss) = refl

-- ---- a row once the literals of the symbols after the k-th are put in

abbrev pub put_from : List ℕ → List Digit → ℕ → List ℤ
put_from ss v k = replicate (size (take k v)) (pos 0) ++ (literals (drop k ss) (drop k v) ++ replicate (most_literals - size v) (pos 0))

module _ (ss : List ℕ) (n c : ℕ) (enough : n ≡ length ss) (le : n ≤ most_literals) where
  -- a row keeps its length
  pub length_put_from : (k : ℕ) → length (put_from ss (clause_at n c) k) ≡ most_literals
  length_put_from k =
      let v = clause_at n c in
      let long = length_clause_at n c in
      simp (length-append, length-replicate, length_literals (drop k ss) (drop k v) (simp length-drop (omega arith)))
      (omega (arith, size_le v, ap size (take-append-drop k v), size_append (take k v) (drop k v)))

  -- before the first turn and after the last
  pub put_first : c < 3 ^ n → replicate most_literals (pos 0) ≡ put_from ss (clause_at n c) n
  put_first h =
      let v = clause_at n c in
      let whole : take n v ≡ v = take_all n v (omega (arith, length_clause_at n c)) in
      let none : literals (drop n ss) (drop n v) ≡ [] = ap (literals (drop n ss)) (drop_first n c h) ∙ literals_none (drop n ss) in
      let all : most_literals ≡ size v + (most_literals - size v) = omega (arith, size_le v, length_clause_at n c) in
      ap (λ (m : ℕ). replicate m (pos 0)) all
      ∙ sym (replicate-append-replicate (size v) (most_literals - size v) (pos 0))
      ∙ sym (ap₂ (λ (t : List Digit) (r : List ℤ). replicate (size t) (pos 0) ++ (r ++ replicate (most_literals - size v) (pos 0))) whole none)

  pub put_done : put_from ss (clause_at n c) 0 ≡ encode (row_of ss (clause_at n c))
  unfolding encode
  put_done =
      let v = clause_at n c in
      let long = length_clause_at n c in
      let e : most_literals ≡ length (literals ss v) + (most_literals - size v) = omega (arith, length_literals ss v (omega arith), size_le v) in
      sym
      (ap (λ (j : ℕ). take j (literals ss v ++ replicate most_literals (pos 0))) e
      ∙ take-append-add (literals ss v) (replicate most_literals (pos 0)) (most_literals - size v)
      ∙ ap (λ (z : List ℤ). literals ss v ++ z) (take_replicate (most_literals - size v) most_literals (pos 0) (omega arith)))

-- a turn of the loop that puts in the k-th symbol's literal
module _ {n c rest k : ℕ} (t : Turn n c rest k) where
  pub count_literal : rest % 3 < 2 → size (take k (clause_at n c)) ≡ suc (size (take (k - 1) (clause_at n c)))
  count_literal h = rw (take_turn t, is_literal t h, size_append) (omega arith)

  pub count_out : 2 ≤ rest % 3 → size (take k (clause_at n c)) ≡ size (take (k - 1) (clause_at n c))
  count_out h = rw (take_turn t, is_out t h, size_append) (omega arith)

  pub after_literal : rest % 3 < 2 → size (drop (k - 1) (clause_at n c)) ≡ suc (size (drop k (clause_at n c)))
  after_literal h = rw (drop_turn t, is_literal t h)

  pub after_out : 2 ≤ rest % 3 → size (drop (k - 1) (clause_at n c)) ≡ size (drop k (clause_at n c))
  after_out h = rw (drop_turn t, is_out t h)

  module _ (ss : List ℕ) (enough : n ≡ length ss) where
    split_row : literals (drop (k - 1) ss) (drop (k - 1) (clause_at n c))
        ≡ literals (get_or ss (k - 1) 0 ∷ drop k ss) (digit_of (clause_at n c) k ∷ drop k (clause_at n c))
    split_row =
        let up : suc (k - 1) ≡ k = omega arith in
        ap₂ literals (rw up at (drop-cons ss (k - 1) 0 (omega arith))) (drop_turn t)

    pub put_literal : {row : List ℤ} {at : ℕ} {z : ℤ} → row ≡ put_from ss (clause_at n c) k → at ≡ size (take k (clause_at n c)) → rest % 3 < 2
        → z ≡ literal_at (place (get_or ss (k - 1) 0) (not (eqb (rest % 3) 1))) → set row (at - 1) z ≡ put_from ss (clause_at n c) (k - 1)
    put_literal {at = at} er ea h ez =
        let e : at - 1 ≡ size (take (k - 1) (clause_at n c)) = omega (arith, count_literal h) in
        rw (er, e, ez, count_literal h, split_row, is_literal t h) (set_last (pos 0) _ (size (take (k - 1) (clause_at n c))) _)

    pub put_out : 2 ≤ rest % 3 → put_from ss (clause_at n c) k ≡ put_from ss (clause_at n c) (k - 1)
    put_out h = rw (count_out h, split_row, is_out t h)

-- a symbol's number is at least 1
pub symbol_pos : (ss : List ℕ) (i : ℕ) → all (leb 1) ss ≡ true → i < length ss → 0 < get_or ss i 0
symbol_pos ss i e h = leb-true 1 _ (all_at (leb 1) e (in_at ss i 0 h))
