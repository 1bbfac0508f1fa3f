-- The literals of a row counted, a number at a time.
use Rattle.meaning.proofs.Kit.{◌≡◌, ap, ⊎_elim, List, [], ◌∷◌, ◌≤◌, ℕ, ◌<◌, ◌+◌, suc, arith, ℤ, pos, nat_abs, length, get_or, drop, take}
use Rattle.meaning.proofs.Kit.{length-take, drop-cons, drop_of_length-le, add-one}
use Rattle.meaning.proofs.Tables.{le_or_lt}
use Rattle.literals.specs.Row.{most_literals, decode}
use Rattle.literals.proofs.Decoding.{decode_zero, decode_literal}

-- the literals from number n on: none at a 0, one more at any other number, and none where the row has ended
module _ (row : List ℤ) (n : ℕ) where
  cons : n < length row → drop n row ≡ get_or row n (pos 0) ∷ drop (n + 1) row
  cons h = rw (add-one, drop-cons row n (pos 0))

  pub count_stop : n < length row → nat_abs (get_or row n (pos 0)) ≡ 0 → length (decode (drop n row)) ≡ 0
  count_stop h z = rw (cons h) (ap length (decode_zero (get_or row n (pos 0)) _ z))

  pub count_next : n < length row → (nat_abs (get_or row n (pos 0)) ≡ 0 → ⊥) → length (decode (drop n row)) ≡ suc (length (decode (drop (n + 1) row)))
  count_next h z = rw (cons h) (ap length (decode_literal (get_or row n (pos 0)) _ z))

  pub count_none : length row ≤ n → length (decode (drop n row)) ≡ 0
  unfolding decode
  count_none h = rw (drop_of_length-le row {i = n} h)

-- a row has at most eight literals
decode_few : (ls : List ℤ) → length (decode ls) ≤ length ls
unfolding decode
decode_few [] = omega arith
decode_few (l ∷ ls) =
    ⊎_elim (λ h. omega (arith, ap length (decode_zero l ls (omega arith))))
    (λ h. omega (arith, decode_few ls, ap length (decode_literal l ls (omega arith))))
    (le_or_lt (nat_abs l) 0)

pub count_few : (table : List ℤ) (at : ℕ) → length (decode (take most_literals (drop at table))) ≤ most_literals
count_few table at = omega (arith, decode_few (take most_literals (drop at table)), length-take most_literals (drop at table))
