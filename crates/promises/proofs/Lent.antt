-- The table is lent from its front: the rows that lie in a front part are the same there and in the whole.
use Rattle.meaning.proofs.Kit.{◌≡◌, ◌∙◌, sym, ap, refl, ap₂, List, [], ◌++◌, map, ◌≤◌, ℕ, ◌<◌, ◌+◌, ◌*◌, arith, ℤ, pos, length, drop, take}
use Rattle.meaning.proofs.Kit.{length-drop, list_get_or_append, take-append-drop}
use lib.Seq.{take-append-le, drop-append-le}
use Rattle.meaning.proofs.Tables.{tabulate_same}
use Rattle.literals.specs.Row.{width, most_literals, numbers_at, rule_number, rule_at, decode, rows_in, Ruled, ruled_in}
use Rattle.literals.proofs.RuledRows.{rows_of_table}

module _ (front rest : List ℤ) where
  pub numbers_front : (r : ℕ) → width * r + width ≤ length front → numbers_at (front ++ rest) r ≡ numbers_at front r
  unfolding numbers_at
  numbers_front r h =
      rw (drop-append-le (width * r) front rest (omega arith))
      (take-append-le most_literals (drop (width * r) front) rest (omega (arith, length-drop (width * r) front)))

  rule_front : (r : ℕ) → width * r + width ≤ length front → rule_at (front ++ rest) r ≡ rule_at front r
  unfolding rule_at
  rule_front r h = ap rule_number (list_get_or_append front rest (pos 0) (width * r + most_literals) (omega arith))

  pub ruled_front : (used : ℕ) → width * used ≤ length front → ruled_in used (front ++ rest) ≡ ruled_in used front
  unfolding ruled_in
  ruled_front used h =
      tabulate_same (record { rule = 0; row = [] }) used used _ _ refl
      (λ r b. ap₂ (λ (n : ℕ) (row : List ℕ). record { rule = n; row = row }) (rule_front r (omega arith)) (ap decode (numbers_front r (omega arith))))

module _ (lent used : ℕ) (table : List ℤ) (h : width * used ≤ length (take lent table)) where
  pub ruled_lent : ruled_in used (take lent table) ≡ ruled_in used table
  ruled_lent = sym (ruled_front (take lent table) (drop lent table) used h) ∙ ap (ruled_in used) (take-append-drop lent table)

  pub rows_lent_lem : rows_in used (take lent table) ≡ rows_in used table
  rows_lent_lem = sym (rows_of_table used (take lent table)) ∙ ap (map (λ (r : Ruled). r.row)) ruled_lent ∙ rows_of_table used table

  pub numbers_lent : (r : ℕ) → r < used → numbers_at (take lent table) r ≡ numbers_at table r
  numbers_lent r b =
      sym (numbers_front (take lent table) (drop lent table) r (omega arith)) ∙ ap (λ (t : List ℤ). numbers_at t r) (take-append-drop lent table)

  pub rule_lent : (r : ℕ) → r < used → rule_at (take lent table) r ≡ rule_at table r
  rule_lent r b = sym (rule_front (take lent table) (drop lent table) r (omega arith)) ∙ ap (λ (t : List ℤ). rule_at t r) (take-append-drop lent table)
