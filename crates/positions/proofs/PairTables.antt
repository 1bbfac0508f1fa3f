-- The rows of a pair table, each a rule of its own, are those of its rules.
use Rattle.meaning.proofs.Kit.{◌≡◌, ◌∙◌, sym, ap, refl, ap₂, true, List, [], ◌∷◌, ◌++◌, map, In, here, there, map-append, ◌≤◌, ℕ, ◌<◌, ◌+◌, suc, ◌*◌}
use Rattle.meaning.proofs.Kit.{add-zero, arith, ℤ, length, length-append, length-map}
use Rattle.meaning.specs.Tests.{from}
use Rattle.meaning.specs.Formulae.{rule_of}
use Rattle.meaning.specs.SecondWay.{rules_of}
use Rattle.positions.specs.Positions.{PairTable, Side, first_side, second_side, sides, pair_clause, pair_clauses, pair_row, pairs, formulae_of, suits}
use Rattle.meaning.proofs.Tests.{from_in}
use Rattle.positions.proofs.PositionRows.{pair_rows}
use Rattle.positions.proofs.Turns.{length_made}
use Rattle.literals.specs.Row.{width, Ruled, of_rules}
use Rattle.literals.proofs.RuledRows.{of_rules_append, length_of_rules}
use Rattle.implicates.specs.Appending.{appended}
use Rattle.implicates.proofs.Appending.{appended_more}
use Rattle.positions.specs.Entering.{rows_of_entry}
use Rattle.positions.specs.Writing.{each_a_rule, side_rows, both_rows}

-- ---- rows that are each a rule

each_append : (n : ℕ) (rows more : List (List ℕ)) → each_a_rule n (rows ++ more) ≡ each_a_rule n rows ++ each_a_rule (n + length rows) more
each_append n [] more = ap (λ (k : ℕ). each_a_rule k more) (sym (add-zero n))
each_append n (row ∷ rows) more =
    let next : suc n + length rows ≡ n + suc (length rows) = omega arith in
    ap (λ (rs : List Ruled). record { rule = n; row = row } ∷ rs)
    (each_append (suc n) rows more ∙ ap (λ (k : ℕ). each_a_rule (suc n) rows ++ each_a_rule k more) next)

each_long : (n : ℕ) (rows : List (List ℕ)) → length (each_a_rule n rows) ≡ length rows
each_long n [] = refl
each_long n (row ∷ rows) = ap suc (each_long (suc n) rows)

side_long : (s : Side) → length (side_rows s) ≡ s.own.count
side_long s = length_made (pair_row s) s.own.count

-- ---- both sides, one after the other

module _ (t : PairTable) (rows rules : ℕ) (table : List ℤ) (room : width * (rows + (t.one.count + t.other.count)) ≤ length table) where
  pub both_written : appended (appended table rows (each_a_rule (suc rules) (side_rows (first_side t)))) (rows + t.one.count)
      (each_a_rule (suc (rules + t.one.count)) (side_rows (second_side t)))
      ≡ appended table rows (each_a_rule (suc rules) (both_rows t))
  both_written =
      let first = each_a_rule (suc rules) (side_rows (first_side t)) in
      let long : length first ≡ t.one.count = each_long (suc rules) (side_rows (first_side t)) ∙ side_long (first_side t) in
      let number : suc (rules + t.one.count) ≡ suc rules + length (side_rows (first_side t)) = omega (arith, side_long (first_side t)) in
      ap₂ (λ (k n : ℕ). appended (appended table rows first) (rows + k) (each_a_rule n (side_rows (second_side t)))) (sym long) number
      ∙ appended_more table rows first (each_a_rule (suc rules + length (side_rows (first_side t))) (side_rows (second_side t))) (omega (arith, long))
      ∙ ap (appended table rows) (sym (each_append (suc rules) (side_rows (first_side t)) (side_rows (second_side t))))

-- ---- the rules that they are of

module _ (S : ℕ) (t : PairTable) (ok : suits S (pairs t) ≡ true) where
  side_rules : (s : Side) (n : ℕ) (is : List ℕ) → In s (sides t) → ((i : ℕ) → In i is → i < s.own.count)
      → of_rules n (rules_of S (map (pair_clause s) is)) ≡ each_a_rule n (map (pair_row s) is)
  side_rules s n [] m h = refl
  side_rules s n (i ∷ is) m h =
      rw (pair_rows S t s i ok m (h i (here refl)))
      (ap (λ (rs : List Ruled). record { rule = n; row = pair_row s i } ∷ rs) (side_rules s (suc n) is m (λ j k. h j (there k))))

  side_is : (s : Side) (n : ℕ) → In s (sides t) → of_rules n (rules_of S (pair_clauses s)) ≡ each_a_rule n (side_rows s)
  side_is s n m = side_rules s n (from 0 s.own.count) m (λ i k. omega (arith, (from_in 0 s.own.count i k).1))

  clauses_long : (s : Side) → length (pair_clauses s) ≡ s.own.count
  clauses_long s = length_made (pair_clause s) s.own.count

  pub table_rules : (n : ℕ) → of_rules n (rules_of S (formulae_of (pairs t))) ≡ each_a_rule n (both_rows t)
  unfolding formulae_of
  table_rules n =
      let one = first_side t in
      let two = second_side t in
      ap (of_rules n) (map-append (rule_of S) (pair_clauses one) (pair_clauses two))
      ∙ of_rules_append n (rules_of S (pair_clauses one)) (rules_of S (pair_clauses two))
      ∙ ap₂ (λ (a b : List Ruled). a ++ b) (side_is one n (here refl))
      (side_is two (n + length (rules_of S (pair_clauses one))) (there (here refl))
      ∙ ap (λ (k : ℕ). each_a_rule (n + k) (side_rows two)) (length-map (pair_clauses one) (rule_of S) ∙ clauses_long one ∙ sym (side_long one)))
      ∙ sym (each_append n (side_rows one) (side_rows two))

  -- so many rows, and so many rules
  pub table_rows : length (rows_of_entry S (pairs t)) ≡ t.one.count + t.other.count
  table_rows =
      let rows = length-append (side_rows (first_side t)) (side_rows (second_side t)) in
      sym (length_of_rules 0 (rules_of S (formulae_of (pairs t)))) ∙ ap length (table_rules 0) ∙ each_long 0 (both_rows t)
      ∙ omega (arith, rows, side_long (first_side t), side_long (second_side t))

  pub table_formulae : length (formulae_of (pairs t)) ≡ t.one.count + t.other.count
  unfolding formulae_of
  table_formulae =
      length-append (pair_clauses (first_side t)) (pair_clauses (second_side t))
      ∙ omega (arith, clauses_long (first_side t), clauses_long (second_side t))
