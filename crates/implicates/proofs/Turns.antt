-- One turn of a loop that appends the rows of clauses.
use Rattle.meaning.proofs.Kit.{◌≡◌, ◌∙◌, sym, ap, refl, ap₂, List, [], ◌∷◌, ◌++◌, map, map-append, ◌≤◌, ℕ, ◌-◌, ◌+◌, ◌*◌, add-zero, arith, ℤ, pos}
use Rattle.meaning.proofs.Kit.{length, set, length-append, length-map}
use borrow.Rule.Slice.PartMut.{put_mid}
use Rattle.meaning.specs.Clauses.{Digit, row_of}
use Rattle.literals.specs.Row.{width, most_literals, encode, Ruled, of_rule}
use Rattle.implicates.specs.Appending.{appended}
use Rattle.implicates.proofs.Appending.{appended_none, appended_one, appended_more, length_appended}

-- ---- what is appended for some clauses

-- their rows, with the rule's number
abbrev rows_of : (rule : ℕ) → List ℕ → List (List Digit) → List Ruled
rows_of rule ss vs = of_rule rule (map (row_of ss) vs)

length_rows_of : (rule : ℕ) (ss : List ℕ) (vs : List (List Digit)) → length (rows_of rule ss vs) ≡ length vs
length_rows_of rule ss vs = length-map (map (row_of ss) vs) (λ row. record { rule = rule; row = row }) ∙ length-map vs (row_of ss)

-- the table t with these from `row` on, and the next free row
pub record Stands (t : List ℤ) (row rule : ℕ) (ss : List ℕ) (vs : List (List Digit)) (table : List ℤ) (next : ℕ) : Type 0 where
  pub rows : table ≡ appended t row (rows_of rule ss vs)
  pub count : next ≡ row + length vs

module _ {t : List ℤ} {row rule : ℕ} {ss : List ℕ} {vs : List (List Digit)} where
  -- nothing for none
  pub skipped : vs ≡ [] → Stands t row rule ss vs t row
  skipped e = rw e record { rows = sym (appended_none t row); count = sym (add-zero row) }

  -- and one row for one
  pub one_row : {v : List Digit} {last : List ℤ} {number : ℤ} → width * (row + 1) ≤ length t → vs ≡ v ∷ [] → last ≡ encode (row_of ss v)
      → number ≡ pos rule
      → let at = width * row in Stands t row rule ss vs (set (put_mid at (at + most_literals - at) t last) (at + most_literals) number) (row + 1)
  one_row {v} h e l n = rw (e, l, n) record { rows = appended_one t row rule (row_of ss v) h; count = refl }

  pub stands_same : {us : List (List Digit)} {table : List ℤ} {next : ℕ} → vs ≡ us → Stands t row rule ss vs table next
      → Stands t row rule ss us table next
  stands_same e s = rw e at s

  -- the table keeps its length
  pub stands_long : {table : List ℤ} {next : ℕ} → Stands t row rule ss vs table next → width * (row + length vs) ≤ length t → length table ≡ length t
  stands_long s h = ap length s.rows ∙ length_appended t row (rows_of rule ss vs) (omega (arith, length_rows_of rule ss vs))

-- one turn: the rows of `us` stand in the table, and a call appends those of `xs`
module _ {t : List ℤ} {row rule : ℕ} {ss : List ℕ} {us vs : List (List Digit)} {table : List ℤ} {next : ℕ}
    (xs : List (List Digit)) (s : Stands t row rule ss us table next) (e : vs ≡ us ++ xs) (room : width * (row + length vs) ≤ length t) where
  both : length vs ≡ length us + length xs
  both = ap length e ∙ length-append us xs

  pub next_room : width * (next + length xs) ≤ length table
  next_room = omega (arith, both, stands_long s (omega (arith, both)))

  pub next_stands : {table' : List ℤ} {next' : ℕ} → Stands table next rule ss xs table' next' → Stands t row rule ss vs table' next'
  next_stands f =
      let l = length_rows_of rule ss us in
      let joined : rows_of rule ss us ++ rows_of rule ss xs ≡ rows_of rule ss vs =
      sym (map-append (λ row. record { rule = rule; row = row }) (map (row_of ss) us) (map (row_of ss) xs))
      ∙ ap (of_rule rule) (sym (ap (map (row_of ss)) e ∙ map-append (row_of ss) us xs)) in
      record {
        rows =
            f.rows
            ∙ ap₂ (λ (d : List ℤ) (j : ℕ). appended d j (rows_of rule ss xs)) s.rows (s.count ∙ ap (λ (j : ℕ). row + j) (sym l))
            ∙ appended_more t row (rows_of rule ss us) (rows_of rule ss xs) (omega (arith, l, both))
            ∙ ap (appended t row) joined;
        count = omega (arith, both);
      }
