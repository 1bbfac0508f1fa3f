-- Rows with the numbers of their rules: those of a table, and those of rules in their order.
use Rattle.meaning.proofs.Kit.{◌≡◌, ◌∙◌, sym, ap, refl, subst, ⊎_elim, List, [], ◌∷◌, ◌++◌, map, In, here, append-nil, there, append_assoc, in_nil}
use Rattle.meaning.proofs.Kit.{in_of_map, map-append, in_append, ◌≤◌, ℕ, ◌<◌, ◌-◌, ◌+◌, suc, zero, add-zero, arith, eqb, ℤ, length, get_or}
use Rattle.meaning.proofs.Kit.{length-append, length-map, list_get_or_append, get_or-append-add, ne_eqb, eq-eqb}
use Rattle.meaning.specs.Tests.{keep}
use Rattle.meaning.specs.Formulae.{Rule}
use Rattle.meaning.specs.Clauses.{rows_of, all_rows}
use Rattle.meaning.proofs.Tests.{in_at, keep_append}
use Rattle.meaning.proofs.Tables.{le_or_lt, length_tabulate, get_d_tabulate, map_tabulate}
use Rattle.literals.specs.Row.{rows_in, rule_at, decode, numbers_at, Ruled, ruled_in, of_rule, of_rules, with_number}

-- ---- one by one

abbrev ruled_at : List ℤ → ℕ → Ruled
ruled_at t r = record { rule = rule_at t r; row = decode (numbers_at t r) }

pub length_ruled : (used : ℕ) (t : List ℤ) → length (ruled_in used t) ≡ used
unfolding ruled_in
length_ruled used t = length_tabulate used (ruled_at t)

pub ruled_at_lem : (used : ℕ) (t : List ℤ) (d : Ruled) (r : ℕ) → r < used
    → get_or (ruled_in used t) r d ≡ record { rule = rule_at t r; row = decode (numbers_at t r) }
unfolding ruled_in
ruled_at_lem used t d r h = get_d_tabulate used (ruled_at t) r d h

-- ---- without the numbers they are the rows

pub rows_of_table : (used : ℕ) (t : List ℤ) → map (λ r. r.row) (ruled_in used t) ≡ rows_in used t
unfolding ruled_in rows_in
rows_of_table used t = map_tabulate (λ (r : Ruled). r.row) used (ruled_at t)

rows_of_rule_lem : (n : ℕ) (rows : List (List ℕ)) → map (λ r. r.row) (of_rule n rows) ≡ rows
rows_of_rule_lem n [] = refl
rows_of_rule_lem n (row ∷ rows) = rw (rows_of_rule_lem n rows)

pub rows_of_rules : (n : ℕ) (rules : List Rule) → map (λ r. r.row) (of_rules n rules) ≡ all_rows rules
rows_of_rules n [] = refl
rows_of_rules n (r ∷ rs) =
    rw (map-append (λ (x : Ruled). x.row) (of_rule n (rows_of r)) (of_rules (suc n) rs), rows_of_rule_lem n (rows_of r), rows_of_rules (suc n) rs)

pub length_of_rule : (n : ℕ) (rows : List (List ℕ)) → length (of_rule n rows) ≡ length rows
length_of_rule n rows = length-map rows (λ row. record { rule = n; row = row })

pub length_of_rules : (n : ℕ) (rules : List Rule) → length (of_rules n rules) ≡ length (all_rows rules)
length_of_rules n rules = sym (length-map (of_rules n rules) (λ (x : Ruled). x.row)) ∙ ap length (rows_of_rules n rules)

-- ---- of rules after rules the numbers go on

pub of_rules_append : (n : ℕ) (rules more : List Rule) → of_rules n (rules ++ more) ≡ of_rules n rules ++ of_rules (n + length rules) more
of_rules_append n [] more = rw (add-zero n)
of_rules_append n (r ∷ rs) more =
    let next : suc n + length rs ≡ n + suc (length rs) = omega arith in
    rw (of_rules_append (suc n) rs more, next, append_assoc)

pub of_one_rule : (n : ℕ) (r : Rule) → of_rules n (r ∷ []) ≡ of_rule n (rows_of r)
of_one_rule n r = append-nil (of_rule n (rows_of r))

-- ---- each is a row of the rule that its number names

-- x is a row of the rule at `at`, from 0, where the first has the number n
pub record OfRule (n : ℕ) (rules : List Rule) (d : Rule) (x : Ruled) : Type 0 where
  pub at : ℕ
  pub inside : at < length rules
  pub number : x.rule ≡ n + at
  pub its_row : In x.row (rows_of (get_or rules at d))

of_rule_in : (n : ℕ) (rows : List (List ℕ)) {x : Ruled} → In x (of_rule n rows) → (x.rule ≡ n) × In x.row rows
of_rule_in n rows {x} m =
    let f = in_of_map (λ row. record { rule = n; row = row }) rows m in
    (ap (λ (r : Ruled). r.rule) (sym f.2), subst (λ (r : Ruled). In r.row rows) f.2 f.1)

pub of_rules_in : (n : ℕ) (rules : List Rule) (d : Rule) {x : Ruled} → In x (of_rules n rules) → OfRule n rules d x
of_rules_in n [] d m = absurd (in_nil m)
of_rules_in n (r ∷ rs) d {x} m =
    ⊎_elim
    (λ i. (let f = of_rule_in n (rows_of r) i in record { at = 0; inside = omega arith; number = f.0 ∙ sym (add-zero n); its_row = f.1 }))
    (λ i. (let f = of_rules_in (suc n) rs d i in
    record { at = suc f.at; inside = omega (arith, f.inside); number = omega (arith, f.number); its_row = f.its_row }))
    (in_append (of_rule n (rows_of r)) m)

pub of_rules_range : (n : ℕ) (rules : List Rule) {x : Ruled} → In x (of_rules n rules) → (n ≤ x.rule) × (x.rule < n + length rules)
of_rules_range n [] m = absurd (in_nil m)
of_rules_range n (r ∷ rs) m = let f = of_rules_in n (r ∷ rs) r m in (omega (arith, f.number), omega (arith, f.number, f.inside))

-- ---- along them the numbers do not fall

own_number : (n : ℕ) (rows : List (List ℕ)) (d : Ruled) (i : ℕ) → i < length (of_rule n rows) → (get_or (of_rule n rows) i d).rule ≡ n
own_number n rows d i h = (of_rule_in n rows (in_at (of_rule n rows) i d h)).0

pub numbers_climb : (n : ℕ) (rules : List Rule) (d : Ruled) (i j : ℕ) → i ≤ j → j < length (of_rules n rules)
    → (get_or (of_rules n rules) i d).rule ≤ (get_or (of_rules n rules) j d).rule
numbers_climb n [] d i j up h = absurd (omega arith)
numbers_climb n (r ∷ rs) d i j up h =
    ⊎_elim
    (λ l. rw (past i l, past j (omega arith)) (numbers_climb (suc n) rs d (i - length xs) (j - length xs) (omega arith) (omega (arith, both))))
    (λ l. ⊎_elim
    (λ m. (let later = (of_rules_range (suc n) rs (in_at ys (j - length xs) d (omega (arith, both)))).0 in
    rw (within i l, past j m) (omega (arith, own_number n (rows_of r) d i l, later))))
    (λ m. rw (within i l, within j m) (omega (arith, own_number n (rows_of r) d i l, own_number n (rows_of r) d j m)))
    (le_or_lt (length xs) j))
    (le_or_lt (length xs) i)
  where
    xs : List Ruled
    xs = of_rule n (rows_of r)

    ys : List Ruled
    ys = of_rules (suc n) rs

    both : length (xs ++ ys) ≡ length xs + length ys
    both = length-append xs ys

    within : (k : ℕ) → k < length xs → get_or (xs ++ ys) k d ≡ get_or xs k d
    within k l = list_get_or_append xs ys d k l

    past : (k : ℕ) → length xs ≤ k → get_or (xs ++ ys) k d ≡ get_or ys (k - length xs) d
    past k l =
        let is : k ≡ length xs + (k - length xs) = omega arith in
        ap (λ (m : ℕ). get_or (xs ++ ys) m d) is ∙ get_or-append-add xs ys (k - length xs) d

-- ---- those that carry a number are the rows of its rule

with_append : (i : ℕ) (xs ys : List Ruled) → with_number i (xs ++ ys) ≡ with_number i xs ++ with_number i ys
with_append i xs ys =
    ap (map (λ (r : Ruled). r.row)) (keep_append (λ (r : Ruled). eqb r.rule i) xs ys)
    ∙ map-append (λ (r : Ruled). r.row) (keep (λ r. eqb r.rule i) xs) (keep (λ r. eqb r.rule i) ys)

with_own : (n : ℕ) (rows : List (List ℕ)) → with_number n (of_rule n rows) ≡ rows
with_own n [] = refl
with_own n (row ∷ rows) = rw (eq-eqb n n refl, with_own n rows)

with_none : (i : ℕ) (xs : List Ruled) → ((x : Ruled) → In x xs → x.rule ≡ i → ⊥) → with_number i xs ≡ []
with_none i [] other = refl
with_none i (x ∷ xs) other = rw (ne_eqb x.rule i (other x (here refl))) (with_none i xs (λ y m. other y (there m)))

pub with_number_lem : (n : ℕ) (rules : List Rule) (d : Rule) (i : ℕ) → i < length rules → with_number (n + i) (of_rules n rules) ≡ rows_of (get_or rules i d)
with_number_lem n [] d i h = absurd (omega arith)
with_number_lem n (r ∷ rs) d zero h =
    let later : (x : Ruled) → In x (of_rules (suc n) rs) → x.rule ≡ n → ⊥ = λ x m e. omega (arith, e, (of_rules_in (suc n) rs d m).number) in
    rw (add-zero, with_append n (of_rule n (rows_of r)) (of_rules (suc n) rs), with_own n (rows_of r), with_none n (of_rules (suc n) rs) later)
    (append-nil (rows_of r))
with_number_lem n (r ∷ rs) d (suc i) h =
    let earlier : (x : Ruled) → In x (of_rule n (rows_of r)) → x.rule ≡ n + suc i → ⊥ = λ x m e. omega (arith, e, (of_rule_in n (rows_of r) m).0) in
    let next : n + suc i ≡ suc n + i = omega arith in
    rw (with_append (n + suc i) (of_rule n (rows_of r)) (of_rules (suc n) rs), with_none (n + suc i) (of_rule n (rows_of r)) earlier, next)
    (with_number_lem (suc n) rs d i (omega arith))
