-- Laws of the rule that a truth table tells: the table of primes has its prime implicates, and what it appends is told by its rows.
use Rattle.meaning.proofs.Kit.{◌≡◌, ◌∙◌, sym, ap, refl, ap₂, inl, inr, ◌⊎◌, ◌≢◌, true, false, Bool, cond, not, and-false, List, [], ◌∷◌, ◌++◌, map}
use Rattle.meaning.proofs.Kit.{map-append, ◌≤◌, ℕ, ◌<◌, ◌-◌, ◌+◌, suc, zero, ◌^◌, zero-add, arith, eqb, leb, ℤ, length, get_or, take, replicate}
use Rattle.meaning.proofs.Kit.{length-append, length-map, length-replicate, list_get_or_append, take_at, get_or-take, get_or-append-add, ne_eqb, eq-eqb}
use Rattle.meaning.proofs.Kit.{not-true, le-leb, leb-true, eqb-false, lt-leb}
use mathlib.Core.List.{map-map}
use Rattle.meaning.specs.Tests.{any}
use Rattle.meaning.specs.Formulae.{Rule}
use Rattle.meaning.specs.Clauses.{assignments, Digit, out, hit, prime, in_order, primes_in_order, row_of, rows_of, satisfiable}
use Rattle.meaning.proofs.Tests.{both_true}
use Rattle.meaning.proofs.Clauses.{given, hit_same, hit_empty}
use Rattle.meaning.proofs.Order.{in_order_same, primes_same}
use Rattle.literals.specs.Row.{most_rules, of_rule}
use Rattle.implicates.specs.Hits.{index, sat_of, hit_table, marked, prime_in, prime_table}
use Rattle.implicates.specs.Appending.{rule_by, appended, fits, answer_of, table_of}
use Rattle.std.specs.Prelude.{Ok, Err}
use Rattle.literals.specs.declared.refusal.Refusal.TheVariants.{NoAssignment, TableFull}
use Rattle.implicates.proofs.Numbers.{clauses_some, number_empty, table_marks}
use Rattle.implicates.proofs.Table.{index_below}
use Rattle.implicates.proofs.Lone.{prime_in_prime}

-- ---- the tables of hits and primes

module _ (n : ℕ) (truth : List Bool) where
  hits_mark : (v : List Digit) → length v ≡ n → marked (hit_table n truth) v ≡ hit (sat_of truth) v
  unfolding hit_table
  hits_mark v l = table_marks (hit (sat_of truth)) n v l

  -- the last clause is the empty one, which is hit where some assignment satisfies the rule
  last_hit : get_or (hit_table n truth) (3 ^ n - 1) false ≡ any (sat_of truth) (assignments n)
  last_hit =
      ap (λ (i : ℕ). get_or (hit_table n truth) i false) (sym (number_empty n))
      ∙ hits_mark (replicate n out) (length-replicate n out)
      ∙ hit_empty (sat_of truth) n

  -- the marked clauses are the prime implicates
  pub primes_listed : in_order (marked (prime_table n (hit_table n truth))) n ≡ primes_in_order (sat_of truth) n
  unfolding prime_table
  primes_listed =
      in_order_same (marked (prime_table n (hit_table n truth))) (prime (sat_of truth)) n
      (λ v l. table_marks (prime_in (hit_table n truth)) n v l ∙ prime_in_prime (sat_of truth) n (hit_table n truth) hits_mark v l)

-- ---- the same, where a table is the first r of a longer list

pub record Front (r : ℕ) (table whole : List Bool) : Type 0 where
  pub room : r ≤ length whole
  pub long : length (take r whole) ≡ r
  pub is : take r whole ≡ table

pub front_of : {r : ℕ} {table filled : List Bool} (rest : List Bool) → filled ≡ table → length table ≡ r → Front r table (filled ++ rest)
front_of {r} {filled = filled} rest e l =
    let lf = ap length e ∙ l in
    let is = take_at filled rest r lf in
    record { room = omega (arith, lf, length-append filled rest); long = ap length is ∙ lf; is = is ∙ e }

pub hits_last : (n : ℕ) (truth whole : List Bool) {r : ℕ} → Front r (hit_table n truth) whole → r ≡ 3 ^ n
    → get_or whole (r - 1) false ≡ any (sat_of truth) (assignments n)
hits_last n truth whole {r} f e =
    sym (get_or-take r whole (r - 1) false (omega (arith, e, clauses_some n)))
    ∙ ap₂ (λ (h : List Bool) (j : ℕ). get_or h (j - 1) false) f.is e
    ∙ last_hit n truth

-- ---- what is told, and the table after it, on each way out

module _ (rule : Rule) (used rules lent : ℕ) (table : List ℤ) where
  pub told_unsatisfiable : satisfiable rule ≡ false → (Err NoAssignment ≡ answer_of rule used rules lent) × (table ≡ table_of rule used rules lent table)
  unfolding answer_of table_of
  told_unsatisfiable s = rw s (refl, refl)

  pub told_full : satisfiable rule ≡ true → fits used rules lent (rows_of rule) ≡ false
      → (Err TableFull ≡ answer_of rule used rules lent) × (table ≡ table_of rule used rules lent table)
  unfolding answer_of table_of
  told_full s h = rw (s, h) (refl, refl)

  pub told_rows : satisfiable rule ≡ true → fits used rules lent (rows_of rule) ≡ true
      → (Ok (length (rows_of rule)) ≡ answer_of rule used rules lent)
      × (appended table used (of_rule (suc rules) (rows_of rule)) ≡ table_of rule used rules lent table)
  unfolding answer_of table_of
  told_rows s h = rw (s, h) (refl, refl)

-- ---- whether rows fit, and the rule has a number left

module _ (used rules lent : ℕ) (rows : List (List ℕ)) where
  pub fits_not : (lent < used + length rows) ⊎ (rules ≡ most_rules) → fits used rules lent rows ≡ false
  fits_not (inl h) = rw (lt-leb (used + length rows) lent h)
  fits_not (inr e) = rw (eq-eqb rules most_rules e) (and-false (leb (used + length rows) lent))

  pub fits_so : used + length rows ≤ lent → rules ≢ most_rules → fits used rules lent rows ≡ true
  fits_so h n = rw (le-leb (used + length rows) lent h, ne_eqb rules most_rules n)

  pub fits_facts : fits used rules lent rows ≡ true → (used + length rows ≤ lent) × (rules ≢ most_rules)
  fits_facts e =
      let b = both_true (leb (used + length rows) lent) (not (eqb rules most_rules)) e in
      (leb-true _ _ b.0, eqb-false rules most_rules (not-true (eqb rules most_rules) b.1))

-- an answer of n rows says that they fit
pub told_fit : (rule : Rule) (used rules lent n : ℕ) → answer_of rule used rules lent ≡ Ok n → (n ≡ length (rows_of rule)) × (used + n ≤ lent)
unfolding answer_of
told_fit rule used rules lent n e = go (satisfiable rule) (fits used rules lent (rows_of rule)) refl e
  where
    go : (s enough : Bool) → fits used rules lent (rows_of rule) ≡ enough
        → cond s (cond enough (Ok (length (rows_of rule))) (Err TableFull)) (Err NoAssignment) ≡ Ok n → (n ≡ length (rows_of rule)) × (used + n ≤ lent)
    go true true f q = let r : n ≡ length (rows_of rule) = cc in (r, omega (arith, (fits_facts used rules lent (rows_of rule) f).0))
    go true false f q = let z : ◌≡◌ {A = ℕ} 0 1 = cc in absurd (omega arith)
    go false enough f q = let z : ◌≡◌ {A = ℕ} 0 1 = cc in absurd (omega arith)

-- ---- the truth table of a rule tells the rule

pub length_assignments : (n : ℕ) → length (assignments n) ≡ 2 ^ n
length_assignments zero = refl
length_assignments (suc n) = simp (length-append, length-map, length_assignments n) (omega arith)

module _ (sat : List Bool → Bool) (a : List Bool) where
  part : Bool → List Bool
  part x = map (given sat x) (assignments (length a))

  long : (x : Bool) → length (part x) ≡ 2 ^ length a
  unfolding part
  long x = length-map (assignments (length a)) (given sat x) ∙ length_assignments (length a)

  -- the half of the table where the first symbol has the value x
  half : (x : Bool) → sat_of (part x) a ≡ sat (x ∷ a) → get_or (part false ++ part true) (cond x (2 ^ length a) 0 + index a) false ≡ sat (x ∷ a)
  half false e = rw zero-add (list_get_or_append (part false) (part true) false (index a) (omega (arith, long false, index_below a)) ∙ e)
  half true e = rw (← long false) (get_or-append-add (part false) (part true) (index a) false ∙ e)

-- the table's answer is the rule's
table_tells : (sat : List Bool → Bool) (a : List Bool) → sat_of (map sat (assignments (length a))) a ≡ sat a
unfolding part
table_tells sat [] = refl
table_tells sat (b ∷ a) = simp (map-append, map-map) (half sat a b (table_tells (given sat b) a))

module _ (rule : Rule) (truth : List Bool) (e : truth ≡ map rule.accepts (assignments (length rule.symbols))) where
  told : (a : List Bool) → length a ≡ length rule.symbols → sat_of truth a ≡ rule.accepts a
  told a l = ap (λ (t : List Bool). sat_of t a) (e ∙ ap (λ (n : ℕ). map rule.accepts (assignments n)) (sym l)) ∙ table_tells rule.accepts a

  pub rows_by_table : rows_of (rule_by rule.symbols truth) ≡ rows_of rule
  rows_by_table = ap (map (row_of rule.symbols)) (primes_same (sat_of truth) rule.accepts (length rule.symbols) told)

  pub satisfiable_by_table : satisfiable (rule_by rule.symbols truth) ≡ satisfiable rule
  satisfiable_by_table =
      let n = length rule.symbols in
      sym (hit_empty (sat_of truth) n)
      ∙ hit_same (sat_of truth) rule.accepts (replicate n out) (λ a l. told a (l ∙ length-replicate n out))
      ∙ hit_empty rule.accepts n

  -- so the answer and the table after it are the rule's
  pub answer_by_table : (used rules lent : ℕ) → answer_of (rule_by rule.symbols truth) used rules lent ≡ answer_of rule used rules lent
  unfolding answer_of
  answer_by_table used rules lent = rw (satisfiable_by_table, rows_by_table)

  pub append_by_table : (used rules lent : ℕ) (table : List ℤ)
      → table_of (rule_by rule.symbols truth) used rules lent table ≡ table_of rule used rules lent table
  unfolding table_of
  append_by_table used rules lent table = rw (satisfiable_by_table, rows_by_table)
