-- From the bytes of a formula that was read to its rule: its symbols as they are listed, its truth table, and what adding comes to.
use Rattle.meaning.proofs.Kit.{◌≡◌, ◌∙◌, sym, ap, refl, subst, ap₂, ⊎_elim, ◌⊎◌, inl, inr, true, false, Bool, cond, List, ◌++◌, map, ◌≤◌, ℕ, ◌-◌, suc, ◌*◌, ◌^◌, ◌%◌}
use Rattle.meaning.proofs.Kit.{one-mul, arith, eqb, leb, ℤ, pow_mono, length, take, replicate, length-append, take_at, le-leb, leb-true}
use native.Mathlib.Nat.{mod-eq_of_lt}
use Rattle.std.specs.Prelude.{Some, None}
use Rattle.meaning.specs.Tests.{all, from}
use Rattle.meaning.specs.Formulae.{Formula, occurs, symbols_of, Rule, rule_of}
use Rattle.meaning.specs.Clauses.{assignments, rows_of, satisfiable}
use Rattle.meaning.proofs.Tests.{true_or_false, clash, all_of, keep_in, from_in}
use Rattle.literals.specs.Row.{of_rule}
use Rattle.literals.specs.Refusals.{number_of}
use Rattle.literals.specs.declared.refusal.Refusal.{Refusal}
use Rattle.literals.specs.declared.refusal.Refusal.TheVariants.{BytesLeftOver, NoAssignment, TableFull}
use Rattle.formula.specs.Parse.{Parsed, good, bad, parse, levels, ended, whole_of}
use Rattle.formula.specs.Answers.{is_good, padded, named, names_of, truth_of, formula_of}
use Rattle.formula.specs.declared.naming.Names.{Names}
use Rattle.formula.proofs.Faults.{whole_faults}
use Rattle.implicates.specs.Appending.{rule_by, fits, appended, answer_of, table_of}
use Rattle.std.specs.Prelude.{Result, Ok, Err}
use Rattle.implicates.proofs.Rules.{answer_by_table, append_by_table}
use Rattle.board.specs.Faults.{first_fault}
use Rattle.board.specs.Rules.{rule_faults, no_place, place_told, rows_of_bytes, with_rules, ruled, ruled_table}
use Rattle.board.specs.declared.Board.{Board}

-- ---- how many assignments there are to n symbols, as a shift tells

pub few_assignments : (n : ℕ) → n ≤ 8 → 2 ^ n ≤ 256
few_assignments n h = pow_mono h

pub shifted : (n : ℕ) → n ≤ 8 → 1 * 2 ^ n % 2 ^ 64 ≡ 2 ^ n
shifted n h = mod-eq_of_lt (rw one-mul (omega (arith, few_assignments n h))) ∙ one-mul (2 ^ n)

-- ---- a fault of the formula is told with its place

pub place_told_lem : (S : ℕ) (bytes : List ℕ) {why : Refusal} {at : ℕ} → whole_of S bytes ≡ bad why at → place_told (Err why) (whole_of S bytes) ≡ at
place_told_lem S bytes {why} e =
    let numbers = rw e at (whole_faults S bytes) in
    rw (e, le-leb 2 (number_of why) numbers.0, le-leb (number_of why) 6 numbers.1)

-- ---- bytes that are a formula as a whole are one from the front

ended_good : (count : ℕ) (p : Parsed) → is_good (ended count p) ≡ true → ended count p ≡ p
ended_good count (good f used) e = go (eqb used count) e
  where
    go : (t : Bool) → is_good (cond t (good f used) (bad BytesLeftOver used)) ≡ true → cond t (good f used) (bad BytesLeftOver used) ≡ good f used
    go true e = refl
    go false e = clash e refl
ended_good count (bad why at) e = refl

pub whole_is : (S : ℕ) (bytes : List ℕ) → is_good (whole_of S bytes) ≡ true → whole_of S bytes ≡ parse S levels bytes
unfolding whole_of
whole_is S bytes e = ended_good (length bytes) (parse S levels bytes) e

-- ---- the symbols as they are listed

pub symbols_positive : (S : ℕ) (f : Formula) → all (leb 1) (symbols_of S f) ≡ true
unfolding symbols_of
symbols_positive S f = all_of (leb 1) (symbols_of S f) (λ s m. le-leb 1 s (from_in 1 S s (keep_in (λ s. occurs s f) (from 1 S) m).0).0)

-- the list holds the formula's symbols at its front
pub record Listed (S : ℕ) (p : Parsed) (r : Names) : Type 0 where
  pub few : leb (length (symbols_of S (formula_of p))) 8 ≡ true
  pub most : r.count ≤ 8
  pub room : r.count ≤ length r.list
  pub is : take r.count r.list ≡ symbols_of S (formula_of p)
  pub long : length (take r.count r.list) ≡ r.count
  pub positive : all (leb 1) (take r.count r.list) ≡ true

listed_of : (S : ℕ) (f : Formula) (used : ℕ) → leb (length (symbols_of S f)) 8 ≡ true
    → Listed S (good f used) (record { list = padded (symbols_of S f); count = length (symbols_of S f) })
unfolding padded
listed_of S f used e =
    let l = symbols_of S f in
    let front : take (length l) (l ++ replicate (8 - length l) 0) ≡ l = take_at l (replicate (8 - length l) 0) (length l) refl in
    record {
      few = e;
      most = leb-true (length l) 8 e;
      room = omega (arith, length-append l (replicate (8 - length l) 0));
      is = front;
      long = ap length front;
      positive = rw front (symbols_positive S f);
    }

pub listed : (S : ℕ) (p : Parsed) {r : Names} → is_good p ≡ true → Some r ≡ names_of S p → Listed S p r
unfolding names_of named
listed S (bad why at) g e = clash g refl
listed S (good f used) {r} g e =
    ⊎_elim (λ t. (let is : r ≡ record { list = padded (symbols_of S f); count = length (symbols_of S f) } = (let told = rw t at e in cc) in
    rw is (listed_of S f used t)))
    (λ t. (let told = rw t at e in cc))
    (true_or_false (leb (length (symbols_of S f)) 8))

pub too_many_lem : (S : ℕ) (p : Parsed) → is_good p ≡ true → None ≡ names_of S p → leb (length (symbols_of S (formula_of p))) 8 ≡ false
unfolding names_of named
too_many_lem S (bad why at) g e = clash g refl
too_many_lem S (good f used) g e =
    ⊎_elim (λ t. (let told = rw t at e in cc)) (λ t. t) (true_or_false (leb (length (symbols_of S f)) 8))

-- ---- the truth table

truth_is : (S : ℕ) (p : Parsed) → is_good p ≡ true
    → truth_of (symbols_of S (formula_of p)) p ≡ map (rule_of S (formula_of p)).accepts (assignments (length (symbols_of S (formula_of p))))
unfolding truth_of
truth_is S (good f used) g = refl
truth_is S (bad why at) g = clash g refl

-- so the table tells the rule of the bytes
module _ (S : ℕ) (bytes names : List ℕ) (truth : List Bool) (g : is_good (whole_of S bytes) ≡ true)
    (e : names ≡ symbols_of S (formula_of (whole_of S bytes))) (t : truth ≡ truth_of names (parse S levels bytes)) where
  abbrev rule : Rule
  rule = rule_of S (formula_of (whole_of S bytes))

  table_is : truth ≡ map rule.accepts (assignments (length rule.symbols))
  table_is = t ∙ ap₂ truth_of e (sym (whole_is S bytes g)) ∙ truth_is S (whole_of S bytes) g

  pub answer_is : (used rules : ℕ) {lent all : ℕ} {answer : Result ℕ Refusal} → lent ≡ all → answer ≡ answer_of (rule_by names truth) used rules lent
      → answer ≡ answer_of (rule_of S (formula_of (whole_of S bytes))) used rules all
  answer_is used rules {all = all} l a = a ∙ rw (l, e) (answer_by_table rule truth table_is used rules all)

  pub append_is : (used rules : ℕ) (table : List ℤ) {lent all : ℕ} {after : List ℤ} → lent ≡ all
      → after ≡ table_of (rule_by names truth) used rules lent table → after ≡ table_of (rule_of S (formula_of (whole_of S bytes))) used rules all table
  append_is used rules table {all = all} l a = a ∙ rw (l, e) (append_by_table rule truth table_is used rules all table)

-- ---- what appending comes to, and why

module _ (rule : Rule) (used rules lent : ℕ) where
  -- what is known of the rule's two tests after each answer
  abbrev pub Because : Result ℕ Refusal → Type 0
  Because (Err why) = ((why ≡ NoAssignment) × (satisfiable rule ≡ false))
      ⊎ ((why ≡ TableFull) × (satisfiable rule ≡ true) × (fits used rules lent (rows_of rule) ≡ false))
  Because (Ok n) = (satisfiable rule ≡ true) × (fits used rules lent (rows_of rule) ≡ true) × (n ≡ length (rows_of rule))

  pub because : {answer : Result ℕ Refusal} → answer_of rule used rules lent ≡ answer → Because answer
  unfolding answer_of
  because {answer} e = subst Because e (go (satisfiable rule) (fits used rules lent (rows_of rule)) refl refl)
    where
      go : (s enough : Bool) → satisfiable rule ≡ s → fits used rules lent (rows_of rule) ≡ enough
          → Because (cond s (cond enough (Ok (length (rows_of rule))) (Err TableFull)) (Err NoAssignment))
      go true true s f = (s, f, refl)
      go true false s f = inr (refl, s, f)
      go false enough s f = inl (refl, s)

-- ---- the answer and the table after it, where adding is refused and where it is done

module _ (table : List ℤ) (b : Board) (bytes : List ℕ) where
  pub rule_refused : (why : Refusal) {place : ℕ} → first_fault (rule_faults table b bytes) ≡ Err why
      → place_told (Err why) (whole_of b.symbols bytes) ≡ place
      → (record { outcome = Err why; place = place; added = 0; board = b } ≡ ruled table b bytes) × (table ≡ ruled_table table b bytes)
  unfolding ruled ruled_table
  rule_refused why e p = rw (e, sym p) (refl, refl)

  pub rule_done : first_fault (rule_faults table b bytes) ≡ Ok tt → let rows = rows_of_bytes b.symbols bytes in
      (record { outcome = Ok tt; place = no_place; added = length rows; board = with_rules b (length rows) 1 } ≡ ruled table b bytes)
      × (appended table b.rows (of_rule (suc b.rules) rows) ≡ ruled_table table b bytes)
  unfolding ruled ruled_table
  rule_done e = rw e (refl, refl)
