-- The rule of a variable, by its truth table.
use Rattle.meaning.proofs.Kit.{◌≡◌, ◌∙◌, sym, ap, refl, ap₂, ⊎_elim, true, false, Bool, ◌&&◌, not, List, [], ◌∷◌, ◌++◌, map, append-nil, map-append}
use Rattle.meaning.proofs.Kit.{◌≤◌, ℕ, ◌-◌, ◌+◌, suc, zero, ◌^◌, eq-or-lt_of_le, arith, eqb, leb, ℤ, pow_pos, length, replicate}
use Rattle.meaning.proofs.Kit.{replicate-append-replicate, ne_eqb, eq-eqb, not-true, le-leb, leb-true}
use mathlib.Core.List.{map-map}
use Rattle.meaning.specs.Formulae.{Rule, rule_of}
use Rattle.meaning.specs.Clauses.{assignments, rows_of}
use Rattle.positions.specs.Positions.{Variable, symbols_in, exactly_one, positions, formulae_of, suits}
use Rattle.meaning.proofs.Tests.{map_same, same_test, not_intro, clash}
use Rattle.meaning.proofs.Implicates.{assignment_length}
use Rattle.positions.proofs.PositionRules.{one_true, none_true, variable_symbols, variable_count, variable_accepts}
use Rattle.literals.specs.Row.{most_rules}
use Rattle.implicates.specs.Appending.{rule_by, fits, answer_of, table_of}
use Rattle.implicates.proofs.Rules.{answer_by_table, append_by_table, length_assignments}
use Rattle.positions.specs.Entering.{fits_wholly}
use Rattle.positions.specs.Writing.{only_one}

-- ---- the truth table

all_false : (rows : List (List Bool)) → map (λ a. false) rows ≡ replicate (length rows) false
all_false [] = refl
all_false (a ∷ rows) = ap (λ (l : List Bool). false ∷ l) (all_false rows)

none_table : (n : ℕ) → map none_true (assignments n) ≡ true ∷ replicate (2 ^ n - 1) false
none_table zero = refl
none_table (suc n) =
    let rows = assignments n in
    let sum : 2 ^ n - 1 + 2 ^ n ≡ 2 ^ suc n - 1 = omega (arith, pow_pos n) in
    map-append none_true (map (λ a. false ∷ a) rows) (map (λ a. true ∷ a) rows)
    ∙ ap₂ (λ (l r : List Bool). l ++ r) (map-map none_true (λ (a : List Bool). false ∷ a) rows ∙ none_table n)
    (map-map none_true (λ (a : List Bool). true ∷ a) rows ∙ all_false rows ∙ ap (λ (k : ℕ). replicate k false) (length_assignments n))
    ∙ ap (λ (l : List Bool). true ∷ l) (replicate-append-replicate (2 ^ n - 1) (2 ^ n) false ∙ ap (λ (k : ℕ). replicate k false) sum)

one_table : (n : ℕ) → only_one n ≡ map one_true (assignments n)
unfolding only_one
one_table zero = refl
one_table (suc n) =
    let rows = assignments n in
    sym (map-append one_true (map (λ a. false ∷ a) rows) (map (λ a. true ∷ a) rows)
    ∙ ap₂ (λ (l r : List Bool). l ++ r) (map-map one_true (λ (a : List Bool). false ∷ a) rows ∙ sym (one_table n))
    (map-map one_true (λ (a : List Bool). true ∷ a) rows ∙ none_table n))

-- ---- it tells the rule

module _ (S : ℕ) (x : Variable) (ok : suits S (positions x) ≡ true) where
  abbrev rule : Rule
  rule = rule_of S (exactly_one x.first (x.count - 1))

  symbols_are : rule.symbols ≡ symbols_in x
  symbols_are = variable_symbols S x ok

  truth_is : only_one x.count ≡ map rule.accepts (assignments (length rule.symbols))
  truth_is =
      one_table x.count
      ∙ sym (map_same rule.accepts one_true (assignments x.count) (λ a m. variable_accepts S x ok a (assignment_length x.count a m)))
      ∙ ap (λ (n : ℕ). map rule.accepts (assignments n)) (sym (variable_count S x ok))

  module _ (used rules lent : ℕ) where
    pub rule_answer : answer_of (rule_by (symbols_in x) (only_one x.count)) used rules lent
        ≡ answer_of (rule_of S (exactly_one x.first (x.count - 1))) used rules lent
    rule_answer =
        ap (λ (ss : List ℕ). answer_of (rule_by ss (only_one x.count)) used rules lent) (sym symbols_are)
        ∙ answer_by_table rule (only_one x.count) truth_is used rules lent

    pub rule_table : (table : List ℤ) → table_of (rule_by (symbols_in x) (only_one x.count)) used rules lent table
        ≡ table_of (rule_of S (exactly_one x.first (x.count - 1))) used rules lent table
    rule_table table =
        ap (λ (ss : List ℕ). table_of (rule_by ss (only_one x.count)) used rules lent table) (sym symbols_are)
        ∙ append_by_table rule (only_one x.count) truth_is used rules lent table

-- ---- whether one rule fits wholly

number_left : (rules : ℕ) → rules ≤ most_rules → leb (rules + 1) most_rules ≡ not (eqb rules most_rules)
number_left rules h =
    same_test (leb (rules + 1) most_rules) (not (eqb rules most_rules))
    (λ e. not_intro (eqb rules most_rules) (ne_eqb rules most_rules (λ q. omega (arith, leb-true (rules + 1) most_rules e))))
    (λ e. le-leb (rules + 1) most_rules
    (⊎_elim (λ q. clash (eq-eqb rules most_rules q) (not-true (eqb rules most_rules) e)) (λ l. omega arith) (eq-or-lt_of_le h)))

pub one_rule_fits : (S used rules lent : ℕ) (x : Variable) → rules ≤ most_rules
    → fits_wholly S used rules lent (positions x) ≡ fits used rules lent (rows_of (rule_of S (exactly_one x.first (x.count - 1))))
unfolding formulae_of
one_rule_fits S used rules lent x h =
    let rows = rows_of (rule_of S (exactly_one x.first (x.count - 1))) in
    ap₂ (λ (a b : Bool). a && b) (ap (λ (rs : List (List ℕ)). leb (used + length rs) lent) (append-nil rows)) (number_left rules h)
