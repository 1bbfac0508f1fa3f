-- A position in a pair table has one row, its clause.
use Rattle.meaning.proofs.Kit.{◌≡◌, ◌∙◌, sym, ap, refl, ap₂, true, false, Bool, ◌&&◌, not, ◌||◌, bool_beq, and-true, List, [], ◌∷◌, map, In}
use Rattle.meaning.proofs.Kit.{map-append, ℕ, ◌<◌, eqb, length, length-map, ne_eqb, eq-eqb}
use mathlib.Core.Bool.{not-not, and_comm}
use Rattle.meaning.specs.Tests.{any, all}
use Rattle.meaning.specs.Literals.{place}
use Rattle.meaning.specs.Formulae.{symbols_of, look, rule_of}
use Rattle.meaning.specs.Clauses.{row_of, rows_of}
use Rattle.positions.specs.Positions.{symbol_at, Side, partners, pair_clause, pair_row}
use Rattle.positions.specs.Promises.{PairRows}
use Rattle.meaning.proofs.Tests.{any_same, any_not, all_same, all_append, map_same}
use Rattle.meaning.proofs.Formulae.{symbols_ascend, look_self}
use Rattle.meaning.proofs.ClauseRows.{against, unless, falsifies_map, row_map, clause_alone}
use Rattle.positions.proofs.PositionRules.{FitSide, side_fits}
use Rattle.positions.proofs.PairRules.{beside, own_first_lem, partner_other, pair_value, clause_symbols_lem}

-- ---- an element put before a list or after it

all_beside : {A : Type 0} (test : A → Bool) (b : Bool) (x : A) (xs : List A) → all test (beside b x xs) ≡ (test x && all test xs)
all_beside test true x xs = refl
all_beside test false x xs = all_append test xs (x ∷ []) ∙ ap (λ (c : Bool). all test xs && c) (and-true (test x)) ∙ and_comm (all test xs) (test x)

map_beside : {A B : Type 0} (f : A → B) (b : Bool) (x : A) (xs : List A) → map f (beside b x xs) ≡ beside b (f x) (map f xs)
map_beside f true x xs = refl
map_beside f false x xs = map-append f xs (x ∷ [])

-- ---- a position's rule says that its clause is true

module _ (S : ℕ) (s : Side) (i : ℕ) (fit : FitSide S s) (small : i < s.own.count) where
  abbrev own : ℕ
  own = symbol_at s.own i

  abbrev symbols : List ℕ
  symbols = symbols_of S (pair_clause s i)

  -- the clause denies its own symbol that it is true, and its partners that they are false
  abbrev denied : ℕ → Bool
  denied t = eqb t own

  own_denied : denied own ≡ true
  own_denied = eq-eqb own own refl

  partner_denied : (t : ℕ) → In t (partners s i) → denied t ≡ false
  partner_denied t m = ne_eqb t own (partner_other S s i fit small t m)

  says_clause : (e : ℕ → Bool) → any e (partners s i) || not (e own) ≡ not (all (λ t. bool_beq (denied t) (e t)) symbols)
  says_clause e =
      ap (λ (b : Bool). b || not (e own))
      (any_same e (λ t. not (not (e t))) (partners s i) (λ t m. sym (not-not (e t))) ∙ any_not (λ t. not (e t)) (partners s i))
      ∙ not_both_lem (all (λ t. not (e t)) (partners s i)) (e own)
      ∙ ap not (sym (ap (all test) (clause_symbols_lem S s i fit small) ∙ all_beside test (own_first_lem s) own (partners s i) ∙ ap₂ ◌&&◌ at_own at_partners))
    where
      test : ℕ → Bool
      test t = bool_beq (denied t) (e t)

      not_both_lem : (a b : Bool) → not a || not b ≡ not (b && a)
      not_both_lem true true = refl
      not_both_lem true false = refl
      not_both_lem false true = refl
      not_both_lem false false = refl

      beq_true : (d : Bool) → bool_beq true d ≡ d
      beq_true true = refl
      beq_true false = refl

      beq_false : (d : Bool) → bool_beq false d ≡ not d
      beq_false true = refl
      beq_false false = refl

      at_own : test own ≡ e own
      at_own = rw own_denied (beq_true (e own))

      at_partners : all test (partners s i) ≡ all (λ t. not (e t)) (partners s i)
      at_partners = all_same test (λ t. not (e t)) (partners s i) (λ t m. rw (partner_denied t m) (beq_false (e t)))

  accepts_clause : (a : List Bool) → length a ≡ length symbols → (rule_of S (pair_clause s i)).accepts a ≡ unless (map denied symbols) a
  accepts_clause a long =
      let e : ℕ → Bool = look symbols a in
      pair_value e s i
      ∙ says_clause e
      ∙ ap not (sym (falsifies_map denied e symbols))
      ∙ ap (unless (map denied symbols)) (look_self 0 symbols a (symbols_ascend S (pair_clause s i)) long)

  row_clause : row_of symbols (against (map denied symbols)) ≡ pair_row s i
  row_clause =
      row_map denied symbols
      ∙ ap (map literal) (clause_symbols_lem S s i fit small)
      ∙ map_beside literal (own_first_lem s) own (partners s i)
      ∙ ap₂ (beside (own_first_lem s)) (ap (λ (b : Bool). place own (not b)) own_denied)
      (map_same literal (λ t. place t true) (partners s i) (λ t m. ap (λ (b : Bool). place t (not b)) (partner_denied t m)))
    where
      literal : ℕ → ℕ
      literal t = place t (not (denied t))

  clause_row : rows_of (rule_of S (pair_clause s i)) ≡ pair_row s i ∷ []
  clause_row =
      clause_alone (rule_of S (pair_clause s i)) (map denied symbols) (length-map symbols denied) accepts_clause
      ∙ ap (λ (row : List ℕ). row ∷ []) row_clause

pub pair_rows : PairRows
pair_rows S t s i ok m l = clause_row S s i (side_fits S t s ok m) l
