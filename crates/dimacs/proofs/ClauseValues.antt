-- What a clause says as a formula: which symbols it has, and under which truth values of theirs it is true.
use Rattle.meaning.proofs.Kit.{◌≡◌, ◌∙◌, sym, ap, refl, ⊎_elim, true, false, Bool, not, ◌||◌, or-false, bool_beq, List, [], ◌∷◌, map, In, in_of_map}
use Rattle.meaning.proofs.Kit.{in_map, ◌≤◌, ℕ, suc, eqb, ℤ, pos, nat_abs, negsuc, eq-eqb, eqb-true}
use mathlib.Core.Bool.{not-not}
use Rattle.meaning.specs.Tests.{any, all, member}
use Rattle.meaning.specs.Literals.{place, opp}
use Rattle.meaning.specs.Formulae.{occurs, rule_of, symbols_of, value}
use Rattle.meaning.specs.Clauses.{satisfiable}
use Rattle.meaning.proofs.Tests.{all_at, all_of, any_at, any_found, clash, false_of, in_member, member_in, one_true_lem, same_test}
use Rattle.meaning.proofs.Literals.{opp_place, place_same}
use Rattle.meaning.proofs.Formulae.{in_symbols, symbol_occurs}
use Rattle.meaning.proofs.Implicates.{satisfied_by}
use Rattle.literals.specs.Literal.{in_range, place_of}
use Rattle.literals.proofs.Arguments.{range_facts}
use Rattle.dimacs.specs.Clauses.{claim, one_of}
use Rattle.dimacs.specs.Promises.{has_opposite}
use Rattle.dimacs.proofs.FirstFaults.{inside_clause}
use Rattle.dimacs.proofs.Tested.{by_test}

-- ---- one literal

-- the value that a literal denies its symbol
abbrev pub denied : ℤ → Bool
denied (pos s) = false
denied (negsuc k) = true

pub literal_place : (l : ℤ) → place_of l ≡ place (nat_abs l) (not (denied l))
unfolding place_of
literal_place (pos s) = refl
literal_place (negsuc k) = refl

claim_value : (e : ℕ → Bool) (l : ℤ) → value e (claim l) ≡ not (bool_beq (denied l) (e (nat_abs l)))
unfolding value
claim_value e (pos s) = by_test (e s) (λ t. rw t) (λ f. rw f)
claim_value e (negsuc k) = by_test (e (suc k)) (λ t. rw t) (λ f. rw f)

claim_occurs : (s : ℕ) (l : ℤ) → occurs s (claim l) ≡ eqb (nat_abs l) s
unfolding occurs
claim_occurs s (pos t) = refl
claim_occurs s (negsuc k) = refl

-- ---- a clause

pub clause_value : (e : ℕ → Bool) (l : ℤ) (ls : List ℤ) → value e (one_of (l ∷ ls)) ≡ any (λ m. not (bool_beq (denied m) (e (nat_abs m)))) (l ∷ ls)
unfolding one_of value
clause_value e l [] = rw (claim_value e l, or-false)
clause_value e l (m ∷ ls) = rw (claim_value e l, clause_value e m ls)

pub clause_occurs : (s : ℕ) (l : ℤ) (ls : List ℤ) → occurs s (one_of (l ∷ ls)) ≡ any (λ m. eqb (nat_abs m) s) (l ∷ ls)
unfolding one_of occurs
clause_occurs s l [] = rw (claim_occurs s l, or-false)
clause_occurs s l (m ∷ ls) = rw (claim_occurs s l, clause_occurs s m ls)

module _ (S : ℕ) (first : ℤ) (others : List ℤ) (range : all (in_range S) (first ∷ others) ≡ true) where
  abbrev c : List ℤ
  c = first ∷ others

  abbrev symbols : List ℕ
  symbols = symbols_of S (one_of c)

  pub nonzero : (l : ℤ) → In l c → 1 ≤ nat_abs l
  nonzero l i = (range_facts S l (all_at (in_range S) range i)).0

  -- the clause's symbols are those of its literals
  pub literal_symbol : (l : ℤ) → In l c → In (nat_abs l) symbols
  literal_symbol l i =
      in_symbols S (one_of c) (nat_abs l) (inside_clause S first others ∙ range)
      (clause_occurs (nat_abs l) first others ∙ any_at (λ (m : ℤ). eqb (nat_abs m) (nat_abs l)) i (eq-eqb (nat_abs l) (nat_abs l) refl))

  symbol_literal : (s : ℕ) → In s symbols → (l : ℤ) × In l c × (nat_abs l ≡ s)
  symbol_literal s i =
      let r = any_found (λ (m : ℤ). eqb (nat_abs m) s) c (sym (clause_occurs s first others) ∙ symbol_occurs S (one_of c) i) in
      (r.0, r.1, eqb-true (nat_abs r.0) s r.2)

  -- so what is tested of each of them may be tested of the literals
  pub test_symbols : (test : ℕ → Bool) → all test symbols ≡ all (λ l. test (nat_abs l)) c
  test_symbols test =
      same_test (all test symbols) (all (λ l. test (nat_abs l)) c)
      (λ h. all_of (λ (l : ℤ). test (nat_abs l)) c (λ l i. all_at test h (literal_symbol l i)))
      (λ h. all_of test symbols (λ s i. let r = symbol_literal s i in rw (sym r.2) (all_at (λ (l : ℤ). test (nat_abs l)) h r.1)))

  -- it is satisfied where its first literal is true
  pub clause_satisfied : satisfiable (rule_of S (one_of c)) ≡ true
  clause_satisfied =
      satisfied_by S (one_of c) (λ s. not (denied first)) (inside_clause S first others ∙ range)
      (clause_value (λ s. not (denied first)) first others ∙ by_test (denied first) (λ t. rw t) (λ f. rw f))

  -- ---- with a literal and its opposite it is always true

  pub always_holds : has_opposite c ≡ true → (e : ℕ → Bool) → value e (one_of c) ≡ true
  always_holds h e =
      let r = any_found (λ (l : ℤ). member (opp (place_of l)) (map place_of c)) c h in
      let l = r.0 in
      let o = in_of_map place_of c (member_in (opp (place_of l)) (map place_of c) r.2) in
      let m = o.0 in
      let there : place (nat_abs m) (not (denied m)) ≡ place (nat_abs l) (not (not (denied l))) =
      sym (literal_place m) ∙ o.2 ∙ ap opp (literal_place l) ∙ opp_place (nat_abs l) (not (denied l)) in
      let w = place_same (nat_abs m) (nat_abs l) (not (denied m)) (not (not (denied l))) (nonzero m o.1) (nonzero l r.1) there in
      let d : denied m ≡ not (denied l) = sym (not-not (denied m)) ∙ ap not w.1 ∙ not-not (not (denied l)) in
      let test : ℤ → Bool = λ k. not (bool_beq (denied k) (e (nat_abs k))) in
      clause_value e first others
      ∙ ⊎_elim (any_at test r.1) (any_at test o.1) (one_true_lem (test l) (test m) (rw (d, w.0) (either (denied l) (e (nat_abs l)))))
    where
      either : (d b : Bool) → not (bool_beq d b) || not (bool_beq (not d) b) ≡ true
      either true true = refl
      either true false = refl
      either false true = refl
      either false false = refl

  -- ---- without, each symbol has one value that the clause denies it

  abbrev pub denied_at : ℕ → Bool
  denied_at s = member (place s false) (map place_of c)

  module _ (free : has_opposite c ≡ false) where
    pub denied_is : (l : ℤ) → In l c → denied_at (nat_abs l) ≡ denied l
    denied_is (pos s) i =
        false_of (denied_at s)
        (λ e. clash (any_at (λ (l : ℤ). member (opp (place_of l)) (map place_of c)) i
        (ap (λ p. member p (map place_of c)) (ap opp (literal_place (pos s)) ∙ opp_place s true) ∙ e)) free)
    denied_is (negsuc k) i = ap (λ p. member p (map place_of c)) (sym (literal_place (negsuc k))) ∙ in_member (in_map place_of i)
