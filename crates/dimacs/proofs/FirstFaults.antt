-- The first fault of clauses one after the other: where none is at fault, each is a rule that the board takes, all have been passed, their rows
-- have room, and each has a number.
use Rattle.meaning.proofs.Kit.{◌≡◌, ◌∙◌, sym, ap, refl, ◌≢◌, true, false, Bool, ◌&&◌, not, and-true, List, [], ◌∷◌, ◌++◌, map, ◌≤◌, ℕ, ◌+◌, suc}
use Rattle.meaning.proofs.Kit.{arith, leb, ℤ, pos, negsuc, length, length-append, not-false}
use Rattle.meaning.specs.Tests.{all}
use Rattle.meaning.specs.Formulae.{value, inside, look, symbols_of, rule_of}
use Rattle.meaning.specs.Clauses.{assignments, all_rows, satisfiable}
use Rattle.meaning.specs.SecondWay.{accepted, rules_of}
use Rattle.meaning.proofs.Tests.{and_intro, any_never, any_same, clash}
use Rattle.literals.specs.Literal.{in_range}
use Rattle.literals.specs.Row.{most_rules}
use Rattle.implicates.specs.Appending.{fits}
use Rattle.implicates.proofs.Rules.{fits_facts}
use Rattle.board.specs.Faults.{Fault, first_fault, if_done}
use Rattle.board.specs.Faults.{Outcome}
use Rattle.std.specs.Prelude.{Ok, Err}
use Rattle.board.proofs.Answered.{refused_not_done, first_append, none_given}
use Rattle.dimacs.specs.Clauses.{claim, one_of, rows_of_clause, clause_faults, clauses_faults, passed}

-- where none is given, none of either
done_append : (fs gs : List Fault) → first_fault (fs ++ gs) ≡ Ok tt → (first_fault fs ≡ Ok tt) × (first_fault gs ≡ Ok tt)
done_append fs gs e = go (first_fault fs) (sym (first_append fs gs) ∙ e)
  where
    go : (o : Outcome) → if_done o (first_fault gs) (λ why. Err why) ≡ Ok tt → (o ≡ Ok tt) × (first_fault gs ≡ Ok tt)
    go (Ok _) h = (refl, h)
    go (Err why) h = refused_not_done h

-- ---- one clause

inside_claim : (S : ℕ) (l : ℤ) → inside S (claim l) ≡ in_range S l
unfolding inside
inside_claim S (pos s) = refl
inside_claim S (negsuc k) = refl

-- a clause's symbols are of 1 to S just where its literals are in range
pub inside_clause : (S : ℕ) (l : ℤ) (ls : List ℤ) → inside S (one_of (l ∷ ls)) ≡ all (in_range S) (l ∷ ls)
unfolding one_of inside
inside_clause S l [] = inside_claim S l ∙ sym (and-true (in_range S l))
inside_clause S l (m ∷ ls) = rw (inside_claim S l, inside_clause S m ls)

-- the empty clause is never true
pub empty_never : (S : ℕ) → satisfiable (rule_of S (one_of [])) ≡ false
unfolding one_of value
empty_never S =
    let n = length (symbols_of S (one_of [])) in
    any_same (λ (a : List Bool). value (look (symbols_of S (one_of [])) a) (one_of [])) (λ (a : List Bool). false) (assignments n)
    (λ a m. never (look (symbols_of S (one_of [])) a 1))
    ∙ any_never (assignments n)
  where
    never : (b : Bool) → b && not b ≡ false
    never true = refl
    never false = refl

module _ (S used rules lent : ℕ) (c : List ℤ) (done : first_fault (clause_faults S used rules lent c) ≡ Ok tt) where
  -- where a clause is not at fault, its literals are in range, and its rule has few symbols, an assignment, room for its rows, and a number
  done_tests : (all (in_range S) c ≡ true) × (leb (length (symbols_of S (one_of c))) 8 ≡ true) × (satisfiable (rule_of S (one_of c)) ≡ true)
      × (fits used rules lent (rows_of_clause S c) ≡ true)
  unfolding clause_faults
  done_tests =
      let given = none_given (clause_faults S used rules lent c) done in
      (not-false _ (given 0), not-false _ (given 1), not-false _ (given 2), not-false _ (given 3))

  done_fits : (used + length (rows_of_clause S c) ≤ lent) × (rules ≢ most_rules)
  done_fits = fits_facts used rules lent (rows_of_clause S c) done_tests.3

-- so the board takes its rule
pub clause_accepted : (S used rules lent : ℕ) (c : List ℤ) → first_fault (clause_faults S used rules lent c) ≡ Ok tt → accepted S (one_of c) ≡ true
clause_accepted S used rules lent [] done = clash (done_tests S used rules lent [] done).2 (empty_never S)
clause_accepted S used rules lent (l ∷ ls) done =
    let t = done_tests S used rules lent (l ∷ ls) done in
    rw (inside_clause S l ls ∙ t.0, t.1, t.2)

-- ---- several clauses, none at fault: so neither is the first nor, with its rows in use and itself counted, any other

pub both_done : (S used rules lent : ℕ) (c : List ℤ) (cs : List (List ℤ)) → first_fault (clauses_faults S used rules lent (c ∷ cs)) ≡ Ok tt
    → (first_fault (clause_faults S used rules lent c) ≡ Ok tt)
    × (first_fault (clauses_faults S (used + length (rows_of_clause S c)) (suc rules) lent cs) ≡ Ok tt)
unfolding clauses_faults
both_done S used rules lent c cs done =
    done_append (clause_faults S used rules lent c) (clauses_faults S (used + length (rows_of_clause S c)) (suc rules) lent cs) done

pub clauses_accepted : (S used rules lent : ℕ) (cs : List (List ℤ)) → first_fault (clauses_faults S used rules lent cs) ≡ Ok tt
    → all (accepted S) (map one_of cs) ≡ true
clauses_accepted S used rules lent [] done = refl
clauses_accepted S used rules lent (c ∷ cs) done =
    let r = both_done S used rules lent c cs done in
    and_intro (accepted S (one_of c)) (all (accepted S) (map one_of cs)) (clause_accepted S used rules lent c r.0)
    (clauses_accepted S (used + length (rows_of_clause S c)) (suc rules) lent cs r.1)

pub clauses_fit : (S used rules lent : ℕ) (cs : List (List ℤ)) → first_fault (clauses_faults S used rules lent cs) ≡ Ok tt → used ≤ lent
    → used + length (all_rows (rules_of S (map one_of cs))) ≤ lent
clauses_fit S used rules lent [] done within = omega arith
clauses_fit S used rules lent (c ∷ cs) done within =
    let r = both_done S used rules lent c cs done in
    let rest = clauses_fit S (used + length (rows_of_clause S c)) (suc rules) lent cs r.1 (done_fits S used rules lent c r.0).0 in
    omega (arith, rest, length-append (rows_of_clause S c) (all_rows (rules_of S (map one_of cs))))

pub clauses_numbered : (S used rules lent : ℕ) (cs : List (List ℤ)) → first_fault (clauses_faults S used rules lent cs) ≡ Ok tt → rules ≤ most_rules
    → rules + length cs ≤ most_rules
clauses_numbered S used rules lent [] done few = omega arith
clauses_numbered S used rules lent (c ∷ cs) done few =
    let r = both_done S used rules lent c cs done in
    let next : suc rules ≤ most_rules = omega (arith, few, (done_fits S used rules lent c r.0).1) in
    omega (arith, clauses_numbered S (used + length (rows_of_clause S c)) (suc rules) lent cs r.1 next)

pub clauses_passed : (S used rules lent : ℕ) (cs : List (List ℤ)) → first_fault (clauses_faults S used rules lent cs) ≡ Ok tt
    → passed S used rules lent cs ≡ length cs
unfolding passed
clauses_passed S used rules lent [] done = refl
clauses_passed S used rules lent (c ∷ cs) done =
    let r = both_done S used rules lent c cs done in
    rw r.0 (ap suc (clauses_passed S (used + length (rows_of_clause S c)) (suc rules) lent cs r.1))
