-- The first fault of a clause is the one that the code finds, from the places that it gathers.
use Rattle.meaning.proofs.Kit.{◌≡◌, ◌∙◌, sym, ap, refl, true, false, ◌||◌, or-false, List, [], ◌∷◌, here, ◌≤◌, ℕ, arith, eqb, leb, ℤ, pos, length}
use Rattle.meaning.proofs.Kit.{length-map, ne_eqb, le-leb}
use mathlib.Core.Bool.{or_self}
use Rattle.meaning.specs.Tests.{all, from}
use Rattle.meaning.specs.Formulae.{occurs, symbols_of}
use Rattle.meaning.proofs.Tests.{keep_same}
use Rattle.meaning.proofs.SoundRows.{in_some}
use Rattle.literals.specs.Literal.{in_range}
use Rattle.literals.specs.Row.{most_literals}
use Rattle.implicates.specs.Appending.{fits}
use Rattle.board.specs.Faults.{first_fault}
use Rattle.dimacs.specs.Clauses.{clause_faults, one_of, rows_of_clause}
use Rattle.dimacs.specs.Gathering.{gathered_rows, found_fault, gathered, inserted}
use Rattle.dimacs.proofs.FirstFaults.{empty_never}
use Rattle.dimacs.proofs.GatheredSymbols.{gathered_symbols, symbol_at}
use Rattle.dimacs.specs.Promises.{EmptyAlone}
use Rattle.dimacs.proofs.ClauseValues.{clause_satisfied, literal_symbol}
use Rattle.dimacs.proofs.ClauseRules.{clause_rows, symbols_gathered}
use Rattle.dimacs.proofs.Tested.{by_test}

-- ---- a clause of some literals, in range

module _ (S used rules lent : ℕ) (first : ℤ) (others : List ℤ) (range : all (in_range S) (first ∷ others) ≡ true) where
  abbrev c : List ℤ
  c = first ∷ others

  -- as many places as symbols
  as_many : length (symbols_of S (one_of c)) ≡ length (gathered [] c)
  as_many = ap length (symbols_gathered S first others range) ∙ length-map (gathered [] c) symbol_at

  some_places : eqb (length (gathered [] c)) 0 ≡ false
  some_places = ne_eqb (length (gathered [] c)) 0 (omega (arith, as_many, in_some (literal_symbol S first others range first (here refl))))

  range_fault : first_fault (clause_faults S used rules lent c) ≡ found_fault S used rules lent c
  unfolding clause_faults
  range_fault =
      let few : leb (length (symbols_of S (one_of c))) 8 ≡ leb (length (gathered [] c)) most_literals = ap (λ (n : ℕ). leb n 8) as_many in
      let room : fits used rules lent (rows_of_clause S c) ≡ fits used rules lent (gathered_rows c) =
      ap (λ (rows : List (List ℕ)). fits used rules lent rows) (clause_rows S c range (omega arith)) in
      rw (range, few, clause_satisfied S first others range, room, some_places)
      (by_test (leb (length (gathered [] c)) most_literals)
      (λ f. by_test (fits used rules lent (gathered_rows c)) (λ r. rw (f, r)) (λ r. rw (f, r))) (λ f. rw f))

-- ---- the clause of none

-- its symbol is 1 alone
empty_few : (S : ℕ) → 1 ≤ S → leb (length (symbols_of S (one_of []))) 8 ≡ true
unfolding symbols_of one_of occurs gathered inserted
empty_few S one =
    ap (λ (symbols : List ℕ). leb (length symbols) 8)
    (keep_same (λ s. occurs s (one_of [])) (λ s. eqb 1 s || false) (from 1 S) (λ s i. or_self (eqb 1 s) ∙ sym (or-false (eqb 1 s)))
    ∙ sym (gathered_symbols S (pos 1 ∷ []) (rw (le-leb 1 S one))))

pub clause_fault : (S used rules lent : ℕ) (c : List ℤ) → 1 ≤ S → first_fault (clause_faults S used rules lent c) ≡ found_fault S used rules lent c
unfolding clause_faults gathered
clause_fault S used rules lent [] one = rw (empty_few S one, empty_never S)
clause_fault S used rules lent (l ∷ ls) one = by_test (all (in_range S) (l ∷ ls)) (range_fault S used rules lent l ls) (λ e. rw e)

pub empty_alone : EmptyAlone
empty_alone S [] range = empty_never S
empty_alone S (l ∷ ls) range = clause_satisfied S l ls range ∙ rw (ne_eqb (length (l ∷ ls)) 0 (omega arith))
