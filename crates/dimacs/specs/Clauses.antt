-- 02, Ticket 2: "Each clause is added as one rule, in order", and "for the first clause at fault, 2, 7, 8, 9 as for rules, an empty clause
-- giving 8".
use Rattle.std.specs.Prelude.{ℕ, suc, ◌+◌, not, List, [], ◌∷◌, ◌++◌, ℤ, pos, negsuc, length}
use Rattle.meaning.specs.Tests.{all}
use Rattle.meaning.specs.Formulae.{Formula, symbol, neg, and, or, rule_of}
use Rattle.meaning.specs.Clauses.{rows_of}
use Rattle.literals.specs.Literal.{in_range}
use Rattle.literals.specs.declared.refusal.Refusal.TheVariants.{BadLiteral}
use Rattle.board.specs.Faults.{Fault, first_fault, if_done}
use Rattle.board.specs.Rules.{formula_faults}

-- "+s says that symbol s is true, −s that it is false"
abbrev pub claim : ℤ → Formula
claim (pos s) = symbol s
claim (negsuc k) = neg (symbol (suc k))

-- the rule of a clause: one of its literals is true. Of no literals that is never so, as of "1 and not 1"
unfoldable pub one_of : List ℤ → Formula
one_of [] = and (symbol 1) (neg (symbol 1))
one_of (l ∷ []) = claim l
one_of (l ∷ m ∷ ls) = or (claim l) (one_of (m ∷ ls))

abbrev pub rows_of_clause : (S : ℕ) → List ℤ → List (List ℕ)
rows_of_clause S c = rows_of (rule_of S (one_of c))

-- `used` rows are in use, `rules` were accepted, and `lent` rows are lent
unfoldable pub clause_faults : (S used rules lent : ℕ) → List ℤ → List Fault
clause_faults S used rules lent c =
    record { given = not (all (in_range S) c); refusal = BadLiteral } ∷ formula_faults S used rules lent (one_of c)

-- the faults of clauses in their order, each clause with the rows of those before it in use, and these clauses counted as rules: the first that is
-- given is that of the first clause at fault
unfoldable pub clauses_faults : (S used rules lent : ℕ) → List (List ℤ) → List Fault
clauses_faults S used rules lent [] = []
clauses_faults S used rules lent (c ∷ cs) = clause_faults S used rules lent c ++ clauses_faults S (used + length (rows_of_clause S c)) (suc rules) lent cs

-- how many clauses come before it
unfoldable pub passed : (S used rules lent : ℕ) → List (List ℤ) → ℕ
passed S used rules lent [] = 0
passed S used rules lent (c ∷ cs) =
    if_done (first_fault (clause_faults S used rules lent c)) (suc (passed S (used + length (rows_of_clause S c)) (suc rules) lent cs)) (λ _. 0)
