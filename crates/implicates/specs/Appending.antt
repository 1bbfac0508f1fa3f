-- What a rule appends to the table: its rows in order, each with the rule's number, and nothing else.
use Rattle.std.specs.Prelude.{Result, Ok, Err, Bool, cond, not, ◌&&◌, List, [], ◌∷◌, ◌++◌, ℕ, suc, ◌+◌, ◌*◌, leb, eqb, ℤ, length, take, drop}
use Rattle.meaning.specs.Formulae.{Rule}
use Rattle.meaning.specs.Clauses.{rows_of, satisfiable}
use Rattle.literals.specs.Row.{width, most_rules, Ruled, of_rule, numbered}
use Rattle.literals.specs.declared.refusal.Refusal.{Refusal}
use Rattle.literals.specs.declared.refusal.Refusal.TheVariants.{NoAssignment, TableFull}
use Rattle.implicates.specs.Hits.{sat_of}

-- the rule that a truth table tells
abbrev pub rule_by : List ℕ → List Bool → Rule
rule_by symbols truth = record { symbols = symbols; accepts = sat_of truth }

-- rows as they are written, one after the other
abbrev pub encode_all : List Ruled → List ℤ
encode_all [] = []
encode_all (row ∷ rows) = numbered row ++ encode_all rows

-- the table with xs from the place `at` on
abbrev pub written : List ℤ → ℕ → List ℤ → List ℤ
written table at xs = take at table ++ (xs ++ drop (at + length xs) table)

-- the table with rows from row `used` on
unfoldable pub appended : List ℤ → ℕ → List Ruled → List ℤ
appended table used rows = written table (width * used) (encode_all rows)

-- the rule fits. 9, where it does not, is for "rows in use plus its prime implicates exceed rows lent", and "also when" the count of rules
-- "is 32,767" (02, Ticket 8)
abbrev pub fits : (used rules lent : ℕ) → (rows : List (List ℕ)) → Bool
fits used rules lent rows = leb (used + length rows) lent && not (eqb rules most_rules)

-- how many rows the rule appended, where `rules` were accepted before it; or 8, "no assignment satisfies the rule"; or 9
unfoldable pub answer_of : Rule → (used rules lent : ℕ) → Result ℕ Refusal
answer_of rule used rules lent =
    cond (satisfiable rule) (cond (fits used rules lent (rows_of rule)) (Ok (length (rows_of rule))) (Err TableFull)) (Err NoAssignment)

-- and the table after it: a refusal writes nothing
unfoldable pub table_of : Rule → (used rules lent : ℕ) → List ℤ → List ℤ
table_of rule used rules lent table =
    cond (satisfiable rule) (cond (fits used rules lent (rows_of rule)) (appended table used (of_rule (suc rules) (rows_of rule))) table) table
