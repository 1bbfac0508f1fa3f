-- What is promised of clauses and text, each as a type. The proofs are in `proofs/`, under the same names in small letters.
use Rattle.std.specs.Prelude.{ℕ, suc, ◌*◌, ◌≤◌, ◌<◌, ◌≡◌, Bool, true, cond, not, List, [], ◌∷◌, map, eqb, ℤ, length}
use Rattle.meaning.specs.Tests.{any, all, keep, member, from, tabulate}
use Rattle.meaning.specs.Literals.{opp}
use Rattle.meaning.specs.Formulae.{rule_of}
use Rattle.meaning.specs.Clauses.{satisfiable}
use Rattle.literals.specs.Literal.{in_range, place_of}
use Rattle.literals.specs.Row.{rows_lent, numbers_at, decode}
use Rattle.implicates.specs.Appending.{appended}
use Rattle.board.specs.Faults.{good_board}
use Rattle.board.specs.Changes.{empty_board}
use Rattle.board.specs.Rules.{with_rules}
use Rattle.board.specs.declared.Board.{Board}
use Rattle.std.specs.Prelude.{Ok}
use Rattle.dimacs.specs.Form.{good, parse_text}
use Rattle.dimacs.specs.Clauses.{one_of, rows_of_clause}
use Rattle.dimacs.specs.Reading.{read_answer, read_table}
use Rattle.dimacs.specs.Writing.{text_of, text_on}

-- ---- the rows of a clause, as a rule, are the clause itself, or none if it is always true

-- it has a literal and its opposite
abbrev pub has_opposite : List ℤ → Bool
has_opposite c = any (λ l. member (opp (place_of l)) (map place_of c)) c

-- the places of its literals, rising, each once
abbrev pub places_in : (S : ℕ) → List ℤ → List ℕ
places_in S c = keep (λ p. member p (map place_of c)) (from 0 (2 * S))

abbrev pub ClauseRow : Type 0
ClauseRow =
    (S : ℕ) (c : List ℤ) → all (in_range S) c ≡ true → 1 ≤ length c → rows_of_clause S c ≡ cond (has_opposite c) [] (places_in S c ∷ [])

-- 8, "no assignment satisfies the rule", is so of the empty clause alone
abbrev pub EmptyAlone : Type 0
EmptyAlone = (S : ℕ) (c : List ℤ) → all (in_range S) c ≡ true → satisfiable (rule_of S (one_of c)) ≡ not (eqb (length c) 0)

-- ---- "Reading what was written"

abbrev pub ReadsBack : Type 0
ReadsBack =
    (S : ℕ) (cs : List (List ℤ)) → S < 32768 → length cs < 32768 → all (all (in_range S)) cs ≡ true → parse_text (text_of S cs) ≡ good S cs

-- "onto a new board of equal S gives the same rows, if as many are lent": the literals of each, since "DIMACS text leaves rule numbers out"
-- (02, Ticket 8). Each row is a rule of its own, so row r, from 0, has the number r + 1; and no other place is written
abbrev pub SameRows : Type 0
SameRows =
    (table : List ℤ) (b : Board) (new : List ℤ) → good_board table b ≡ true → b.rows ≤ rows_lent new
    → let S = b.symbols in let r = b.rows in
    (read_answer new (empty_board S) (text_on table b) ≡ record { outcome = Ok tt; clauses = r; added = r; board = with_rules (empty_board S) r r })
    × (read_table new (empty_board S) (text_on table b) ≡ appended new 0 (tabulate r (λ i. record { rule = suc i; row = decode (numbers_at table i) })))

-- no text is longer: a header of 15 bytes, and 2,048 lines of eight literals of five bytes, 0 and a line feed
abbrev pub TextBound : Type 0
TextBound = (table : List ℤ) (b : Board) → good_board table b ≡ true → length (text_on table b) ≤ 86031
