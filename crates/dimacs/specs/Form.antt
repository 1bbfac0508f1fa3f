-- 02, Ticket 2: what a DIMACS text says, the variables that its header counts and its clauses; or that it breaks the form, which is refusal 15.
use Rattle.std.specs.Prelude.{ℕ, Option, None, Some, Bool, true, false, cond, ◌&&◌, List, [], ◌∷◌, ◌++◌, eqb, leb, ltb, ℤ, nat_abs, length, drop}
use Rattle.dimacs.specs.Words.{beyond, ends, literal_of, number_of, since, up_to, words}
use Rattle.dimacs.specs.declared.header.Counts.{Counts}

pub data Parsed : Type 0 where
  good : (variables : ℕ) → (clauses : List (List ℤ)) → Parsed
  broken : Parsed

abbrev pub is_good : Parsed → Bool
is_good (good variables clauses) = true
is_good broken = false

-- the clauses of a text (asked only of one that keeps the form)
abbrev pub clauses_of : Parsed → List (List ℤ)
clauses_of (good variables clauses) = clauses
clauses_of broken = []

-- ---- "comment lines before the header": they "begin with `c`", and a line feed ends each. `inside` one, or at a line's start

unfoldable pub past_comments : (inside : Bool) → List ℕ → List ℕ
past_comments inside [] = []
past_comments true (c ∷ rest) = cond (ends c) (past_comments false rest) (past_comments true rest)
past_comments false (c ∷ rest) = cond (eqb c 99) (past_comments true rest) (c ∷ rest)

-- ---- "a header with the counts of variables and clauses": "the header line" begins "with `p cnf`"; behind it two numbers, and nothing else

-- `p cnf` and the blank after it
abbrev pub header_start : List ℕ
header_start = 112 ∷ 32 ∷ 99 ∷ 110 ∷ 102 ∷ 32 ∷ []

unfoldable pub starts_with : List ℕ → List ℕ → Bool
starts_with [] text = true
starts_with (p ∷ ps) [] = false
starts_with (p ∷ ps) (c ∷ rest) = eqb p c && starts_with ps rest

unfoldable pub counts_in : List (List ℕ) → Option Counts
counts_in [] = None
counts_in (v ∷ []) = None
counts_in (v ∷ n ∷ []) =
    cond (ltb (number_of v) beyond && ltb (number_of n) beyond) (Some (record { variables = number_of v; clauses = number_of n })) None
counts_in (v ∷ n ∷ w ∷ ws) = None

unfoldable pub header_in : (line : List ℕ) → Option Counts
header_in line = cond (starts_with header_start line) (counts_in (words (drop 6 line))) None

-- ---- "then literals with 0 after each clause, over blanks and line ends": none is beyond the header's variables, and no clause is left open

-- a clause before those that follow
abbrev pub clause_then : List ℤ → Parsed → Parsed
clause_then clause (good variables clauses) = good variables (clause ∷ clauses)
clause_then clause broken = broken

-- a literal, or 0, behind the literals of the clause so far
abbrev pub at_literal : (variables : ℕ) → (sofar : List ℤ) → ℤ → (List ℤ → Parsed) → Parsed
at_literal variables sofar l next =
    cond (leb (nat_abs l) variables) (cond (eqb (nat_abs l) 0) (clause_then sofar (next [])) (next (sofar ++ (l ∷ [])))) broken

abbrev pub at_end : (variables : ℕ) → (sofar : List ℤ) → Parsed
at_end variables [] = good variables []
at_end variables (l ∷ ls) = broken

unfoldable pub clauses_in : (variables : ℕ) → (sofar : List ℤ) → List (List ℕ) → Parsed
clauses_in variables sofar [] = at_end variables sofar
clauses_in variables sofar (w ∷ ws) = at_literal variables sofar (literal_of w) (λ now. clauses_in variables now ws)

-- "a number of clauses other than the header's" breaks the form too
abbrev pub counted : ℕ → Parsed → Parsed
counted n (good variables clauses) = cond (eqb (length clauses) n) (good variables clauses) broken
counted n broken = broken

abbrev pub body_of : Option Counts → List ℕ → Parsed
body_of (Some counts) body = counted counts.clauses (clauses_in counts.variables [] (words body))
body_of None body = broken

-- ---- the whole text

-- the header's line, without the line feed that ends it; and the text from there on
abbrev pub header_line : List ℕ → List ℕ
header_line text = up_to ends (past_comments false text)

abbrev pub body : List ℕ → List ℕ
body text = since ends (past_comments false text)

unfoldable pub parse_text : List ℕ → Parsed
parse_text text = body_of (header_in (header_line text)) (body text)
