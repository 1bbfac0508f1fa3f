-- Texts and what they say, by computing the definition: those that keep the form, and one for each way to break it; and how reading counts rules.
use Rattle.meaning.proofs.Kit.{◌≡◌, refl, List, [], ◌∷◌, map, ℕ, ℤ, pos, negsuc, replicate}
use Prim.Native.String.{String}
use Rattle.meaning.specs.Formulae.{occurs, symbols_of, value}
use Rattle.meaning.specs.BySize.{of_size}
use Rattle.meaning.specs.Clauses.{hit, implicate, prime}
use Rattle.literals.specs.Literal.{literal_at}
use Rattle.literals.specs.Row.{encode, rows_sound}
use Rattle.literals.specs.declared.refusal.Refusal.TheVariants.{TableFull}
use Rattle.implicates.specs.Appending.{appended}
use Rattle.spelling.proofs.Ascii.{ascii}
use Rattle.spelling.specs.Text.{decimal}
use Rattle.board.specs.Faults.{first_fault, good_board, premises_fit}
use Rattle.board.specs.Changes.{empty_board}
use Rattle.board.specs.Rules.{with_rules}
use Rattle.board.specs.Faults.{Outcome}
use Rattle.std.specs.Prelude.{Ok, Err}
use Rattle.dimacs.specs.Words.{literal_of, number_of, since, up_to, words_in}
use Rattle.dimacs.specs.Form.{Parsed, good, broken, clauses_in, counts_in, header_in, parse_text, past_comments, starts_with}
use Rattle.dimacs.specs.Clauses.{clause_faults, clauses_faults, one_of, passed}
use Rattle.dimacs.specs.Reading.{read_answer, read_faults, read_table, text_faults}

record Case : Type 0 where
  text : String
  says : Parsed

abbrev cases : List Case
cases =
    record { text = "p cnf 2 1\n1 -2 0\n"; says = good 2 ((pos 1 ∷ negsuc 1 ∷ []) ∷ []) }
    -- comment lines; a clause over two lines and two on one; no line feed at the end
    ∷ record { text = "c a\nc\np cnf 3 2\n3\n0 1 0"; says = good 3 ((pos 3 ∷ []) ∷ (pos 1 ∷ []) ∷ []) }
    -- blanks and empty lines
    ∷ record { text = "p cnf   1  1  \n\n  1 \n 0 \n\n"; says = good 1 ((pos 1 ∷ []) ∷ []) }
    -- leading zeros
    ∷ record { text = "p cnf 0002 01\n-02 00\n"; says = good 2 ((negsuc 1 ∷ []) ∷ []) }
    -- an empty clause; a literal twice, and its opposite
    ∷ record { text = "p cnf 9 2\n0 1 1 -1 0"; says = good 9 ([] ∷ (pos 1 ∷ pos 1 ∷ negsuc 0 ∷ []) ∷ []) }
    -- no clause; the largest number
    ∷ record { text = "p cnf 32767 0"; says = good 32767 [] }
    ∷ record { text = "p cnf 32767 1\n-32767 0"; says = good 32767 ((negsuc 32766 ∷ []) ∷ []) }
    -- before the header: nothing at all, only comment lines, an empty line, a blank, also after a comment line
    ∷ record { text = ""; says = broken }
    ∷ record { text = "c"; says = broken }
    ∷ record { text = "c only\n"; says = broken }
    ∷ record { text = "\np cnf 1 1\n1 0\n"; says = broken }
    ∷ record { text = " p cnf 1 1\n1 0\n"; says = broken }
    ∷ record { text = "c\n p cnf 1 1\n1 0\n"; says = broken }
    -- a comment line after it
    ∷ record { text = "p cnf 1 1\nc\n1 0\n"; says = broken }
    ∷ record { text = "p cnf 1 1\n1 0\nc\n"; says = broken }
    -- the header: another blank, none, one number, three, a sign, a number above 32,767, another format
    ∷ record { text = "p  cnf 1 1\n1 0\n"; says = broken }
    ∷ record { text = "p cnf1 1\n1 0\n"; says = broken }
    ∷ record { text = "p cnf 1\n1 0\n"; says = broken }
    ∷ record { text = "p cnf 1 1 1\n1 0\n"; says = broken }
    ∷ record { text = "p cnf -1 0\n"; says = broken }
    ∷ record { text = "p cnf 32768 0\n"; says = broken }
    ∷ record { text = "p cnf 0 32768\n"; says = broken }
    ∷ record { text = "p dnf 1 1\n1 0\n"; says = broken }
    -- a tab, a carriage return
    ∷ record { text = "p cnf 1 1\n1\t0\n"; says = broken }
    ∷ record { text = "p cnf 1 1\r\n1 0\r\n"; says = broken }
    -- literals: `-0`, `-` alone, `--1`, `1-2`, `+1`, no number
    ∷ record { text = "p cnf 1 1\n-0\n"; says = broken }
    ∷ record { text = "p cnf 1 1\n1 -0\n"; says = broken }
    ∷ record { text = "p cnf 1 1\n- 1 0\n"; says = broken }
    ∷ record { text = "p cnf 1 1\n--1 0\n"; says = broken }
    ∷ record { text = "p cnf 2 1\n1-2 0\n"; says = broken }
    ∷ record { text = "p cnf 1 1\n+1 0\n"; says = broken }
    ∷ record { text = "p cnf 1 1\nx 0\n"; says = broken }
    -- beyond the header's variables, above 32,767, of a hundred digits
    ∷ record { text = "p cnf 1 1\n2 0\n"; says = broken }
    ∷ record { text = "p cnf 1 1\n-2 0\n"; says = broken }
    ∷ record { text = "p cnf 32767 1\n32768 0\n"; says = broken }
    ∷ record {
      text = "p cnf 1 1\n1000000000000000000000000000000000000000000000000000000000000000000000000000000000000000000000000001 0\n";
      says = broken;
    }
    -- an unfinished clause, too few clauses, too many
    ∷ record { text = "p cnf 1 1\n1\n"; says = broken }
    ∷ record { text = "p cnf 1 1\n1 0 1\n"; says = broken }
    ∷ record { text = "p cnf 1 2\n1 0\n"; says = broken }
    ∷ record { text = "p cnf 1 1\n1 0\n1 0\n"; says = broken }
    ∷ []

said : map (λ (c : Case). parse_text (ascii c.text)) cases ≡ map (λ (c : Case). c.says) cases
unfolding parse_text header_in past_comments starts_with counts_in clauses_in words_in up_to since literal_of number_of decimal
said = refl

-- ---- the numbers of rules

-- of three clauses the second is always true: it has no row, and it is counted
abbrev three : List ℕ
three = ascii "p cnf 2 3\n1 0\n1 -1 0\n2 0\n"

three_says : parse_text three ≡ good 2 ((pos 1 ∷ []) ∷ (pos 1 ∷ negsuc 0 ∷ []) ∷ (pos 2 ∷ []) ∷ [])
unfolding parse_text header_in past_comments starts_with counts_in clauses_in words_in up_to since literal_of number_of decimal
three_says = refl

abbrev lent : List ℤ
lent = replicate 18 (pos 0)

counts : read_answer lent (empty_board 2) three ≡ record { outcome = Ok tt; clauses = 3; added = 2; board = with_rules (empty_board 2) 2 3 }
unfolding read_answer read_faults text_faults clauses_faults clause_faults passed one_of good_board premises_fit rows_sound
    symbols_of occurs value hit implicate prime of_size
counts = rw three_says refl

-- a row of one literal, with its rule's number, and what follows it
abbrev one_literal : ℤ → (rule : ℕ) → List ℤ → List ℤ
one_literal l rule rest = l ∷ pos 0 ∷ pos 0 ∷ pos 0 ∷ pos 0 ∷ pos 0 ∷ pos 0 ∷ pos 0 ∷ pos rule ∷ rest

numbers : read_table lent (empty_board 2) three ≡ one_literal (pos 1) 1 (one_literal (pos 2) 3 [])
unfolding read_table read_faults text_faults clauses_faults clause_faults one_of good_board premises_fit rows_sound appended encode literal_at
    symbols_of occurs value hit implicate prime of_size
numbers = rw three_says refl

-- "9 also when it is 32,767": one rule below, the second of two clauses is at fault, though there is room for its row, or it has none
record Limit : Type 0 where
  rules : ℕ
  second : List ℤ
  outcome : Outcome
  before : ℕ

abbrev limits : List Limit
limits =
    record { rules = 32765; second = pos 2 ∷ []; outcome = Ok tt; before = 2 }
    ∷ record { rules = 32766; second = pos 2 ∷ []; outcome = Err TableFull; before = 1 }
    ∷ record { rules = 32766; second = pos 1 ∷ negsuc 0 ∷ []; outcome = Err TableFull; before = 1 }
    ∷ record { rules = 32767; second = pos 2 ∷ []; outcome = Err TableFull; before = 0 }
    ∷ []

abbrev clauses : Limit → List (List ℤ)
clauses l = (pos 1 ∷ []) ∷ l.second ∷ []

limited : map (λ (l : Limit). first_fault (clauses_faults 2 0 l.rules 2 (clauses l))) limits ≡ map (λ (l : Limit). l.outcome) limits
unfolding clauses_faults clause_faults one_of symbols_of occurs value hit implicate prime of_size
limited = refl

stopped : map (λ (l : Limit). passed 2 0 l.rules 2 (clauses l)) limits ≡ map (λ (l : Limit). l.before) limits
unfolding passed clause_faults one_of symbols_of occurs value hit implicate prime of_size
stopped = refl
