-- Writing the rows in use: "the header with S and the count of rows, then one line a row in row order, single blanks, 0 last, each line ended by
-- a line feed".
use Rattle.std.specs.Prelude.{ℕ, cond, not, List, [], ◌∷◌, ◌++◌, eqb, leb, ℤ, nat_abs, length}
use Rattle.meaning.specs.Tests.{tabulate}
use Rattle.literals.specs.Row.{numbers_at}
use Rattle.literals.specs.declared.refusal.Refusal.TheVariants.{BadBoard, TableTooShort}
use Rattle.spelling.specs.Text.{literal, natural}
use Rattle.board.specs.Faults.{good_board, Fault, first_fault, if_done}
use Rattle.board.specs.Settling.{over}
use Rattle.board.specs.declared.Board.{Board}
use Rattle.board.specs.Faults.{Outcome}
use Rattle.dimacs.specs.Form.{header_start}
use Rattle.dimacs.specs.declared.writing.Writing.{Writing}

-- ---- clauses as text

-- a blank after each literal
unfoldable pub spaced : List ℤ → List ℕ
spaced [] = []
spaced (l ∷ ls) = literal l ++ (32 ∷ spaced ls)

-- and then 0 and a line feed
abbrev pub zero_end : List ℕ
zero_end = 48 ∷ 10 ∷ []

abbrev pub clause_line : List ℤ → List ℕ
clause_line ls = spaced ls ++ zero_end

unfoldable pub clause_lines : List (List ℤ) → List ℕ
clause_lines [] = []
clause_lines (clause ∷ clauses) = clause_line clause ++ clause_lines clauses

abbrev pub counts_line : (S count : ℕ) → List ℕ
counts_line S count = header_start ++ (natural S ++ (32 ∷ (natural count ++ (10 ∷ []))))

unfoldable pub text_of : (S : ℕ) → List (List ℤ) → List ℕ
text_of S clauses = counts_line S (length clauses) ++ clause_lines clauses

-- ---- the rows in use as clauses

-- the literals of a row, without the zeros
unfoldable pub literals_of : List ℤ → List ℤ
literals_of [] = []
literals_of (l ∷ ls) = cond (eqb (nat_abs l) 0) [] (l ∷ literals_of ls)

abbrev pub clause_at : List ℤ → (row : ℕ) → List ℤ
clause_at table row = literals_of (numbers_at table row)

unfoldable pub clauses_at : (used : ℕ) → List ℤ → List (List ℤ)
clauses_at used table = tabulate used (clause_at table)

unfoldable pub text_on : List ℤ → Board → List ℕ
text_on table b = text_of b.symbols (clauses_at b.rows table)

-- ---- the call: "for the writer 13 when the text doesn't fit". `room` is how many bytes are lent

unfoldable pub write_faults : List ℤ → Board → (room : ℕ) → List Fault
write_faults table b room =
    record { given = not (good_board table b); refusal = BadBoard }
    ∷ record { given = not (leb (length (text_on table b)) room); refusal = TableTooShort }
    ∷ []

unfoldable pub write_outcome : List ℤ → Board → (out : List ℕ) → Outcome
write_outcome table b out = first_fault (write_faults table b (length out))

-- how many bytes were written, and the bytes lent after it
unfoldable pub write_answer : List ℤ → Board → (out : List ℕ) → Writing
write_answer table b out =
    let outcome = write_outcome table b out in
    record { outcome = outcome; bytes = if_done outcome (length (text_on table b)) (λ _. 0) }

unfoldable pub write_bytes : List ℤ → Board → (out : List ℕ) → List ℕ
write_bytes table b out = over (write_outcome table b out) (text_on table b) out
