-- Reading a text "writes the bytes (13 if they don't fit, after 2 and 5)". "Refusals: after 1, 15 for text outside the form or a seventeenth open
-- bracket, at the first offending place; then whichever of 2 and 5 the resulting byte formula meets first".
use Rattle.std.specs.Prelude.{ℕ, cond, not, List, [], ◌∷◌, eqb, leb, ℤ, length}
use Rattle.literals.specs.declared.refusal.Refusal.TheVariants.{BadBoard, BadText, TableTooShort}
use Rattle.formula.specs.Parse.{Parsed, whole_of}
use Rattle.formula.specs.Bytes.{bytes_of}
use Rattle.formula.specs.Answers.{is_good, formula_of}
use Rattle.board.specs.Faults.{good_board, Fault, first_fault, if_done, number_in}
use Rattle.board.specs.Rules.{why_of, breaks_at, place_told}
use Rattle.board.specs.Settling.{over}
use Rattle.board.specs.declared.Board.{Board}
use Rattle.board.specs.Faults.{Outcome}
use Rattle.chains.specs.Form.{whole_text}
use Rattle.text.specs.declared.Spelling.{Spelling}

-- the bytes of the formula that a text says (asked only of a text of the form)
abbrev pub bytes_in : (text : List ℕ) → List ℕ
bytes_in text = bytes_of (formula_of (whole_text text))

-- and what the byte reader makes of them, on a board of S symbols
abbrev pub read_in : (S : ℕ) → (text : List ℕ) → Parsed
read_in S text = whole_of S (bytes_in text)

-- "2 and 5 carry their place in the resulting bytes; 15 carries the place" in the text
abbrev pub text_place : Outcome → (S : ℕ) → (text : List ℕ) → ℕ
text_place outcome S text = cond (eqb (number_in outcome) 15) (breaks_at (whole_text text)) (place_told outcome (read_in S text))

-- `room` is how many bytes are lent
unfoldable pub read_text_faults : List ℤ → Board → (text : List ℕ) → (room : ℕ) → List Fault
read_text_faults table b text room =
    let read = read_in b.symbols text in
    record { given = not (good_board table b); refusal = BadBoard }
    ∷ record { given = not (is_good (whole_text text)); refusal = BadText }
    ∷ record { given = not (is_good read); refusal = why_of read }
    ∷ record { given = not (leb (length (bytes_in text)) room); refusal = TableTooShort }
    ∷ []

unfoldable pub read_text_outcome : List ℤ → Board → (text out : List ℕ) → Outcome
read_text_outcome table b text out = first_fault (read_text_faults table b text (length out))

-- how many bytes were written, and the bytes lent after it
unfoldable pub read_text_answer : List ℤ → Board → (text out : List ℕ) → Spelling
read_text_answer table b text out =
    let outcome = read_text_outcome table b text out in
    record { outcome = outcome; place = text_place outcome b.symbols text; bytes = if_done outcome (length (bytes_in text)) (λ _. 0) }

unfoldable pub read_text_bytes : List ℤ → Board → (text out : List ℕ) → List ℕ
read_text_bytes table b text out = over (read_text_outcome table b text out) (bytes_in text) out
