-- "Write text from bytes too": "the writer gives 1 to 6 as the byte reader does, then 13 when the text doesn't fit".
use Rattle.std.specs.Prelude.{ℕ, not, List, [], ◌∷◌, leb, ℤ, length}
use Rattle.literals.specs.declared.refusal.Refusal.TheVariants.{BadBoard, TableTooShort}
use Rattle.formula.specs.Parse.{whole_of}
use Rattle.formula.specs.Answers.{is_good, formula_of}
use Rattle.board.specs.Faults.{good_board, Fault, first_fault, if_done}
use Rattle.board.specs.Rules.{why_of, place_told}
use Rattle.board.specs.Settling.{over}
use Rattle.board.specs.declared.Board.{Board}
use Rattle.board.specs.Faults.{Outcome}
use Rattle.chains.specs.Spelling.{spelled}
use Rattle.text.specs.declared.Spelling.{Spelling}

-- the text of the formula that bytes are (asked only of those that are one)
abbrev pub text_in : (S : ℕ) → (bytes : List ℕ) → List ℕ
text_in S bytes = spelled (formula_of (whole_of S bytes))

-- 13, once the formula is read: `room` is how many bytes are lent
abbrev pub room_faults : (S : ℕ) → (bytes : List ℕ) → (room : ℕ) → List Fault
room_faults S bytes room = record { given = not (leb (length (text_in S bytes)) room); refusal = TableTooShort } ∷ []

unfoldable pub write_text_faults : List ℤ → Board → (bytes : List ℕ) → (room : ℕ) → List Fault
write_text_faults table b bytes room =
    let read = whole_of b.symbols bytes in
    record { given = not (good_board table b); refusal = BadBoard }
    ∷ record { given = not (is_good read); refusal = why_of read }
    ∷ room_faults b.symbols bytes room

-- what is answered by an outcome, with how many bytes of text were written; and the bytes lent after it
abbrev pub spelled_answer : Outcome → (S : ℕ) → (bytes : List ℕ) → Spelling
spelled_answer outcome S bytes =
    record { outcome = outcome; place = place_told outcome (whole_of S bytes); bytes = if_done outcome (length (text_in S bytes)) (λ _. 0) }

unfoldable pub write_text_outcome : List ℤ → Board → (bytes out : List ℕ) → Outcome
write_text_outcome table b bytes out = first_fault (write_text_faults table b bytes (length out))

unfoldable pub write_text_answer : List ℤ → Board → (bytes out : List ℕ) → Spelling
write_text_answer table b bytes out = spelled_answer (write_text_outcome table b bytes out) b.symbols bytes

unfoldable pub write_text_bytes : List ℤ → Board → (bytes out : List ℕ) → List ℕ
write_text_bytes table b bytes out = over (write_text_outcome table b bytes out) (text_in b.symbols bytes) out
