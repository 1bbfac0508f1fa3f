-- Add a rule: "For a rule: 1; then the formula from the front; then 6, 7, 8, 9." "An accepted rule appends exactly its prime implicates".
-- 02, Ticket 1: "Refusals 2 to 6 for a rule shall also give the byte place". Ticket 8: "A board counts its accepted rules".
use Rattle.std.specs.Prelude.{ℕ, suc, ◌+◌, Bool, not, cond, ◌&&◌, List, [], ◌∷◌, leb, ℤ, length}
use Rattle.meaning.specs.Formulae.{Formula, rule_of}
use Rattle.meaning.specs.Clauses.{rows_of, satisfiable}
use Rattle.literals.specs.Row.{rows_lent, of_rule}
use Rattle.literals.specs.declared.refusal.Refusal.{Refusal}
use Rattle.literals.specs.declared.refusal.Refusal.TheVariants.{BadBoard, TooManySymbols, NoAssignment, TableFull}
use Rattle.formula.specs.Parse.{Parsed, good, bad, whole_of}
use Rattle.formula.specs.Answers.{is_good, formula_of}
use Rattle.implicates.specs.Appending.{fits, appended}
use Rattle.board.specs.Faults.{good_board, Fault, first_fault, if_done, number_in}
use Rattle.board.specs.declared.Board.{Board}
use Rattle.board.specs.Faults.{Outcome}
use Rattle.board.specs.declared.rules.Addition.{Addition}

-- why bytes are no formula (asked only of those that are none)
abbrev pub why_of : Parsed → Refusal
why_of (good f used) = BadBoard
why_of (bad why at) = why

-- 7, 8 and 9, once the formula is read: `used` rows are in use, `rules` were accepted, and `lent` rows are lent
abbrev pub formula_faults : (S used rules lent : ℕ) → Formula → List Fault
formula_faults S used rules lent f =
    let rule = rule_of S f in
    record { given = not (leb (length rule.symbols) 8); refusal = TooManySymbols }
    ∷ record { given = not (satisfiable rule); refusal = NoAssignment }
    ∷ record { given = not (fits used rules lent (rows_of rule)); refusal = TableFull }
    ∷ []

-- 2 to 6, then those
abbrev pub bytes_faults : (S used rules lent : ℕ) → List ℕ → List Fault
bytes_faults S used rules lent bytes =
    let read = whole_of S bytes in record { given = not (is_good read); refusal = why_of read } ∷ formula_faults S used rules lent (formula_of read)

unfoldable pub rule_faults : List ℤ → Board → List ℕ → List Fault
rule_faults table b bytes =
    record { given = not (good_board table b); refusal = BadBoard } ∷ bytes_faults b.symbols b.rows b.rules (rows_lent table) bytes

-- what stands for a place where none is told: the largest number of 64 bits. A place that is told is at most the count of bytes, and no bytes
-- lent are so many
abbrev pub no_place : ℕ
no_place = 0xffff_ffff_ffff_ffff

-- where bytes are no formula (asked only of those that are none)
abbrev pub breaks_at : Parsed → ℕ
breaks_at (good f used) = no_place
breaks_at (bad why at) = at

-- "Refusals 2 to 6", by the number that adding a rule answers
abbrev pub has_place : ℕ → Bool
has_place number = leb 2 number && leb number 6

-- the place told beside an outcome
abbrev pub place_told : Outcome → Parsed → ℕ
place_told outcome read = cond (has_place (number_in outcome)) (breaks_at read) no_place

-- the rows of the rule that the bytes are
abbrev pub rows_of_bytes : ℕ → List ℕ → List (List ℕ)
rows_of_bytes S bytes = rows_of (rule_of S (formula_of (whole_of S bytes)))

-- the board with so many rows more in use, and so many rules more: "adding a rule changes neither S nor the premises", those of both furnaces
abbrev pub with_rules : Board → (rows rules : ℕ) → Board
with_rules b rows rules =
    record { symbols = b.symbols; rows = b.rows + rows; rules = b.rules + rules; first = b.first; second = b.second }

-- the answer, and the table after it: the rule is the next that the board counts
unfoldable pub ruled : List ℤ → Board → List ℕ → Addition
ruled table b bytes =
    let outcome = first_fault (rule_faults table b bytes) in
    let place = place_told outcome (whole_of b.symbols bytes) in
    let added = length (rows_of_bytes b.symbols bytes) in
    if_done outcome (record { outcome = outcome; place = place; added = added; board = with_rules b added 1 })
    (λ _. record { outcome = outcome; place = place; added = 0; board = b })

unfoldable pub ruled_table : List ℤ → Board → List ℕ → List ℤ
ruled_table table b bytes =
    if_done (first_fault (rule_faults table b bytes)) (appended table b.rows (of_rule (suc b.rules) (rows_of_bytes b.symbols bytes)))
    (λ _. table)
