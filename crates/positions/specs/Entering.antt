-- 02, Ticket 13: entering a position variable or a pair table. "Each position variable or pair table is added wholly or not at all. Refusals: 19 ..,
-- after 1 and 2 ..; then 8 ..; then 9, here also when the rule count would pass 32,767."
use Rattle.std.specs.Prelude.{ℕ, suc, ◌+◌, Bool, not, ◌&&◌, List, [], ◌∷◌, ◌++◌, leb, ℤ, length}
use Rattle.meaning.specs.Clauses.{all_rows}
use Rattle.meaning.specs.SecondWay.{rules_of}
use Rattle.positions.specs.Positions.{PairTable, Entry, positions, pairs, formulae_of, symbols_fit, well_formed, possible}
use Rattle.literals.specs.Row.{most_rules, rows_lent, of_rules}
use Rattle.literals.specs.declared.refusal.Refusal.TheVariants.{BadBoard, BadLiteral, NoAssignment, TableFull, BadPositions}
use Rattle.implicates.specs.Appending.{appended}
use Rattle.board.specs.Faults.{good_board, Fault, first_fault, if_done}
use Rattle.board.specs.Rules.{no_place, with_rules}
use Rattle.board.specs.declared.Board.{Board}
use Rattle.board.specs.declared.rules.Addition.{Addition}

-- the entry that a call is given: a variable by its first symbol and count, a pair table by its two variables and the number of the allowed pairs
abbrev pub variable_of : (first count : ℕ) → Entry
variable_of first count = positions (record { first = first; count = count })

abbrev pub pair_table : (first count other others allowed : ℕ) → PairTable
pair_table first count other others allowed =
    record { one = record { first = first; count = count }; other = record { first = other; count = others }; allowed = allowed }

abbrev pub pairs_of : (first count other others allowed : ℕ) → Entry
pairs_of first count other others allowed = pairs (pair_table first count other others allowed)

-- the rows of its rules
abbrev pub rows_of_entry : (S : ℕ) → Entry → List (List ℕ)
rows_of_entry S e = all_rows (rules_of S (formulae_of e))

-- 2, 19 and 8: what is asked of the entry itself
abbrev pub own_faults : (S : ℕ) → Entry → List Fault
own_faults S e =
    record { given = not (symbols_fit S e); refusal = BadLiteral }
    ∷ record { given = not (well_formed e); refusal = BadPositions }
    ∷ record { given = not (possible e); refusal = NoAssignment }
    ∷ []

-- all of its rows fit, and all of its rules have a number: `used` rows are in use, `rules` were accepted, and `lent` rows are lent
abbrev pub fits_wholly : (S used rules lent : ℕ) → Entry → Bool
fits_wholly S used rules lent e = leb (used + length (rows_of_entry S e)) lent && leb (rules + length (formulae_of e)) most_rules

unfoldable pub entry_faults : List ℤ → Board → Entry → List Fault
entry_faults table b e =
    record { given = not (good_board table b); refusal = BadBoard }
    ∷ own_faults b.symbols e
    ++ record { given = not (fits_wholly b.symbols b.rows b.rules (rows_lent table) e); refusal = TableFull }
    ∷ []

-- the answer, and the table after it: the entry's rules are the next that the board counts
unfoldable pub entered : List ℤ → Board → Entry → Addition
entered table b e =
    let outcome = first_fault (entry_faults table b e) in
    let added = length (rows_of_entry b.symbols e) in
    if_done outcome (record { outcome = outcome; place = no_place; added = added; board = with_rules b added (length (formulae_of e)) })
    (λ _. record { outcome = outcome; place = no_place; added = 0; board = b })

unfoldable pub entered_table : List ℤ → Board → Entry → List ℤ
entered_table table b e =
    if_done (first_fault (entry_faults table b e))
    (appended table b.rows (of_rules (suc b.rules) (rules_of b.symbols (formulae_of e)))) (λ _. table)
