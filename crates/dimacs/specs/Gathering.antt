-- How the code goes through a text and gathers a clause. Contracts of internal functions name these.
use Rattle.std.specs.Prelude.{ℕ, suc, ◌+◌, ◌*◌, ◌-◌, ◌/◌, ◌<◌, ◌≤◌, min, ◌≡◌, Bool, true, false, cond, not, ◌&&◌, ◌||◌, List, [], ◌∷◌, ◌++◌, eqb, leb, ltb, ℤ, pos, nat_abs, length, take, drop}
use Rattle.std.specs.Int.Signed.{lt_z}
use Rattle.meaning.specs.Tests.{all}
use Rattle.literals.specs.Literal.{in_range, place_of}
use Rattle.literals.specs.Row.{most_literals}
use Rattle.literals.specs.declared.refusal.Refusal.TheVariants.{BadLiteral, TooManySymbols, NoAssignment, TableFull}
use Rattle.implicates.specs.Appending.{fits}
use Rattle.board.specs.Faults.{Outcome}
use Rattle.std.specs.Prelude.{Ok, Err}
use Rattle.spelling.specs.Text.{is_digit}
use Rattle.dimacs.specs.Words.{beyond, literal_of, words}
use Rattle.dimacs.specs.Form.{Parsed, clauses_in}
use Rattle.dimacs.specs.declared.gathering.Kept.{Kept}
use Rattle.dimacs.specs.declared.gathering.Clause.{Clause}

-- r is the place of the text from which on `rest` stands
pub record Place (text : List ℕ) (r : ℕ) (rest : List ℕ) : Type 0 where
  pub within : r ≤ length text
  pub stands : drop r text ≡ rest

-- a number and a byte after it: what breaks the form counts as 32,768 and stays so, however many digits follow
abbrev pub grown : ℕ → ℕ → ℕ
grown n c = cond (is_digit c) (min (n * 10 + (c - 48)) beyond) beyond

-- a word's literal, by its symbol's number and its sign
pub record Spells (word : List ℕ) (symbol : ℕ) (negative : Bool) : Type 0 where
  pub size : symbol ≡ nat_abs (literal_of word)
  pub sign : negative ≡ lt_z (literal_of word) (pos 0)

-- ---- a clause as a row of places, by rising symbols, the first literal of each symbol alone

-- a place among places of rising symbols, if its symbol is not there yet
unfoldable pub inserted : ℕ → List ℕ → List ℕ
inserted p [] = p ∷ []
inserted p (q ∷ row) = cond (ltb (q / 2) (p / 2)) (q ∷ inserted p row) (cond (eqb (q / 2) (p / 2)) (q ∷ row) (p ∷ q ∷ row))

-- the opposite of a place is among them
unfoldable pub clashes : ℕ → List ℕ → Bool
clashes p [] = false
clashes p (q ∷ row) = cond (ltb (q / 2) (p / 2)) (clashes p row) (eqb (q / 2) (p / 2) && not (eqb q p))

-- how many places are of symbols before s
unfoldable pub lower_of : (s : ℕ) → List ℕ → ℕ
lower_of s [] = 0
lower_of s (q ∷ row) = cond (ltb (q / 2) s) (suc (lower_of s row)) 0

-- a place put at j, and those of the first `count` places from j on one further
abbrev pub put_at : (row : List ℕ) → (count j p : ℕ) → List ℕ
put_at row count j p = take j row ++ (p ∷ (drop j (take count row) ++ drop (count + 1) row))

-- a clause's places, behind those that are there
unfoldable pub gathered : List ℕ → List ℤ → List ℕ
gathered row [] = row
gathered row (l ∷ ls) = gathered (inserted (place_of l) row) ls

-- a literal's opposite is among those before it
unfoldable pub always_true : List ℕ → List ℤ → Bool
always_true row [] = false
always_true row (l ∷ ls) = clashes (place_of l) row || always_true (inserted (place_of l) row) ls

-- the rows of a clause: its own, or none where it is always true
abbrev pub rows_kept : (always : Bool) → (row : List ℕ) → List (List ℕ)
rows_kept always row = cond always [] (row ∷ [])

abbrev pub gathered_rows : List ℤ → List (List ℕ)
gathered_rows c = rows_kept (always_true [] c) (gathered [] c)

-- the first fault of a clause, as the code finds it
abbrev pub found_fault : (S used rules lent : ℕ) → List ℤ → Outcome
found_fault S used rules lent c =
    cond (all (in_range S) c)
    (cond (leb (length (gathered [] c)) most_literals)
    (cond (eqb (length (gathered [] c)) 0) (Err NoAssignment)
    (cond (fits used rules lent (gathered_rows c)) (Ok tt) (Err TableFull)))
    (Err TooManySymbols))
    (Err BadLiteral)

-- the clauses of a text from a place on
abbrev pub clauses_from : (variables at : ℕ) → (text : List ℕ) → Parsed
clauses_from variables at text = clauses_in variables [] (words (drop at text))

-- ---- the first clause of words: the literals before the first 0, the words behind it, and whether these literals and the 0 keep the form

unfoldable pub next_clause : List (List ℕ) → List ℤ
next_clause [] = []
next_clause (w ∷ ws) = cond (eqb (nat_abs (literal_of w)) 0) [] (literal_of w ∷ next_clause ws)

unfoldable pub past_clause : List (List ℕ) → List (List ℕ)
past_clause [] = []
past_clause (w ∷ ws) = cond (eqb (nat_abs (literal_of w)) 0) ws (past_clause ws)

unfoldable pub keeps_form : (variables : ℕ) → List (List ℕ) → Bool
keeps_form variables [] = false
keeps_form variables (w ∷ ws) =
    leb (nat_abs (literal_of w)) variables && cond (eqb (nat_abs (literal_of w)) 0) true (keeps_form variables ws)

-- ---- contracts of the functions that gather

-- what putting a place into a lent row of `count` places answers: `after` is the row then
pub record Inserts (before after : List ℕ) (count p next : ℕ) (clash full : Bool) : Type 0 where
  pub is_full : full ≡ ltb (length before) (length (inserted p (take count before)))
  pub is_clash : clash ≡ clashes p (take count before)
  pub is_row : full ≡ false → take next after ≡ inserted p (take count before)
  pub is_count : full ≡ false → next ≡ length (inserted p (take count before))
  pub kept : full ≡ true → after ≡ before
  pub stays : full ≡ true → next ≡ count

-- what is kept of the literals o: whether one is beyond S, and whether they are of too many symbols; where they are not, their row, and
-- whether a literal and its opposite are among them
pub record KeptOf (S : ℕ) (o : List ℤ) (row : List ℕ) (k : Kept) : Type 0 where
  pub is_beyond : k.beyond ≡ not (all (in_range S) o)
  pub is_many : k.many ≡ ltb most_literals (length (gathered [] o))
  pub is_row : k.many ≡ false → take k.count row ≡ gathered [] o
  pub is_count : k.many ≡ false → k.count ≡ length (gathered [] o)
  pub is_always : k.many ≡ false → k.always ≡ always_true [] o

-- a literal more
pub record Steps (S symbol : ℕ) (negative : Bool) (row after : List ℕ) (k next : Kept) : Type 0 where
  pub fits : next.count ≤ length row
  pub step : (o : List ℤ) (l : ℤ) → symbol ≡ nat_abs l → negative ≡ lt_z l (pos 0) → KeptOf S o row k → KeptOf S (o ++ (l ∷ [])) after next

-- the clause from a place on: whether it keeps the form; and where it does, its literals, the place after its 0 and the words from there on
pub record Gathers (S variables : ℕ) (text : List ℕ) (at : ℕ) (row : List ℕ) (c : Clause) : Type 0 where
  pub is_kept : c.keeps ≡ keeps_form variables (words (drop at text))
  pub holds : c.keeps ≡ true → KeptOf S (next_clause (words (drop at text))) row c.kept
  pub within : c.keeps ≡ true → c.end ≤ length text
  pub onward : c.keeps ≡ true → at < c.end
  pub rest : c.keeps ≡ true → words (drop c.end text) ≡ past_clause (words (drop at text))
