-- The three demands, and what document 02 adds to them, each as a type. `proofs/` has a proof of each, under the same name in small letters.
use Rattle.std.specs.Prelude.{◌≡◌, ◌↔◌, ◌≢◌, ◌⊎◌, Bool, true, false, cond, ◌&&◌, ◌||◌, ℕ, suc, ◌+◌, ◌-◌, ◌*◌, ◌^◌, ◌≤◌, ◌<◌, leb, ℤ, pos, negsuc, nat_abs, length, take, drop, get_or, set, replicate}
use mathlib.Core.List.{List, [], ◌∷◌, ◌++◌, map, Memᴰ as In}
use Rattle.meaning.specs.Tests.{all}
use Rattle.meaning.specs.BySize.{BySize, EachBefore}
use Rattle.meaning.specs.Literals.{place, opp, has, conflict}
use Rattle.meaning.specs.Formulae.{Formula, symbol, rule_of}
use Rattle.meaning.specs.Clauses.{rows_of, all_rows}
use Rattle.meaning.specs.Rounds.{label}
use Rattle.meaning.specs.Ground.{reaches, ground, blame}
use Rattle.candidates.specs.Sets.{chosen, size}
use Rattle.meaning.specs.SecondWay.{second_way, rules_of}
use Rattle.positions.specs.Positions.{Variable, symbol_at, Entry, positions, formulae_of, formulae_of_all, suits}
use Rattle.meaning.specs.Promises.{Earliest, Derived, Forced, TwoWays}
use Rattle.candidates.specs.Promises.{Inside}
use Rattle.smallest.specs.Promises.{Carries}
use Rattle.least.specs.Promises.{Least}
use Rattle.positions.specs.Promises.{Removed, Emptied, Fitting, SameRemoved}
use Rattle.literals.specs.Literal.{place_of}
use Rattle.literals.specs.Row.{width, rows_lent, numbers_at, rule_at, decode, Ruled, ruled_in, of_rule, of_rules, with_number}
use Rattle.literals.specs.Refusals.{number_of}
use Rattle.literals.specs.declared.refusal.Refusal.{Refusal}
use Rattle.formula.specs.Promises.{Breaks}
use Rattle.formula.specs.Parse.{good, whole_of}
use Rattle.formula.specs.Answers.{is_good as is_formula, formula_of}
use Rattle.board.specs.Furnaces.{held_by}
use Rattle.board.specs.Faults.{Fault, first_fault, number_in, good_board}
use Rattle.board.specs.Changes.{empty_board, with_flag, withdraw_answer}
use Rattle.board.specs.Rules.{no_place, ruled}
use Rattle.board.specs.Settling.{settled_labels, settled_ranks, settled_supports, RanksBounded}
use Rattle.board.specs.Ranking.{rows_on, derived_on, rank_on, support_on}
use Rattle.board.specs.Asking.{asked, standing, asked_whole, standing_whole, explain_numbers, explain_part}
use Rattle.board.specs.Grounds.{byte_of, ground_marks, blame_marks}
use Rattle.std.specs.Prelude.{Result, Ok, Err}
use Rattle.board.specs.declared.asking.Standing.{Standing}
use Rattle.board.specs.declared.asking.Standing.TheVariants.{Conflict, Stands, RuledOut, Open}
use Rattle.stack.specs.Stacking.{on_stack, top, on_top, less_top, empty_stacks, stack_of, with_stack, stacked, good_stacks}
use Rattle.positions.specs.Entering.{entered}
use Rattle.candidates.specs.Given.{places_of, repeats}
use Rattle.smallest.specs.Listing.{smallest_on, smallest_answer, smallest_sets}
use Rattle.least.specs.Withdrawing.{least_answer}
use Rattle.dimacs.specs.Form.{is_good, clauses_of, parse_text}
use Rattle.dimacs.specs.Clauses.{one_of, clause_faults, clauses_faults}
use Rattle.dimacs.specs.Reading.{formulae_in, read_answer}
use Rattle.dimacs.specs.Writing.{text_on, write_answer, write_bytes}
use Rattle.chains.specs.Form.{whole_text}
use Rattle.chains.specs.Promises.{Says, Offends}
use Rattle.text.specs.Reading.{bytes_in, read_text_answer, read_text_bytes}
use Rattle.text.specs.Adding.{ruled_text}
use Rattle.text.specs.Writing.{text_in, write_text_answer, write_text_bytes}
use Rattle.promises.specs.Calls.{Call, opens, adds, enters, holds, withdraws, pushes, pops, asks, asks_whole, explains, settles, grounds, blames}
use Rattle.promises.specs.Calls.{lists, asks_least, reads, writes, reads_text, adds_text, writes_text, World, front, faults, outcome, after, run}
use Rattle.promises.specs.Calls.{Each, formula_in, rules_after_all, entries_after_all, not_open, names_furnace, changes_premises, brings, takes}
use Rattle.promises.specs.Calls.{without, Answer, of_ask, answer}

-- ---- demand 1: "Each refusal is given exactly in the case document 01 names, and leaves each table untouched."

-- of the cases in their order, the first that is given has this number in 01's table
pub data FirstGiven (number : ℕ) : List Fault → Type 0 where
  here : {f : Fault} {fs : List Fault} → f.given ≡ true → number_of f.refusal ≡ number → FirstGiven number (f ∷ fs)
  later : {f : Fault} {fs : List Fault} → f.given ≡ false → FirstGiven number fs → FirstGiven number (f ∷ fs)

-- what each call answers: a refusal's number exactly in its case,
abbrev pub RefusedExactly : Type 0
RefusedExactly = (w : World) (c : Call) (number : ℕ) → 0 < number → (number_in (outcome w c) ≡ number) ↔ FirstGiven number (faults w c)

-- and that it is done exactly if no case is given
abbrev pub DoneExactly : Type 0
DoneExactly = (w : World) (c : Call) → (outcome w c ≡ Ok tt) ↔ ((f : Fault) → In f (faults w c) → f.given ≡ false)

-- what a refused call leaves: board, table and record as they were, "except that a refused open returns a board with S = 0, no rows in use
-- and no premises". 02, Ticket 8: "every open, a refused one too, sets the count to 0"
abbrev pub as_before : World → Call → World
as_before w c = cond (not_open c) w (record { board = empty_board 0; table = w.table; stacks = w.stacks })

abbrev pub RefusedUntouched : Type 0
RefusedUntouched = (w : World) (c : Call) (why : Refusal) → outcome w c ≡ Err why → after w c ≡ as_before w c

-- "it writes nothing in a lent table": settle's three, the marks of ground and blame, the smallest sets, the bytes of a text, and those of a
-- formula
pub record Unwritten (w : World) (lent : ℕ) (why : Refusal) : Type 0 where
  pub settle : (furnace : ℕ) (labels ranks supports : List ℕ) → outcome w (settles lent furnace labels ranks supports) ≡ Err why
      → (settled_labels (front w lent) w.board furnace labels ranks supports ≡ labels)
      × (settled_ranks (front w lent) w.board furnace labels ranks supports ≡ ranks)
      × (settled_supports (front w lent) w.board furnace labels ranks supports ≡ supports)
  pub ground : (furnace : ℕ) (l : ℤ) (marks : List ℕ) → outcome w (grounds lent furnace l marks) ≡ Err why
      → ground_marks (front w lent) w.board furnace l marks ≡ marks
  pub blame : (furnace : ℕ) (marks : List ℕ) → outcome w (blames lent furnace marks) ≡ Err why
      → blame_marks (front w lent) w.board furnace marks ≡ marks
  pub smallest : (cands : List ℤ) (l : ℤ) (sets : List ℕ) → outcome w (lists lent cands l sets) ≡ Err why
      → smallest_sets (front w lent) w.board cands l sets ≡ sets
  pub write : (out : List ℕ) → outcome w (writes lent out) ≡ Err why → write_bytes (front w lent) w.board out ≡ out
  pub read_text : (text out : List ℕ) → outcome w (reads_text lent text out) ≡ Err why → read_text_bytes (front w lent) w.board text out ≡ out
  pub write_text : (bytes out : List ℕ) → outcome w (writes_text lent bytes out) ≡ Err why
      → write_text_bytes (front w lent) w.board bytes out ≡ out

abbrev pub RefusedUnwritten : Type 0
RefusedUnwritten = (w : World) (lent : ℕ) (why : Refusal) → Unwritten w lent why

-- what it hands back besides: a rule, in bytes or in text, an entry, and a DIMACS text read no rows; a DIMACS text written, and formula text read or
-- written, no bytes; the smallest sets none; the least to withdraw no set, which is 65535 and not the empty one; "A refused explain hands back the
-- empty part at the table's front, and 65535 for rank and row number", and 0 for the rule's (02, Ticket 8)
pub record HandedBack (w : World) (lent : ℕ) (why : Refusal) : Type 0 where
  pub rule : (bytes : List ℕ) → outcome w (adds lent bytes) ≡ Err why → (ruled (front w lent) w.board bytes).added ≡ 0
  pub enter : (e : Entry) → outcome w (enters lent e) ≡ Err why → (entered (front w lent) w.board e).added ≡ 0
  pub explain : (furnace : ℕ) (l : ℤ) → outcome w (explains lent furnace l) ≡ Err why
      → ((explain_numbers (front w lent) w.board furnace l).rank ≡ 65535) × ((explain_numbers (front w lent) w.board furnace l).row ≡ 65535)
      × ((explain_numbers (front w lent) w.board furnace l).rule ≡ 0)
      × ((explain_part (front w lent) w.board furnace l).start ≡ 0) × ((explain_part (front w lent) w.board furnace l).stop ≡ 0)
  pub smallest : (cands : List ℤ) (l : ℤ) (sets : List ℕ) → outcome w (lists lent cands l sets) ≡ Err why
      → (smallest_answer (front w lent) w.board cands l sets).count ≡ 0
  pub least : (furnace : ℕ) (cands : List ℤ) → outcome w (asks_least lent furnace cands) ≡ Err why
      → (least_answer (front w lent) w.board furnace cands).set ≡ 65535
  pub read : (text : List ℕ) → outcome w (reads lent text) ≡ Err why → (read_answer (front w lent) w.board text).added ≡ 0
  pub write : (out : List ℕ) → outcome w (writes lent out) ≡ Err why → (write_answer (front w lent) w.board out).bytes ≡ 0
  pub read_text : (text out : List ℕ) → outcome w (reads_text lent text out) ≡ Err why
      → (read_text_answer (front w lent) w.board text out).bytes ≡ 0
  pub rule_text : (text : List ℕ) → outcome w (adds_text lent text) ≡ Err why → (ruled_text (front w lent) w.board text).added ≡ 0
  pub write_text : (bytes out : List ℕ) → outcome w (writes_text lent bytes out) ≡ Err why
      → (write_text_answer (front w lent) w.board bytes out).bytes ≡ 0

abbrev pub RefusedHandsBack : Type 0
RefusedHandsBack = (w : World) (lent : ℕ) (why : Refusal) → HandedBack w lent why

-- 02, Ticket 1: "Refusals 2 to 6 for a rule shall also give the byte place": the formula breaks there and not before,
abbrev pub RuleBreaks : Type 0
RuleBreaks =
    (w : World) (lent : ℕ) (bytes : List ℕ) (why : Refusal) → outcome w (adds lent bytes) ≡ Err why → 2 ≤ number_of why → number_of why ≤ 6
    → Breaks w.board.symbols bytes why (ruled (front w lent) w.board bytes).place

-- and every other answer has no place
abbrev pub NoPlaceElse : Type 0
NoPlaceElse =
    (w : World) (lent : ℕ) (bytes : List ℕ) → let number = number_in (outcome w (adds lent bytes)) in
    (number < 2) ⊎ (6 < number) → (ruled (front w lent) w.board bytes).place ≡ no_place

-- 02, Ticket 2: "for the first clause at fault, 2, 7, 8, 9": the clauses told come before it and have no fault, with the rows of each in use, and
-- each counted, for the next
pub record StopsAt (S used rules lent : ℕ) (clauses : List (List ℤ)) (why : Refusal) (k : ℕ) : Type 0 where
  pub stands : k < length clauses
  pub before : first_fault (clauses_faults S used rules lent (take k clauses)) ≡ Ok tt
  pub at : first_fault (clause_faults S (used + length (all_rows (rules_of S (map one_of (take k clauses))))) (rules + k) lent (get_or clauses k []))
      ≡ Err why

abbrev pub ReadStops : Type 0
ReadStops =
    (w : World) (lent : ℕ) (text : List ℕ) (why : Refusal) → outcome w (reads lent text) ≡ Err why → number_of why ≢ 1 → number_of why ≢ 15
    → StopsAt w.board.symbols w.board.rows w.board.rules (rows_lent (front w lent)) (clauses_of (parse_text text)) why
    (read_answer (front w lent) w.board text).clauses

-- where the reading is done they are all the clauses
abbrev pub ReadCounts : Type 0
ReadCounts =
    (w : World) (lent : ℕ) (text : List ℕ) → outcome w (reads lent text) ≡ Ok tt
    → (read_answer (front w lent) w.board text).clauses ≡ length (clauses_of (parse_text text))

-- and where the board or the form of the text is at fault, so for 1 and 15, none is told
abbrev pub ReadTellsNone : Type 0
ReadTellsNone =
    (w : World) (lent : ℕ) (text : List ℕ) → (good_board (front w lent) w.board ≡ false) ⊎ (is_good (parse_text text) ≡ false)
    → (read_answer (front w lent) w.board text).clauses ≡ 0

-- 02, Ticket 5: 15 is told "at the first offending place" of the text, "2 and 5 carry their place in the resulting bytes", and every other answer has
-- no place
pub record TextPlaced (S : ℕ) (text : List ℕ) (number place : ℕ) : Type 0 where
  pub text_breaks : number ≡ 15 → Offends text place
  pub bytes_break : 2 ≤ number → number ≤ 6
      → ((number ≡ 2) ⊎ (number ≡ 5)) × (why : Refusal) × (number_of why ≡ number) × Breaks S (bytes_in text) why place
  pub nowhere : (number < 2) ⊎ ((6 < number) × (number ≢ 15)) → place ≡ no_place

abbrev pub TextPlaces : Type 0
TextPlaces =
    (w : World) (lent : ℕ) (text out : List ℕ)
    → TextPlaced w.board.symbols text (number_in (outcome w (reads_text lent text out))) (read_text_answer (front w lent) w.board text out).place
    × TextPlaced w.board.symbols text (number_in (outcome w (adds_text lent text))) (ruled_text (front w lent) w.board text).place

-- the writer's places are those of a rule in bytes
abbrev pub WriteTextPlaces : Type 0
WriteTextPlaces =
    (w : World) (lent : ℕ) (bytes out : List ℕ) → let number = number_in (outcome w (writes_text lent bytes out)) in
    let place = (write_text_answer (front w lent) w.board bytes out).place in
    (2 ≤ number → number ≤ 6 → (number_in (outcome w (adds lent bytes)) ≡ number) × ((ruled (front w lent) w.board bytes).place ≡ place))
    × ((number < 2) ⊎ (6 < number) → place ≡ no_place)

-- ---- demand 2: what the calls leave

-- "A good open touches no row; rows in use and premises start empty." 02, Ticket 6: "opening empties both sets"; and Ticket 8: "every open, a refused
-- one too, sets the count to 0"; Ticket 14: "a good open empties the stacks"
abbrev pub OpenLeaves : Type 0
OpenLeaves =
    (w : World) (S : ℕ) → outcome w (opens S) ≡ Ok tt
    → after w (opens S) ≡ record { board = empty_board S; table = w.table; stacks = empty_stacks }

-- "A good hold puts its literal into the premises, a good withdraw takes it out, and neither changes anything else in the board": the premises of
-- the furnace that is named
abbrev pub HoldPuts : Type 0
HoldPuts =
    (w : World) (lent furnace : ℕ) (l : ℤ) → outcome w (holds lent furnace l) ≡ Ok tt
    → after w (holds lent furnace l) ≡ record { board = with_flag w.board furnace l true; table = w.table; stacks = w.stacks }

abbrev pub WithdrawTakes : Type 0
WithdrawTakes =
    (w : World) (lent furnace : ℕ) (l : ℤ) → outcome w (withdraws lent furnace l) ≡ Ok tt
    → after w (withdraws lent furnace l) ≡ record { board = with_flag w.board furnace l false; table = w.table; stacks = w.stacks }

-- 02, Ticket 14: "push holds a literal and puts it on top,
abbrev pub PushPuts : Type 0
PushPuts =
    (w : World) (lent furnace : ℕ) (l : ℤ) → outcome w (pushes lent furnace l) ≡ Ok tt
    → after w (pushes lent furnace l)
    ≡ record {
      board = with_flag w.board furnace l true;
      table = w.table;
      stacks = with_stack w.stacks furnace (on_top (stack_of w.stacks furnace) l);
    }

-- pop withdraws the top", and neither changes anything else
abbrev pub PopTakes : Type 0
PopTakes =
    (w : World) (lent furnace : ℕ) → outcome w (pops lent furnace) ≡ Ok tt
    → after w (pops lent furnace)
    ≡ record {
      board = with_flag w.board furnace (top (stack_of w.stacks furnace)) false;
      table = w.table;
      stacks = with_stack w.stacks furnace (less_top (stack_of w.stacks furnace));
    }

-- the premises that a furnace holds
abbrev pub premises_of : World → (furnace : ℕ) → List Bool
premises_of w furnace = held_by w.board furnace

-- the rows in use of a world, as lists of places
abbrev pub rows_of_world : World → List (List ℕ)
rows_of_world w = rows_on w.table w.board

-- and with the numbers of their rules
abbrev pub ruled_rows : World → List Ruled
ruled_rows w = ruled_in w.board.rows w.table

-- a good call that adds so many rules: `new` are their prime implicates, as rows with the rules' numbers
pub record Appends (w next : World) (rules : ℕ) (new : List Ruled) (added : ℕ) : Type 0 where
  -- "The rows stored for a rule are all its prime implicates and no others": the rows in use are those before, and then the new ones
  pub rows : ruled_rows next ≡ ruled_rows w ++ new
  -- so many are told, and so many more are in use
  pub told : added ≡ length new
  pub used : next.board.rows ≡ w.board.rows + length new
  -- "A board counts its accepted rules"
  pub counted : next.board.rules ≡ w.board.rules + rules
  -- "adding a rule changes neither S nor the premises", those of both furnaces
  pub symbols : next.board.symbols ≡ w.board.symbols
  pub premises : (furnace : ℕ) → premises_of next furnace ≡ premises_of w furnace
  pub stacks : next.stacks ≡ w.stacks
  -- "a good call writes only the places named for it": those of the new rows
  pub before : take (width * w.board.rows) next.table ≡ take (width * w.board.rows) w.table
  pub beyond : drop (width * (w.board.rows + length new)) next.table ≡ drop (width * (w.board.rows + length new)) w.table

abbrev pub RuleAppends : Type 0
RuleAppends =
    (w : World) (lent : ℕ) (bytes : List ℕ) → outcome w (adds lent bytes) ≡ Ok tt
    → Appends w (after w (adds lent bytes)) 1
    (of_rule (suc w.board.rules) (rows_of (rule_of w.board.symbols (formula_in w.board.symbols bytes))))
    (ruled (front w lent) w.board bytes).added

-- 02, Ticket 2: "Each clause is added as one rule, in order."
abbrev pub ReadAppends : Type 0
ReadAppends =
    (w : World) (lent : ℕ) (text : List ℕ) → outcome w (reads lent text) ≡ Ok tt
    → let clauses = formulae_in (parse_text text) in
    Appends w (after w (reads lent text)) (length clauses) (of_rules (suc w.board.rules) (rules_of w.board.symbols clauses))
    (read_answer (front w lent) w.board text).added

-- 02, Ticket 13: a variable is "entered as one rule", of a pair table "each such clause counts as one rule"; the rows of all of them are added. (That
-- nothing is where the call is refused, "wholly or not at all", is `RefusedUntouched`.)
abbrev pub EnterAppends : Type 0
EnterAppends =
    (w : World) (lent : ℕ) (e : Entry) → outcome w (enters lent e) ≡ Ok tt
    → Appends w (after w (enters lent e)) (length (formulae_of e)) (of_rules (suc w.board.rules) (rules_of w.board.symbols (formulae_of e)))
    (entered (front w lent) w.board e).added

-- no answer of it has a place
abbrev pub EnterNoPlace : Type 0
EnterNoPlace = (w : World) (lent : ℕ) (e : Entry) → (entered (front w lent) w.board e).place ≡ no_place

-- 02, Ticket 5: "Text and bytes of one formula add the same rows": the two calls answer the same and leave the same
abbrev pub TextIsBytes : Type 0
TextIsBytes =
    (w : World) (lent : ℕ) (text : List ℕ) → is_formula (whole_text text) ≡ true
    → (ruled_text (front w lent) w.board text ≡ ruled (front w lent) w.board (bytes_in text))
    × (after w (adds_text lent text) ≡ after w (adds lent (bytes_in text)))

-- so whatever text and whatever bytes say the formula, on a good board
abbrev pub OneFormula : Type 0
OneFormula =
    (w : World) (lent : ℕ) (text bytes : List ℕ) (f : Formula) (used : ℕ) → good_board (front w lent) w.board ≡ true → Says text f
    → whole_of w.board.symbols bytes ≡ good f used
    → (ruled_text (front w lent) w.board text ≡ ruled (front w lent) w.board bytes)
    × (after w (adds_text lent text) ≡ after w (adds lent bytes))

-- and the rows are those of the formula that the text says
abbrev pub TextAppends : Type 0
TextAppends =
    (w : World) (lent : ℕ) (text : List ℕ) → outcome w (adds_text lent text) ≡ Ok tt
    → Appends w (after w (adds_text lent text)) 1
    (of_rule (suc w.board.rules) (rows_of (rule_of w.board.symbols (formula_of (whole_text text)))))
    (ruled_text (front w lent) w.board text).added

-- ---- demand 2: what the calls tell, "over the rows in the table and the premises then held, in 01's rounds". 02, Ticket 6: "From here demands 2
-- and 3 read the named furnace's premises"

-- the literal is derived for the furnace, by the definition with no rounds
abbrev pub DerivedOn : World → (furnace : ℕ) → ℕ → Type 0
DerivedOn w furnace p = Derived (2 * w.board.symbols) (rows_of_world w) (premises_of w furnace) p

-- the derived literals by the rounds, and the rank and the support of a literal
abbrev pub derived_set : World → (furnace : ℕ) → List Bool
derived_set w furnace = derived_on w.table w.board furnace

abbrev pub rank_in : World → (furnace : ℕ) → ℕ → ℕ
rank_in w furnace p = rank_on w.table w.board furnace p

abbrev pub support_in : World → (furnace : ℕ) → ℕ → ℕ
support_in w furnace p = support_on w.table w.board furnace p

-- the tables that settle left
pub record Tells (w : World) (furnace : ℕ) (labels ranks supports : List ℕ) : Type 0 where
  pub label : (s : ℕ) → 1 ≤ s → s ≤ w.board.symbols → get_or labels (s - 1) 0 ≡ label (derived_set w furnace) s
  -- "A literal is derived exactly if that definition derives it"
  pub derived : (p : ℕ) → (has (derived_set w furnace) p ≡ true) ↔ DerivedOn w furnace p
  pub rank : (p : ℕ) → p < 2 * w.board.symbols → get_or ranks p 0 ≡ rank_in w furnace p
  pub support : (p : ℕ) → p < 2 * w.board.symbols → get_or supports p 0 ≡ support_in w furnace p

-- "After every sequence of calls on a board"
abbrev pub SettleTells : Type 0
SettleTells =
    (w₀ : World) (calls : List Call) (lent furnace : ℕ) (labels ranks supports : List ℕ)
    → let w = run w₀ calls in
    outcome w (settles lent furnace labels ranks supports) ≡ Ok tt
    → Tells w furnace (settled_labels (front w lent) w.board furnace labels ranks supports)
    (settled_ranks (front w lent) w.board furnace labels ranks supports)
    (settled_supports (front w lent) w.board furnace labels ranks supports)

-- "Only the first S, 2S and 2S places are written."
abbrev pub SettleSpares : Type 0
SettleSpares =
    (w : World) (lent furnace : ℕ) (labels ranks supports : List ℕ) → outcome w (settles lent furnace labels ranks supports) ≡ Ok tt
    → let S = w.board.symbols in
    (drop S (settled_labels (front w lent) w.board furnace labels ranks supports) ≡ drop S labels)
    × (drop (2 * S) (settled_ranks (front w lent) w.board furnace labels ranks supports) ≡ drop (2 * S) ranks)
    × (drop (2 * S) (settled_supports (front w lent) w.board furnace labels ranks supports) ≡ drop (2 * S) supports)

-- the other answers agree with the same derived literals, ranks and supports (for any board and table, so after every sequence too)
abbrev pub AskTells : Type 0
AskTells =
    (w : World) (lent furnace : ℕ) (l : ℤ) → outcome w (asks lent furnace l) ≡ Ok tt
    → asked (front w lent) w.board furnace l ≡ Ok (standing (derived_set w furnace) (place_of l))

abbrev pub AskWholeTells : Type 0
AskWholeTells =
    (w : World) (lent furnace : ℕ) (l : ℤ) → outcome w (asks_whole lent furnace l) ≡ Ok tt
    → asked_whole (front w lent) w.board furnace l ≡ Ok (standing_whole (derived_set w furnace) (place_of l))

-- the rank, the row number, the number of that row's rule, and the literals of that row
pub record Explains (w : World) (lent furnace : ℕ) (l : ℤ) : Type 0 where
  pub rank : (explain_numbers (front w lent) w.board furnace l).rank ≡ rank_in w furnace (place_of l)
  pub row : (explain_numbers (front w lent) w.board furnace l).row ≡ support_in w furnace (place_of l)
  pub rule : (explain_numbers (front w lent) w.board furnace l).rule ≡ rule_at w.table (support_in w furnace (place_of l))
  pub part : let span = explain_part (front w lent) w.board furnace l in
      decode (take (span.stop - span.start) (drop span.start w.table)) ≡ get_or (rows_of_world w) (support_in w furnace (place_of l)) []

abbrev pub ExplainTells : Type 0
ExplainTells = (w : World) (lent furnace : ℕ) (l : ℤ) → outcome w (explains lent furnace l) ≡ Ok tt → Explains w lent furnace l

-- 02, Ticket 7: "No rank can exceed 2S": none that settle writes, and not the one that explain tells, which is of no premise and so not 0
pub record Bounded (w : World) (lent furnace : ℕ) : Type 0 where
  pub settle : (labels ranks supports : List ℕ) → outcome w (settles lent furnace labels ranks supports) ≡ Ok tt
      → RanksBounded w.board.symbols (settled_ranks (front w lent) w.board furnace labels ranks supports)
  pub explain : (l : ℤ) → outcome w (explains lent furnace l) ≡ Ok tt
      → (1 ≤ (explain_numbers (front w lent) w.board furnace l).rank)
      × ((explain_numbers (front w lent) w.board furnace l).rank ≤ 2 * w.board.symbols)

abbrev pub NoRankAbove : Type 0
NoRankAbove = (w : World) (lent furnace : ℕ) → Bounded w lent furnace

abbrev pub GroundTells : Type 0
GroundTells =
    (w : World) (lent furnace : ℕ) (l : ℤ) (marks : List ℕ) → outcome w (grounds lent furnace l marks) ≡ Ok tt
    → ground_marks (front w lent) w.board furnace l marks
    ≡ map byte_of (ground (2 * w.board.symbols) (rows_of_world w) (premises_of w furnace) (place_of l)) ++ drop (2 * w.board.symbols) marks

abbrev pub BlameTells : Type 0
BlameTells =
    (w : World) (lent furnace : ℕ) (marks : List ℕ) → outcome w (blames lent furnace marks) ≡ Ok tt
    → blame_marks (front w lent) w.board furnace marks
    ≡ map byte_of (blame w.board.symbols (rows_of_world w) (premises_of w furnace)) ++ drop (2 * w.board.symbols) marks

-- 02, Ticket 4: "Blame shall take, among symbols with label 3, the one whose larger rank of its two literals is smallest, and of equals the lowest
-- symbol." Of that symbol it writes "the premises reached by +s or −s", by 01.
abbrev pub BlameTakes : Type 0
BlameTakes =
    (w : World) (lent furnace : ℕ) (marks : List ℕ) → outcome w (blames lent furnace marks) ≡ Ok tt
    → let S = w.board.symbols in
    let reach : ℕ → ℕ → Bool = reaches (2 * S) (rows_of_world w) (premises_of w furnace) in
    (s : ℕ) × Earliest S (rows_of_world w) (premises_of w furnace) s
    × ((p : ℕ) → p < 2 * S → get_or (blame_marks (front w lent) w.board furnace marks) p 0
    ≡ byte_of (reach (place s true) p || reach (place s false) p))

-- blame writes 1 at the place p
abbrev pub Marked : World → (lent furnace : ℕ) → (marks : List ℕ) → ℕ → Type 0
Marked w lent furnace marks p = (p < 2 * w.board.symbols) × (get_or (blame_marks (front w lent) w.board furnace marks) p 0 ≡ 1)

-- what it marks are premises that the furnace holds,
abbrev pub BlameMarksHeld : Type 0
BlameMarksHeld =
    (w : World) (lent furnace : ℕ) (marks : List ℕ) (p : ℕ) → outcome w (blames lent furnace marks) ≡ Ok tt → Marked w lent furnace marks p
    → has (premises_of w furnace) p ≡ true

-- which held alone, with the same rows, are in conflict:
abbrev pub BlameAlone : Type 0
BlameAlone =
    (w v : World) (lent furnace : ℕ) (marks : List ℕ) → outcome w (blames lent furnace marks) ≡ Ok tt
    → v.board.symbols ≡ w.board.symbols → rows_of_world v ≡ rows_of_world w
    → ((p : ℕ) → (has (premises_of v furnace) p ≡ true) ↔ Marked w lent furnace marks p)
    → conflict (derived_set v furnace) ≡ true

-- the call is no open, and if it is done it takes none of these premises from this furnace
abbrev pub Spares : (furnace : ℕ) → (premises : ℕ → Type 0) → World → Call → Type 0
Spares furnace premises w c = (not_open c ≡ true) × ((h : ℕ) → premises h → outcome w c ≡ Ok tt → takes w furnace h c ≡ false)

-- so the furnace stays in conflict, whatever rules are added and premises held or withdrawn for either furnace, until one of those is withdrawn for
-- it or the board is opened anew
abbrev pub ConflictLasts : Type 0
ConflictLasts =
    (w : World) (lent furnace : ℕ) (marks : List ℕ) (calls : List Call) → outcome w (blames lent furnace marks) ≡ Ok tt
    → Each (Spares furnace (Marked w lent furnace marks)) w calls
    → conflict (derived_set (run w calls) furnace) ≡ true

-- 02, Ticket 2: "Write the rows in use too": the bytes told are the text's, and the bytes beyond it stay
abbrev pub WriteTells : Type 0
WriteTells =
    (w : World) (lent : ℕ) (out : List ℕ) → outcome w (writes lent out) ≡ Ok tt
    → let text = text_on w.table w.board in
    ((write_answer (front w lent) w.board out).bytes ≡ length text) × (write_bytes (front w lent) w.board out ≡ text ++ drop (length text) out)

-- "Reading what was written onto a new board of equal S gives the same rows, if as many are lent": the same literals, from Ticket 8 on. Each row is a
-- rule of its own, so row r, from 0, has the number r + 1
abbrev pub RoundTrip : Type 0
RoundTrip =
    (w : World) (lent : ℕ) (out : List ℕ) (v : World) (room : ℕ) → outcome w (writes lent out) ≡ Ok tt → w.board.rows ≤ rows_lent (front v room)
    → let text = take (write_answer (front w lent) w.board out).bytes (write_bytes (front w lent) w.board out) in
    let new = after v (opens w.board.symbols) in
    let read = after new (reads room text) in
    (outcome new (reads room text) ≡ Ok tt) × (rows_of_world read ≡ rows_of_world w) × (read.board.rules ≡ w.board.rows)
    × ((r : ℕ) → r < w.board.rows → rule_at read.table r ≡ suc r)

-- 02, Ticket 5: a text that is read leaves its formula's bytes, and the bytes beyond them stay
abbrev pub ReadTextTells : Type 0
ReadTextTells =
    (w : World) (lent : ℕ) (text out : List ℕ) → outcome w (reads_text lent text out) ≡ Ok tt
    → let bytes = bytes_in text in
    ((read_text_answer (front w lent) w.board text out).bytes ≡ length bytes)
    × (read_text_bytes (front w lent) w.board text out ≡ bytes ++ drop (length bytes) out)

-- "Write text from bytes too"
abbrev pub WriteTextTells : Type 0
WriteTextTells =
    (w : World) (lent : ℕ) (bytes out : List ℕ) → outcome w (writes_text lent bytes out) ≡ Ok tt
    → let text = text_in w.board.symbols bytes in
    ((write_text_answer (front w lent) w.board bytes out).bytes ≡ length text)
    × (write_text_bytes (front w lent) w.board bytes out ≡ text ++ drop (length text) out)

-- the text that a good writing left
abbrev pub text_written : World → (lent : ℕ) → (bytes out : List ℕ) → List ℕ
text_written w lent bytes out =
    take (write_text_answer (front w lent) w.board bytes out).bytes (write_text_bytes (front w lent) w.board bytes out)

-- "reading it gives the same bytes", on every good board of equal S with room for them; and added to any board it adds what those bytes do
pub record WrittenBack (text bytes : List ℕ) (S : ℕ) : Type 0 where
  pub reads : (v : World) (lent : ℕ) (out : List ℕ) → v.board.symbols ≡ S → good_board (front v lent) v.board ≡ true → length bytes ≤ length out
      → (outcome v (reads_text lent text out) ≡ Ok tt) × (read_text_bytes (front v lent) v.board text out ≡ bytes ++ drop (length bytes) out)
  pub adds : (v : World) (lent : ℕ) → (ruled_text (front v lent) v.board text ≡ ruled (front v lent) v.board bytes)
      × (after v (adds_text lent text) ≡ after v (adds lent bytes))

abbrev pub TextRoundTrip : Type 0
TextRoundTrip =
    (w : World) (lent : ℕ) (bytes out : List ℕ) → outcome w (writes_text lent bytes out) ≡ Ok tt
    → WrittenBack (text_written w lent bytes out) bytes w.board.symbols

-- ---- 02, Ticket 6: "Holding and withdrawing for one furnace change no answer of the other, refusals 10 to 12 included."

-- all but the premises of this furnace and its stack is the same
pub record Alike (furnace : ℕ) (v u : World) : Type 0 where
  pub table : v.table ≡ u.table
  pub symbols : v.board.symbols ≡ u.board.symbols
  pub rows : v.board.rows ≡ u.board.rows
  pub rules : v.board.rules ≡ u.board.rules
  pub premises : (other : ℕ) → other ≢ furnace → premises_of v other ≡ premises_of u other
  pub stack : (other : ℕ) → other ≢ furnace → stack_of v.stacks other ≡ stack_of u.stacks other

-- Whatever went before, an open, and then any sequence of calls: leave out of it every hold, withdraw, push and pop for one furnace, wherever they
-- stand. Then every call that does not name that furnace (it names the other, a number of no furnace, or none) is answered the same, writes the same,
-- and leaves all the same but that furnace's premises and stack.
abbrev pub FurnacesApart : Type 0
FurnacesApart =
    (w₀ : World) (S furnace : ℕ) (calls : List Call) (c : Call) → names_furnace furnace c ≡ false
    → let v = run w₀ (opens S ∷ without furnace calls) in
    let u = run w₀ (opens S ∷ calls) in
    (answer v c ≡ answer u c) × Alike furnace (after v c) (after u c)

-- ---- demand 3

-- "For the rules accepted since the last open, a good one, one table lent from its front to every call since and written by nobody
-- else": whatever went before, an open, and then any calls. (After a refused open no rule is accepted, and no row is in use.)
abbrev pub since : World → ℕ → List Call → World
since w₀ S calls = run w₀ (opens S ∷ calls)

abbrev pub accepted_since : World → ℕ → List Call → List Formula
accepted_since w₀ S calls = rules_after_all w₀ [] (opens S ∷ calls)

-- "any premises: either both ways find a literal and its opposite or neither does; where neither does, every label is the same"
abbrev pub WaysAgree : Type 0
WaysAgree =
    (w₀ : World) (S : ℕ) (calls : List Call) (held : List Bool)
    → let w = since w₀ S calls in
    TwoWays (Derived (2 * w.board.symbols) (rows_of_world w) held) (Forced w.board.symbols (accepted_since w₀ S calls) held)

-- and in the bytes that settle writes, for the premises that the named furnace then holds; `known` is what the second way finds
pub record LabelsAgree (S : ℕ) (labels : List ℕ) (known : List Bool) : Type 0 where
  pub conflicts : ((s : ℕ) × (1 ≤ s) × (s ≤ S) × (get_or labels (s - 1) 0 ≡ 3)) ↔ (conflict known ≡ true)
  pub same : conflict known ≡ false → (s : ℕ) → 1 ≤ s → s ≤ S → get_or labels (s - 1) 0 ≡ label known s

abbrev pub SettleAgrees : Type 0
SettleAgrees =
    (w₀ : World) (S : ℕ) (calls : List Call) (lent furnace : ℕ) (labels ranks supports : List ℕ)
    → let w = since w₀ S calls in
    outcome w (settles lent furnace labels ranks supports) ≡ Ok tt
    → LabelsAgree w.board.symbols (settled_labels (front w lent) w.board furnace labels ranks supports)
    (second_way w.board.symbols (accepted_since w₀ S calls) (premises_of w furnace))

-- ---- 02, Ticket 8: "Which rule is this row from?"

-- the rows in use that carry the number i, in their order
abbrev pub rows_of_rule : World → (i : ℕ) → List (List ℕ)
rows_of_rule w i = with_number i (ruled_rows w)

-- what the numbers say, where these are the formulae of the rules accepted since the last open
pub record Numbers (w : World) (fs : List Formula) : Type 0 where
  -- the board counts the rules,
  pub count : w.board.rules ≡ length fs
  -- the rows in use are those of the rules, from 1 "in order of acceptance, rules with no rows counted":
  pub ruled : ruled_rows w ≡ of_rules 1 (rules_of w.board.symbols fs)
  -- the rows that carry the number i + 1 are exactly the prime implicates, in order, of the rule at i, from 0; of a rule with no rows there are none,
  pub rows : (i : ℕ) → i < length fs → rows_of_rule w (suc i) ≡ rows_of (rule_of w.board.symbols (get_or fs i (symbol 0)))
  -- and no row carries a number that is no rule's
  pub range : (r : ℕ) → r < w.board.rows → (1 ≤ rule_at w.table r) × (rule_at w.table r ≤ length fs)

abbrev pub RuleNumbers : Type 0
RuleNumbers = (w₀ : World) (S : ℕ) (calls : List Call) → Numbers (since w₀ S calls) (accepted_since w₀ S calls)

-- so explain's number names the rule that the mark stands on: it is the supporting row's own, and that row is one of the rule's prime implicates
abbrev pub ExplainNames : Type 0
ExplainNames =
    (w₀ : World) (S : ℕ) (calls : List Call) (lent furnace : ℕ) (l : ℤ)
    → let w = since w₀ S calls in
    let fs = accepted_since w₀ S calls in
    let number = (explain_numbers (front w lent) w.board furnace l).rule in
    outcome w (explains lent furnace l) ≡ Ok tt
    → (number ≡ rule_at w.table (support_in w furnace (place_of l))) × (1 ≤ number) × (number ≤ length fs)
    × In (get_or (rows_of_world w) (support_in w furnace (place_of l)) []) (rows_of (rule_of w.board.symbols (get_or fs (number - 1) (symbol 0))))

-- two worlds of one S, with the same premises and the same literals in the rows in use; the numbers of the rules, their count and the rest of the
-- table may differ
pub record SameLiterals (v w : World) : Type 0 where
  pub symbols : v.board.symbols ≡ w.board.symbols
  pub rows : v.board.rows ≡ w.board.rows
  pub premises : (furnace : ℕ) → premises_of v furnace ≡ premises_of w furnace
  pub literals : (r : ℕ) → r < v.board.rows → numbers_at v.table r ≡ numbers_at w.table r

-- are told the same: every label, rank, support, ground and blame, how each literal stands, the smallest sets, the least to withdraw, and the DIMACS
-- text; of what explain tells all but the rule's number
pub record SameTold (v w : World) (lent furnace : ℕ) : Type 0 where
  pub settle : (labels ranks supports : List ℕ) → let c = settles lent furnace labels ranks supports in answer v c ≡ answer w c
  pub ask : (l : ℤ) → answer v (asks lent furnace l) ≡ answer w (asks lent furnace l)
  pub ask_whole : (l : ℤ) → answer v (asks_whole lent furnace l) ≡ answer w (asks_whole lent furnace l)
  pub ground : (l : ℤ) (marks : List ℕ) → answer v (grounds lent furnace l marks) ≡ answer w (grounds lent furnace l marks)
  pub blame : (marks : List ℕ) → answer v (blames lent furnace marks) ≡ answer w (blames lent furnace marks)
  pub smallest : (cands : List ℤ) (l : ℤ) (sets : List ℕ) → answer v (lists lent cands l sets) ≡ answer w (lists lent cands l sets)
  pub least : (cands : List ℤ) → answer v (asks_least lent furnace cands) ≡ answer w (asks_least lent furnace cands)
  pub explain : (l : ℤ) → let a = explain_numbers (front v lent) v.board furnace l in let b = explain_numbers (front w lent) w.board furnace l in
      (a.outcome ≡ b.outcome) × (a.rank ≡ b.rank) × (a.row ≡ b.row)
      × (explain_part (front v lent) v.board furnace l ≡ explain_part (front w lent) w.board furnace l)
  -- "DIMACS text leaves rule numbers out"
  pub write : (out : List ℕ) → answer v (writes lent out) ≡ answer w (writes lent out)

abbrev pub NumbersApart : Type 0
NumbersApart =
    (v w : World) (lent furnace : ℕ) → SameLiterals v w → good_board (front v lent) v.board ≡ true → good_board (front w lent) w.board ≡ true
    → SameTold v w lent furnace

-- ---- 02, Ticket 9: "The ground is enough."

-- ground writes 1 at the place h: the premise is one of the literal's ground
abbrev pub InGround : World → (lent furnace : ℕ) → ℤ → (marks : List ℕ) → ℕ → Type 0
InGround w lent furnace l marks h =
    (h < 2 * w.board.symbols) × (get_or (ground_marks (front w lent) w.board furnace l marks) h 0 ≡ 1)

-- "For a derived literal", so one whose ground is told: "with only the premises of its ground held, it is derived with the same rank and the same
-- support", in every world of one S that has the same rows
abbrev pub GroundAlone : Type 0
GroundAlone =
    (w v : World) (lent furnace : ℕ) (l : ℤ) (marks : List ℕ) → outcome w (grounds lent furnace l marks) ≡ Ok tt
    → v.board.symbols ≡ w.board.symbols → rows_of_world v ≡ rows_of_world w
    → ((h : ℕ) → (has (premises_of v furnace) h ≡ true) ↔ InGround w lent furnace l marks h)
    → DerivedOn v furnace (place_of l) × (rank_in v furnace (place_of l) ≡ rank_in w furnace (place_of l))
    × (support_in v furnace (place_of l) ≡ support_in w furnace (place_of l))

-- how a literal stands is what it was, refusals included, or it was in conflict and stands now
abbrev pub KeptBut : (before now : Answer) → Type 0
KeptBut before now = (now ≡ before) ⊎ ((before ≡ of_ask (Ok Conflict)) × (now ≡ of_ask (Ok Stands)))

-- a mark that can't move: what the furnace is told of the literal in v is what it was told in w, refusals included, but for a conflict that was ended
pub record CannotMove (w v : World) (furnace : ℕ) (l : ℤ) : Type 0 where
  -- its rank, row and rule, and the row's part of the table
  pub explain : (lent : ℕ) → answer v (explains lent furnace l) ≡ answer w (explains lent furnace l)
  -- the rank and the support at its place
  pub settle : (lent : ℕ) (labels ranks supports : List ℕ) → let c = settles lent furnace labels ranks supports in let p = place_of l in
      (outcome v c ≡ outcome w c)
      × (get_or (settled_ranks (front v lent) v.board furnace labels ranks supports) p 0
      ≡ get_or (settled_ranks (front w lent) w.board furnace labels ranks supports) p 0)
      × (get_or (settled_supports (front v lent) v.board furnace labels ranks supports) p 0
      ≡ get_or (settled_supports (front w lent) w.board furnace labels ranks supports) p 0)
  -- its ground
  pub ground : (lent : ℕ) (marks : List ℕ) → answer v (grounds lent furnace l marks) ≡ answer w (grounds lent furnace l marks)
  -- how it stands, by its symbol: where it stood it stands, and it stands wherever its opposite is not derived now
  pub ask : (lent : ℕ) → KeptBut (answer w (asks lent furnace l)) (answer v (asks lent furnace l))
  pub stands : (lent : ℕ) → has (derived_set v furnace) (opp (place_of l)) ≡ false → outcome w (asks lent furnace l) ≡ Ok tt
      → answer v (asks lent furnace l) ≡ of_ask (Ok Stands)
  -- the same of the whole board, where no conflict is left; none comes up
  pub ask_whole : (lent : ℕ) → KeptBut (answer w (asks_whole lent furnace l)) (answer v (asks_whole lent furnace l))
  pub stands_whole : (lent : ℕ) → conflict (derived_set v furnace) ≡ false → outcome w (asks_whole lent furnace l) ≡ Ok tt
      → answer v (asks_whole lent furnace l) ≡ of_ask (Ok Stands)
  pub no_conflict : conflict (derived_set w furnace) ≡ false → conflict (derived_set v furnace) ≡ false

-- the call, if it is done, brings this furnace no rule and no premise
abbrev pub BringsNothing : (furnace : ℕ) → World → Call → Type 0
BringsNothing furnace w c = outcome w c ≡ Ok tt → brings furnace c ≡ false

-- "and withdrawing premises outside its ground, any number of them, changes neither": whatever is called, for either furnace, that opens no board,
-- brings this one no rule and no premise, and withdraws none of the ground for it
abbrev pub MarkStays : Type 0
MarkStays =
    (w : World) (lent furnace : ℕ) (l : ℤ) (marks : List ℕ) (calls : List Call) → outcome w (grounds lent furnace l marks) ≡ Ok tt
    → Each (Spares furnace (InGround w lent furnace l marks)) w calls → Each (BringsNothing furnace) w calls
    → CannotMove w (run w calls) furnace l

-- "Before an operator strikes off a reading we want to tell him which marks can't move": for the premise h, those whose ground does not have it
abbrev pub StrikesOff : Type 0
StrikesOff =
    (w : World) (lent furnace : ℕ) (l : ℤ) (marks : List ℕ) (h : ℤ) (some : ℕ) → outcome w (grounds lent furnace l marks) ≡ Ok tt
    → get_or (ground_marks (front w lent) w.board furnace l marks) (place_of h) 0 ≡ 0
    → CannotMove w (after w (withdraws some furnace h)) furnace l

-- ---- 02, Ticket 10: "The shift desk's smallest sets."

-- "The call returns the count; places beyond the list stay as they were."
abbrev pub SmallestTells : Type 0
SmallestTells =
    (w : World) (lent : ℕ) (cands : List ℤ) (l : ℤ) (sets : List ℕ) → outcome w (lists lent cands l sets) ≡ Ok tt
    → let list = smallest_on w.table w.board cands l in
    ((smallest_answer (front w lent) w.board cands l sets).count ≡ length list)
    × (smallest_sets (front w lent) w.board cands l sets ≡ list ++ drop (length list) sets)

-- the sets that a good call wrote
abbrev pub list_written : World → (lent : ℕ) → (cands : List ℤ) → ℤ → (sets : List ℕ) → List ℕ
list_written w lent cands l sets =
    take (smallest_answer (front w lent) w.board cands l sets).count (smallest_sets (front w lent) w.board cands l sets)

-- They are all that, "held alone under the table's rules, derives the literal without conflict, while no smaller set inside it derives the literal",
-- and no others; "order by size, then by number, each once".
pub record Lists (w : World) (cands : List ℤ) (l : ℤ) (list : List ℕ) : Type 0 where
  pub all : (m : ℕ) → In m list
      ↔ ((m < 2 ^ length cands) × Carries (2 * w.board.symbols) (rows_of_world w) (places_of cands) (place_of l) m)
  pub order : EachBefore (BySize (size (length cands)) (λ a b. a < b)) list

abbrev pub SmallestLists : Type 0
SmallestLists =
    (w : World) (lent : ℕ) (cands : List ℤ) (l : ℤ) (sets : List ℕ) → outcome w (lists lent cands l sets) ≡ Ok tt
    → Lists w cands l (list_written w lent cands l sets)

-- On a board of one S that has the same rows, and where the set's candidates are all that a furnace holds,
pub record HeldAlone (w v : World) (furnace : ℕ) (cands : List ℤ) (m : ℕ) : Type 0 where
  pub symbols : v.board.symbols ≡ w.board.symbols
  pub rows : rows_of_world v ≡ rows_of_world w
  pub premises : (h : ℕ) → h < 2 * w.board.symbols → (has (premises_of v furnace) h ≡ true) ↔ In h (chosen (places_of cands) m)

-- a set listed derives the literal, and there is no conflict,
abbrev pub ListedDerives : Type 0
ListedDerives =
    (w v : World) (lent furnace : ℕ) (cands : List ℤ) (l : ℤ) (sets : List ℕ) (m : ℕ) → outcome w (lists lent cands l sets) ≡ Ok tt
    → In m (list_written w lent cands l sets) → HeldAlone w v furnace cands m
    → DerivedOn v furnace (place_of l) × (conflict (derived_set v furnace) ≡ false)

-- and no other set inside it derives it
abbrev pub SmallerDoesNot : Type 0
SmallerDoesNot =
    (w v : World) (lent furnace : ℕ) (cands : List ℤ) (l : ℤ) (sets : List ℕ) (m a : ℕ) → outcome w (lists lent cands l sets) ≡ Ok tt
    → In m (list_written w lent cands l sets) → Inside a m → a ≢ m → HeldAlone w v furnace cands a → ¬ DerivedOn v furnace (place_of l)

-- With the ground: for a literal that a furnace derives without conflict, whose ground is of candidates alone, some listed set lies inside its
-- ground.
abbrev pub ListedInGround : Type 0
ListedInGround =
    (w : World) (lent some furnace : ℕ) (cands : List ℤ) (l : ℤ) (sets marks : List ℕ) → outcome w (lists lent cands l sets) ≡ Ok tt
    → outcome w (grounds some furnace l marks) ≡ Ok tt → conflict (derived_set w furnace) ≡ false
    → ((h : ℕ) → InGround w some furnace l marks h → In h (places_of cands))
    → (m : ℕ) × In m (list_written w lent cands l sets) × ((h : ℕ) → In h (chosen (places_of cands) m) → InGround w some furnace l marks h)

-- a table of 4,096 places is never too short
abbrev pub ListRoom : Type 0
ListRoom =
    (w : World) (lent : ℕ) (cands : List ℤ) (l : ℤ) (sets : List ℕ) → 4096 ≤ length sets → number_in (outcome w (lists lent cands l sets)) ≢ 13

-- ---- 02, Ticket 11: "Ask by symbol when the board is in conflict."

-- the label of a symbol of which only this literal is derived, and of which only the opposite is: 01, "1 only +s, 2 only −s"
abbrev pub only_this : ℤ → ℕ
only_this (pos s) = 1
only_this (negsuc k) = 2

abbrev pub only_opposite : ℤ → ℕ
only_opposite (pos s) = 2
only_opposite (negsuc k) = 1

-- how a literal stands is what its symbol's label says
pub record ByLabel (how : Result Standing Refusal) (l : ℤ) (label : ℕ) : Type 0 where
  pub conflict : (how ≡ Ok Conflict) ↔ (label ≡ 3)
  pub stands : (how ≡ Ok Stands) ↔ (label ≡ only_this l)
  pub ruled_out : (how ≡ Ok RuledOut) ↔ (label ≡ only_opposite l)
  pub is_open : (how ≡ Ok Open) ↔ (label ≡ 0)

-- "By default ask shall answer conflict only where the literal and its opposite are both derived; otherwise stands, ruled out or open": on every
-- board, in conflict or not, by the label that settle writes for the symbol
abbrev pub AskByLabel : Type 0
AskByLabel =
    (w : World) (lent some furnace : ℕ) (l : ℤ) (labels ranks supports : List ℕ) → outcome w (asks lent furnace l) ≡ Ok tt
    → outcome w (settles some furnace labels ranks supports) ≡ Ok tt
    → ByLabel (asked (front w lent) w.board furnace l) l
    (get_or (settled_labels (front w some) w.board furnace labels ranks supports) (nat_abs l - 1) 0)

-- "One bad flue reading .. blanks the screen" no more. As long as the board is not opened anew and a furnace keeps the premises that it held,
-- whatever else is called, a literal that stands for it stands on, until its opposite is derived too; then it is in conflict
abbrev pub StandsOn : Type 0
StandsOn =
    (w : World) (lent some furnace : ℕ) (l : ℤ) (calls : List Call) → asked (front w lent) w.board furnace l ≡ Ok Stands
    → Each (Spares furnace (λ h. has (premises_of w furnace) h ≡ true)) w calls
    → let v = run w calls in
    outcome v (asks some furnace l) ≡ Ok tt
    → asked (front v some) v.board furnace l ≡ Ok (cond (has (derived_set v furnace) (opp (place_of l))) Conflict Stands)

-- "The old answer stays as a second call."
pub record SecondCall (w : World) (lent furnace : ℕ) (l : ℤ) : Type 0 where
  -- it is done and refused as ask is;
  pub outcomes : outcome w (asks_whole lent furnace l) ≡ outcome w (asks lent furnace l)
  -- outside a conflict it answers as ask does, refusals included;
  pub alike : conflict (derived_set w furnace) ≡ false → answer w (asks_whole lent furnace l) ≡ answer w (asks lent furnace l)
  -- in one it answers conflict for every literal for which it is not refused
  pub hides : conflict (derived_set w furnace) ≡ true → outcome w (asks_whole lent furnace l) ≡ Ok tt
      → answer w (asks_whole lent furnace l) ≡ of_ask (Ok Conflict)

abbrev pub OldAnswer : Type 0
OldAnswer = (w : World) (lent furnace : ℕ) (l : ℤ) → SecondCall w lent furnace l

-- ---- 02, Ticket 12: "What is the least we must withdraw?"

-- the set that the call answers with
abbrev pub least_set : World → (lent furnace : ℕ) → (cands : List ℤ) → ℕ
least_set w lent furnace cands = (least_answer (front w lent) w.board furnace cands).set

-- "the smallest set of them whose withdrawal ends the conflict; of equal size, the one with the smallest number", by the rows in the table and the
-- premises that the furnace holds
abbrev pub LeastTells : Type 0
LeastTells =
    (w : World) (lent furnace : ℕ) (cands : List ℤ) → outcome w (asks_least lent furnace cands) ≡ Ok tt
    → Least (2 * w.board.symbols) (rows_of_world w) (premises_of w furnace) (places_of cands) (least_set w lent furnace cands)

-- "the empty set if there is no conflict", and then alone
abbrev pub EmptySet : Type 0
EmptySet =
    (w : World) (lent furnace : ℕ) (cands : List ℤ) → outcome w (asks_least lent furnace cands) ≡ Ok tt
    → (least_set w lent furnace cands ≡ 0) ↔ (conflict (derived_set w furnace) ≡ false)

-- the calls that withdraw literals from a furnace, one after the other
abbrev pub withdraw_each : (lent furnace : ℕ) → (gone : List ℤ) → List Call
withdraw_each lent furnace gone = map (λ l. withdraws lent furnace l) gone

-- every withdrawal is good, and after the last the furnace is in conflict or not, as `left` tells
pub record Withdrawn (w : World) (lent furnace : ℕ) (gone : List ℤ) (left : Bool) : Type 0 where
  pub good : Each (λ v c. outcome v c ≡ Ok tt) w (withdraw_each lent furnace gone)
  pub in_conflict : conflict (derived_set (run w (withdraw_each lent furnace gone)) furnace) ≡ left

-- 02, Ticket 14: no withdrawal of these is refused for the sake of the record
pub record Unstacked (w : World) (furnace : ℕ) (gone : List ℤ) : Type 0 where
  pub good : good_stacks w.board w.stacks ≡ true
  pub free : (l : ℤ) → In l gone → stacked w.stacks furnace l ≡ false

-- once exactly the set's candidates are withdrawn, one after the other, there is no conflict;
abbrev pub SetEnds : Type 0
SetEnds =
    (w : World) (lent furnace : ℕ) (cands : List ℤ) → outcome w (asks_least lent furnace cands) ≡ Ok tt → Unstacked w furnace cands
    → Withdrawn w lent furnace (chosen cands (least_set w lent furnace cands)) false

-- nor if they are in any order, and other candidates with them: any that are different, with all of the set's among them
abbrev pub MoreEnds : Type 0
MoreEnds =
    (w : World) (lent furnace : ℕ) (cands gone : List ℤ) → outcome w (asks_least lent furnace cands) ≡ Ok tt → Unstacked w furnace cands
    → repeats (places_of gone) ≡ false → ((l : ℤ) → In l gone → In l cands)
    → ((l : ℤ) → In l (chosen cands (least_set w lent furnace cands)) → In l gone)
    → Withdrawn w lent furnace gone false

-- once the candidates of a smaller set are withdrawn, one after the other, or those of one of equal size with a smaller number, the conflict is left
abbrev pub SmallerLeaves : Type 0
SmallerLeaves =
    (w : World) (lent furnace : ℕ) (cands : List ℤ) (a : ℕ) → outcome w (asks_least lent furnace cands) ≡ Ok tt → Unstacked w furnace cands
    → a < 2 ^ length cands → BySize (size (length cands)) (λ x y. x < y) a (least_set w lent furnace cands)
    → Withdrawn w lent furnace (chosen cands a) true

-- "18 exactly when withdrawing all of them leaves the conflict": where the call is refused so it is left, and where it is done it is not. (That the
-- tests before come first, and no other case, is `RefusedExactly`.)
pub record Stays (w : World) (lent furnace : ℕ) (cands : List ℤ) : Type 0 where
  pub refused : number_in (outcome w (asks_least lent furnace cands)) ≡ 18 → Withdrawn w lent furnace cands true
  pub done : outcome w (asks_least lent furnace cands) ≡ Ok tt → Withdrawn w lent furnace cands false

abbrev pub StaysExactly : Type 0
StaysExactly = (w : World) (lent furnace : ℕ) (cands : List ℤ) → Unstacked w furnace cands → Stays w lent furnace cands

-- ---- 02, Ticket 13: "Valves with several positions."

-- what was entered since the last open
abbrev pub entered_since : World → ℕ → List Call → List Entry
entered_since w₀ S calls = entries_after_all w₀ [] (opens S ∷ calls)

-- each entry is of the board's symbols and has the form that the calls ask for
abbrev pub EntriesSuit : Type 0
EntriesSuit = (w₀ : World) (S : ℕ) (calls : List Call) → all (suits (since w₀ S calls).board.symbols) (entered_since w₀ S calls) ≡ true

-- "a board with only such rules": the rules accepted since the last open are those of what was entered since, and none came from bytes or a text
abbrev pub OnlySuch : World → ℕ → List Call → Type 0
OnlySuch w₀ S calls = accepted_since w₀ S calls ≡ formulae_of_all (entered_since w₀ S calls)

-- "where each variable is entered once, no two share a symbol, pair tables join entered variables and premises are of their symbols" (`Fitting`), the
-- premises that the furnace holds: "conflict exactly when removing positions without an allowed partner, repeated until none is left to remove,
-- empties some variable; otherwise a position is ruled out exactly when it is removed", as both compute
abbrev pub ValvesRemove : Type 0
ValvesRemove =
    (w₀ : World) (S : ℕ) (calls : List Call) (furnace : ℕ)
    → let w = since w₀ S calls in
    let entries = entered_since w₀ S calls in
    OnlySuch w₀ S calls → Fitting entries (premises_of w furnace)
    → SameRemoved w.board.symbols entries (derived_set w furnace) (premises_of w furnace)

-- and as the calls tell it: ask, of the whole board, a conflict; and otherwise ask, of a position, that it is ruled out
pub record ToldOfValves (w : World) (lent furnace : ℕ) (entries : List Entry) : Type 0 where
  pub conflict : (l : ℤ) → outcome w (asks_whole lent furnace l) ≡ Ok tt
      → (asked_whole (front w lent) w.board furnace l ≡ Ok Conflict) ↔ Emptied entries (premises_of w furnace)
  pub ruled_out : ¬ Emptied entries (premises_of w furnace) → (x : Variable) (i : ℕ) → In (positions x) entries → i < x.count
      → let l = pos (symbol_at x i) in
      outcome w (asks lent furnace l) ≡ Ok tt
      → (asked (front w lent) w.board furnace l ≡ Ok RuledOut) ↔ Removed entries (premises_of w furnace) x i

abbrev pub ValvesTold : Type 0
ValvesTold =
    (w₀ : World) (S : ℕ) (calls : List Call) (lent furnace : ℕ)
    → let w = since w₀ S calls in
    OnlySuch w₀ S calls → Fitting (entered_since w₀ S calls) (premises_of w furnace)
    → ToldOfValves w lent furnace (entered_since w₀ S calls)

-- ---- demand 1: a board that the calls made is a good one

-- Refusal 1 is for "S is outside 1 to 200, rows in use exceed rows lent, a row in use isn't sound, or a held premise is of a symbol
-- beyond S", and "also for a count above 32,767". After a good open and any calls but an open none of these is so, by the whole table and of either
-- furnace's premises: a caller who lends it whole to the next call never meets refusal 1.
abbrev pub StaysGood : Type 0
StaysGood =
    (w₀ : World) (S : ℕ) (calls : List Call) → leb 1 S && leb S 200 ≡ true → all not_open calls ≡ true
    → let w = since w₀ S calls in good_board w.table w.board ≡ true

-- ---- 02, Ticket 14: "Try a reading and take it back."

-- what is so of every world since a good open, the calls being no opens: the one record is lent to every call, and written by nobody else
abbrev pub AlwaysSince : (World → Type 0) → Type 0
AlwaysSince So =
    (w₀ : World) (S : ℕ) (calls : List Call) → leb 1 S && leb S 200 ≡ true → all not_open calls ≡ true → So (since w₀ S calls)

-- Refusal 1 is "also .. when either stack has more than 2S literals, a repeated one or one its furnace doesn't hold": no caller who lends the record
-- to each call meets it
abbrev pub StacksStayGood : Type 0
StacksStayGood = AlwaysSince (λ w. good_stacks w.board w.stacks ≡ true)

-- what is stacked is held
abbrev pub StackedHeld : Type 0
StackedHeld =
    AlwaysSince (λ w. (furnace : ℕ) (l : ℤ) → In l (on_stack (stack_of w.stacks furnace)) → has (premises_of w furnace) (place_of l) ≡ true)

-- and beyond the stacks there are zeros
abbrev pub ZerosBeyond : Type 0
ZerosBeyond =
    AlwaysSince
    (λ w. (furnace : ℕ) → let s = stack_of w.stacks furnace in drop s.count s.literals ≡ replicate (400 - s.count) (pos 0))

-- "A stacked premise can't be withdrawn except by pop": a call that is done, and no open, and takes a stacked premise from its furnace is a pop
abbrev pub OnlyPop : Type 0
OnlyPop =
    (w : World) (c : Call) (furnace : ℕ) (l : ℤ) → outcome w c ≡ Ok tt → not_open c ≡ true → stacked w.stacks furnace l ≡ true
    → takes w furnace (place_of l) c ≡ true → (lent : ℕ) × (c ≡ pops lent furnace)

-- "After a pop the labels are those of the premises still held and the rules then in the table": v is w with the top of the furnace's stack
-- withdrawn, for it alone, and what settle writes, for either furnace, is of v. (For any board, table and record, so after every sequence too.)
pub record StillHeld (w v : World) (furnace : ℕ) : Type 0 where
  pub table : v.table ≡ w.table
  pub symbols : v.board.symbols ≡ w.board.symbols
  pub rows : v.board.rows ≡ w.board.rows
  pub own : premises_of v furnace ≡ set (premises_of w furnace) (place_of (top (stack_of w.stacks furnace))) false
  pub others : (other : ℕ) → furnace ≢ other → premises_of v other ≡ premises_of w other
  pub settle : (lent named : ℕ) (labels ranks supports : List ℕ) → outcome v (settles lent named labels ranks supports) ≡ Ok tt
      → Tells v named (settled_labels (front v lent) v.board named labels ranks supports)
      (settled_ranks (front v lent) v.board named labels ranks supports)
      (settled_supports (front v lent) v.board named labels ranks supports)

abbrev pub PopTells : Type 0
PopTells = (w : World) (lent furnace : ℕ) → outcome w (pops lent furnace) ≡ Ok tt → StillHeld w (after w (pops lent furnace)) furnace

-- calls that push and pop evenly for this furnace, where so many of its tries are begun and not yet taken back; whatever else they do, they open no
-- board, and hold and withdraw for the other furnace alone
pub data Even (furnace : ℕ) : (begun : ℕ) → World → List Call → Type 0 where
  over : {w : World} → Even furnace 0 w []
  begin : {w : World} {begun : ℕ} {calls : List Call} (lent : ℕ) (l : ℤ) → outcome w (pushes lent furnace l) ≡ Ok tt
      → Even furnace (suc begun) (after w (pushes lent furnace l)) calls → Even furnace begun w (pushes lent furnace l ∷ calls)
  back : {w : World} {begun : ℕ} {calls : List Call} (lent : ℕ) → outcome w (pops lent furnace) ≡ Ok tt
      → Even furnace begun (after w (pops lent furnace)) calls → Even furnace (suc begun) w (pops lent furnace ∷ calls)
  other : {w : World} {begun : ℕ} {calls : List Call} (c : Call) → not_open c ≡ true
      → (outcome w c ≡ Ok tt → changes_premises c && names_furnace furnace c ≡ false)
      → Even furnace begun (after w c) calls → Even furnace begun w (c ∷ calls)

-- a furnace holds what it held, and its stack is what it was
pub record GivenBack (w v : World) (furnace : ℕ) : Type 0 where
  pub premises : premises_of v furnace ≡ premises_of w furnace
  pub stack : stack_of v.stacks furnace ≡ stack_of w.stacks furnace

-- after a good open and any calls, even ones give back the premises and the stack,
abbrev pub EvenGivesBack : Type 0
EvenGivesBack = AlwaysSince (λ w. (furnace : ℕ) (calls : List Call) → Even furnace 0 w calls → GivenBack w (run w calls) furnace)

-- and so do a push, even calls and then its pop: nested tries are taken back in their order, whatever rules are added in between
abbrev pub TryGivesBack : Type 0
TryGivesBack =
    AlwaysSince
    (λ w.
    (furnace lent some : ℕ) (l : ℤ) (calls : List Call) → outcome w (pushes lent furnace l) ≡ Ok tt
    → let tried = after w (pushes lent furnace l) in
    let before = run tried calls in
    Even furnace 0 tried calls → outcome before (pops some furnace) ≡ Ok tt
    → (top (stack_of before.stacks furnace) ≡ l) × GivenBack w (after before (pops some furnace)) furnace)

-- For a caller that never stacks nothing is new: lent a record with nothing on either stack, withdraw answers and leaves as 01 has it
abbrev pub NeverStacked : Type 0
NeverStacked =
    (w : World) (lent furnace : ℕ) (l : ℤ) → w.stacks.first.count ≡ 0 → w.stacks.second.count ≡ 0
    → (outcome w (withdraws lent furnace l) ≡ (withdraw_answer (front w lent) w.board furnace l).outcome)
    × (after w (withdraws lent furnace l)
    ≡ record { board = (withdraw_answer (front w lent) w.board furnace l).board; table = w.table; stacks = w.stacks })
