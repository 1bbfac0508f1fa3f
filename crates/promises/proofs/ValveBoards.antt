-- 02, Ticket 13, on small boards: valves entered one after the other, the refusals in their order, and the edges of the table and of the count of
-- rules. And that there are boards such as the promise speaks of: all that it asks for is so of one of these.
use Rattle.meaning.proofs.Kit.{◌≡◌, ◌∙◌, sym, ap, refl, ⊎_elim, inl, inr, ◌⊎◌, true, false, Bool, List, [], ◌∷◌, ◌++◌, map, In, here, there, in_nil}
use Rattle.meaning.proofs.Kit.{in_cons, ℕ, ◌<◌, ◌+◌, suc, zero, ◌^◌, arith, ℤ, pos, negsuc, length, replicate}
use Rattle.meaning.specs.Literals.{place, has}
use Rattle.positions.specs.Positions.{Variable, symbol_at, PairTable, Entry, positions, pairs, formulae_of_all}
use Rattle.positions.specs.Promises.{Fitting}
use Rattle.meaning.proofs.Tests.{clash}
use Rattle.literals.specs.Row.{Ruled}
use Rattle.literals.specs.declared.refusal.Refusal.{Refusal}
use Rattle.literals.specs.declared.refusal.Refusal.TheVariants.{BadBoard, BadLiteral, NoAssignment, TableFull, BadPositions}
use Rattle.board.specs.Changes.{empty_board}
use Rattle.board.specs.Rules.{no_place}
use Rattle.std.specs.Prelude.{Ok, Err}
use Rattle.board.specs.declared.asking.Standing.TheVariants.{Conflict, Stands, RuledOut, Open}
use Rattle.positions.specs.Entering.{variable_of, pairs_of}
use Rattle.stack.specs.Stacking.{empty_stacks}
use Rattle.promises.specs.Calls.{Call, opens, enters, holds, asks, asks_whole, World, Answer, of_addition, of_ask, answer, run}
use Rattle.promises.specs.Demands.{premises_of, ruled_rows, since, accepted_since, entered_since, OnlySuch, ToldOfValves}
use Rattle.promises.proofs.Boards.{lent, fresh, forth, AllHold}
use Rattle.promises.proofs.NumberedBoards.{counted_so}
use Rattle.promises.proofs.Valves.{valves_told}
use Rattle.meaning.proofs.Names.{plus, minus}
use Rattle.promises.proofs.Computing.{the_definitions}

-- ---- the calls

-- a valve of two positions; and two of them, of which the allowed pairs are these: no two alike, bits 1 and 7, or only two alike, bits 0 and 8
abbrev valve : (first : ℕ) → Entry
valve first = variable_of first 2

abbrev unlike : (one other : ℕ) → Entry
unlike one other = pairs_of one 2 other 2 (2 + 128)

abbrev alike : (one other : ℕ) → Entry
alike one other = pairs_of one 2 other 2 (1 + 256)

abbrev enter : Entry → Call
enter e = enters lent e

-- two valves that are never in the same position: eight rows, as many as are lent
abbrev unlike_valves : List Call → List Call
unlike_valves calls = enter (valve 1) ∷ enter (valve 3) ∷ enter (unlike 1 3) ∷ calls

-- for furnace 2
abbrev hold : ℤ → Call
hold l = holds lent 2 l

abbrev ask : ℤ → Call
ask l = asks lent 2 l

abbrev ask_whole : ℤ → Call
ask_whole l = asks_whole lent 2 l

-- three valves in a chain, each in the position of the one before it: 14 rows
abbrev chain_lent : ℕ
chain_lent = 126

abbrev chain_table : World
chain_table = record { board = empty_board 0; table = replicate chain_lent (pos 0); stacks = empty_stacks }

abbrev chain : List Call
chain =
    opens 6 ∷ enters chain_lent (valve 1) ∷ enters chain_lent (valve 3) ∷ enters chain_lent (valve 5)
    ∷ enters chain_lent (alike 1 3) ∷ enters chain_lent (alike 3 5) ∷ holds chain_lent 2 (pos 6) ∷ []

-- ---- what they answer

abbrev taken : (rows : ℕ) → Answer
taken rows = of_addition (Ok tt) no_place rows

abbrev refused : Refusal → Answer
refused why = of_addition (Err why) no_place 0

-- on a board of four symbols with two valves, which are four rows
abbrev refusals : List (Call × Answer)
refusals =
    -- 1: fewer rows are lent than are in use
    (enters 27 (valve 1), refused BadBoard)
    -- 2: the first symbol is 0 or beyond S, or the last is beyond S; of a pair table's second variable too
    ∷ (enter (variable_of 0 2), refused BadLiteral)
    ∷ (enter (variable_of 5 2), refused BadLiteral)
    ∷ (enter (variable_of 4 2), refused BadLiteral)
    ∷ (enter (pairs_of 0 2 3 2 1), refused BadLiteral)
    ∷ (enter (pairs_of 1 2 0 2 1), refused BadLiteral)
    ∷ (enter (pairs_of 1 2 5 2 1), refused BadLiteral)
    ∷ (enter (pairs_of 1 2 4 2 1), refused BadLiteral)
    -- ahead of 19: with no position, the first symbol may be none of the board's; with eight, the last is beyond S
    ∷ (enter (variable_of 0 0), refused BadLiteral)
    ∷ (enter (variable_of 5 0), refused BadLiteral)
    ∷ (enter (variable_of 1 8), refused BadLiteral)
    -- 19: "a count outside 2 to 7"
    ∷ (enter (variable_of 1 0), refused BadPositions)
    ∷ (enter (variable_of 4 1), refused BadPositions)
    ∷ (enter (pairs_of 1 1 3 2 1), refused BadPositions)
    ∷ (enter (pairs_of 1 2 3 0 1), refused BadPositions)
    -- "or a pair table whose two variables share a symbol": one, or both, in either order
    ∷ (enter (pairs_of 1 2 2 2 1), refused BadPositions)
    ∷ (enter (pairs_of 3 2 2 2 1), refused BadPositions)
    ∷ (enter (pairs_of 1 2 1 2 1), refused BadPositions)
    -- 8: "allows no pair", with "other bits ignored": 2 and 9 are of a third position of the second valve, 14 of one of the first, 63 of none
    ∷ (enter (pairs_of 1 2 3 2 0), refused NoAssignment)
    ∷ (enter (pairs_of 1 2 3 2 (2 ^ 2 + 2 ^ 9 + 2 ^ 14 + 2 ^ 63)), refused NoAssignment)
    -- 9: there is room for three rows of four, or for one of two
    ∷ (enters 63 (unlike 1 3), refused TableFull)
    ∷ (enters 45 (valve 1), refused TableFull)
    ∷ []

-- all of them at once, and then one fewer each time
abbrev in_order_lem : List (Call × Answer)
in_order_lem =
    (enters 27 (pairs_of 5 1 5 1 0), refused BadBoard)
    ∷ (enters 36 (pairs_of 5 1 5 1 0), refused BadLiteral)
    ∷ (enters 36 (pairs_of 4 1 4 1 0), refused BadPositions)
    ∷ (enters 36 (pairs_of 1 2 3 2 0), refused NoAssignment)
    ∷ (enters 36 (unlike 1 3), refused TableFull)
    ∷ []

abbrev two_valves : List Call
two_valves = opens 4 ∷ enter (valve 1) ∷ enter (valve 3) ∷ []

abbrev boards : List (World × List Call × List (Call × Answer))
boards =
    -- the first valve is in its first position, at furnace 2: its second is ruled out, and so is the first of the other; at furnace 1 they are open
    (
      fresh,
      opens 4 ∷ unlike_valves (hold (pos 1) ∷ []),
      (ask (pos 2), of_ask (Ok RuledOut))
          ∷ (ask (pos 3), of_ask (Ok RuledOut))
          ∷ (ask (pos 4), of_ask (Ok Stands))
          ∷ (ask_whole (pos 3), of_ask (Ok RuledOut))
          ∷ (asks lent 1 (pos 3), of_ask (Ok Open))
          ∷ [],
    )
    -- "−s its own": the valve is in its other position
    ∷ (
      fresh,
      opens 4 ∷ unlike_valves (hold (negsuc 0) ∷ []),
      (ask (pos 1), of_ask (Ok RuledOut)) ∷ (ask (pos 4), of_ask (Ok RuledOut)) ∷ (ask (pos 3), of_ask (Ok Stands)) ∷ [],
    )
    -- both valves in their first position: that empties them, as "holding both" does
    ∷ (
      fresh,
      opens 4 ∷ unlike_valves (hold (pos 1) ∷ hold (pos 3) ∷ []),
      (ask_whole (pos 2), of_ask (Ok Conflict)) ∷ (asks_whole lent 1 (pos 2), of_ask (Ok Open)) ∷ [],
    )
    ∷ (fresh, opens 4 ∷ unlike_valves (hold (pos 4) ∷ hold (negsuc 3) ∷ []), (ask_whole (pos 1), of_ask (Ok Conflict)) ∷ [])
    -- a position without an allowed partner is ruled out with nothing held
    ∷ (
      fresh,
      opens 4 ∷ enter (valve 1) ∷ enter (valve 3) ∷ enter (pairs_of 1 2 3 2 1) ∷ [],
      (ask (pos 2), of_ask (Ok RuledOut)) ∷ (ask (pos 4), of_ask (Ok RuledOut)) ∷ (ask (pos 1), of_ask (Ok Stands)) ∷ [],
    )
    -- the last valve of the chain is in its second position, and so are all
    ∷ (
      chain_table,
      chain,
      (asks chain_lent 2 (pos 1), of_ask (Ok RuledOut)) ∷ (asks chain_lent 2 (pos 2), of_ask (Ok Stands)) ∷ (asks chain_lent 2 (pos 3), of_ask (Ok RuledOut)) ∷ [],
    )
    -- the refusals; on a board that is not opened; and for eight positions, which takes more symbols
    ∷ (fresh, two_valves, refusals ++ in_order_lem)
    ∷ (fresh, [], (enter (valve 1), refused BadBoard) ∷ [])
    ∷ (fresh, opens 10 ∷ [], (enter (variable_of 1 8), refused BadPositions) ∷ (enter (pairs_of 1 2 3 8 1), refused BadPositions) ∷ [])
    -- where there is just room for the rows
    ∷ (fresh, opens 4 ∷ [], (enters 18 (valve 1), taken 2) ∷ (enters 36 (unlike 3 1), taken 4) ∷ [])
    -- "9, here also when the rule count would pass 32,767": a variable is one rule, this pair table four
    ∷ (counted_so 4 32766, [], (enter (valve 1), taken 2) ∷ (enter (unlike 1 3), refused TableFull) ∷ [])
    ∷ (counted_so 4 32767, [], (enter (valve 1), refused TableFull) ∷ (enter (pairs_of 1 2 3 2 0), refused NoAssignment) ∷ [])
    ∷ (counted_so 4 32763, [], (enter (unlike 1 3), taken 4) ∷ [])
    ∷ (counted_so 4 32764, [], (enter (unlike 1 3), refused TableFull) ∷ [])
    ∷ (counted_so 4 32768, [], (enter (valve 1), refused BadBoard) ∷ [])
    ∷ []

valve_boards_hold : AllHold answer boards
unfolding the_definitions
valve_boards_hold = refl

-- "wholly or not at all": refused, one after the other, they leave the board and the table
nothing_entered : run fresh (two_valves ++ map (λ q. q.0) in_order_lem) ≡ run fresh two_valves
unfolding the_definitions
nothing_entered = refl

-- ---- the rows, with the numbers of their rules

abbrev of_rule_lem : ℕ → List ℕ → Ruled
of_rule_lem rule row = record { rule = rule; row = row }

-- a valve's are one rule, a pair table's four, "the first variable's before the second's", and the numbers go on up to the highest
rows_numbered :
    (ruled_rows (run fresh (opens 4 ∷ unlike_valves [])) ≡
    of_rule_lem 1 (plus 1 ∷ plus 2 ∷ []) ∷ of_rule_lem 1 (minus 1 ∷ minus 2 ∷ [])
    ∷ of_rule_lem 2 (plus 3 ∷ plus 4 ∷ []) ∷ of_rule_lem 2 (minus 3 ∷ minus 4 ∷ [])
    ∷ of_rule_lem 3 (minus 1 ∷ plus 4 ∷ []) ∷ of_rule_lem 4 (minus 2 ∷ plus 3 ∷ [])
    ∷ of_rule_lem 5 (plus 2 ∷ minus 3 ∷ []) ∷ of_rule_lem 6 (plus 1 ∷ minus 4 ∷ []) ∷ [])
    × (ruled_rows (run (counted_so 4 32763) (enter (unlike 3 1) ∷ [])) ≡
    of_rule_lem 32764 (plus 2 ∷ minus 3 ∷ []) ∷ of_rule_lem 32765 (plus 1 ∷ minus 4 ∷ [])
    ∷ of_rule_lem 32766 (minus 1 ∷ plus 4 ∷ []) ∷ of_rule_lem 32767 (minus 2 ∷ plus 3 ∷ []) ∷ [])
unfolding the_definitions
rows_numbered = (refl, refl)

-- ---- what was entered, and whether there are other rules

-- an open forgets it, and a refused entry is none
entered_since_lem :
    (entered_since fresh 4 (unlike_valves (enter (valve 4) ∷ [])) ≡ valve 1 ∷ valve 3 ∷ unlike 1 3 ∷ [])
    × (entered_since fresh 4 (unlike_valves (opens 4 ∷ enter (valve 1) ∷ [])) ≡ valve 1 ∷ [])
unfolding the_definitions
entered_since_lem = (refl, refl)

-- with a rule in bytes besides, the board has others
others_too : ¬ OnlySuch fresh 4 (enter (valve 1) ∷ forth ∷ [])
unfolding the_definitions
others_too e = let lengths : ◌≡◌ {A = ℕ} 2 1 = ap length e in omega arith

-- ---- a board such as the promise speaks of

-- the two valves, and the first held in its first position at furnace 2
abbrev calls : List Call
calls = unlike_valves (hold (pos 1) ∷ [])

abbrev entries : List Entry
entries = valve 1 ∷ valve 3 ∷ unlike 1 3 ∷ []

abbrev held : List Bool
held = true ∷ replicate 399 false

as_computed :
    (accepted_since fresh 4 calls ≡ formulae_of_all entries) × (entered_since fresh 4 calls ≡ entries) × (premises_of (since fresh 4 calls) 2 ≡ held)
unfolding the_definitions
as_computed = (refl, refl, refl)

-- "a board with only such rules"
only_valves : OnlySuch fresh 4 calls
only_valves = as_computed.0 ∙ ap formulae_of_all (sym as_computed.1)

-- its variables and its pair table
abbrev first_valve : Variable
first_valve = record { first = 1; count = 2 }

abbrev second_valve_lem : Variable
second_valve_lem = record { first = 3; count = 2 }

abbrev its_table : PairTable
its_table = record { one = first_valve; other = second_valve_lem; allowed = 2 + 128 }

no_table : {X : Type 0} (x : Variable) (t : PairTable) → positions x ≡ pairs t → X
no_table x t e = let z : ◌≡◌ {A = ℕ} 0 1 = cc in absurd (omega arith)

entered_variable : (x : Variable) → In (positions x) entries → (x ≡ first_valve) ⊎ (x ≡ second_valve_lem)
entered_variable x m = ⊎_elim (λ e. inl (cc)) (λ n. ⊎_elim (λ e. inr (cc)) last (in_cons n)) (in_cons m)
  where
    last : In (positions x) (unlike 1 3 ∷ []) → (x ≡ first_valve) ⊎ (x ≡ second_valve_lem)
    last n = ⊎_elim (no_table x its_table) (λ k. absurd (in_nil k)) (in_cons n)

entered_table_lem : (t : PairTable) → In (pairs t) entries → t ≡ its_table
entered_table_lem t m =
    ⊎_elim (λ e. no_table first_valve t (sym e)) (λ n. ⊎_elim (λ e. no_table second_valve_lem t (sym e)) last (in_cons n)) (in_cons m)
  where
    last : In (pairs t) (unlike 1 3 ∷ []) → t ≡ its_table
    last n = ⊎_elim (λ e. cc) (λ k. absurd (in_nil k)) (in_cons n)

none_held : (n p : ℕ) → has (replicate n false) p ≡ false
none_held zero p = refl
none_held (suc n) zero = refl
none_held (suc n) (suc p) = none_held n p

-- "each variable is entered once, no two share a symbol, pair tables join entered variables and premises are of their symbols"
fitting : Fitting entries held
fitting = record { apart = apart; joined = joined; premises = premises }
  where
    apart : (x y : Variable) (i j : ℕ) → In (positions x) entries → In (positions y) entries → i < x.count → j < y.count
        → symbol_at x i ≡ symbol_at y j → x ≡ y
    apart x y i j m n low high same = go (entered_variable x m) (entered_variable y n)
      where
        go : (x ≡ first_valve) ⊎ (x ≡ second_valve_lem) → (y ≡ first_valve) ⊎ (y ≡ second_valve_lem) → x ≡ y
        go (inl e) (inl f) = e ∙ sym f
        go (inl e) (inr f) = absurd (omega (arith, same, low, ap (λ v. v.first) e, ap (λ v. v.count) e, ap (λ v. v.first) f))
        go (inr e) (inl f) = absurd (omega (arith, same, high, ap (λ v. v.first) e, ap (λ v. v.first) f, ap (λ v. v.count) f))
        go (inr e) (inr f) = e ∙ sym f

    joined : (t : PairTable) → In (pairs t) entries → In (positions t.one) entries × In (positions t.other) entries
    joined t m = rw (entered_table_lem t m) (here refl, there (here refl))

    premises : (p : ℕ) → has held p ≡ true
        → (x : Variable) × (i : ℕ) × (b : Bool) × In (positions x) entries × (i < x.count) × (p ≡ place (symbol_at x i) b)
    premises zero e = (first_valve, 0, true, here refl, omega arith, refl)
    premises (suc p) e = clash e (none_held 399 p)

-- so what is promised is so of it
promised : ToldOfValves (since fresh 4 calls) lent 2 (entered_since fresh 4 calls)
promised = valves_told fresh 4 calls lent 2 only_valves (rw (as_computed.1, as_computed.2) fitting)
