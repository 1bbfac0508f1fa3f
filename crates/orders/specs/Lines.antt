-- What a line is: the call that it makes, what it does to the desk itself, or why it is not taken. Words are looked at from the front.
use Rattle.std.specs.Prelude.{ℕ, cond, List, ltb, ℤ, length, Result, Ok, Err}
use Rattle.names.specs.Names.{is_name}
use Rattle.names.specs.Replacing.{replaced}
use Rattle.positions.specs.Entering.{variable_of, pairs_of}
use Rattle.promises.specs.Calls.{Call, adds_text, enters, holds, withdraws, pushes, pops}
use Rattle.orders.specs.Words.{rest_at, word_at, ends_at}
use Rattle.orders.specs.Reading.{number_in, symbol_in, literal_in}
use Rattle.orders.specs.Marks.{table_fits, pairs_in}
use Rattle.orders.specs.Orders.{order_of}
use Rattle.orders.specs.declared.Slip.{Slip}
use Rattle.orders.specs.declared.Slip.TheVariants.{LineTooLong, UnknownWord, NameDue, MarksDue, WordTooMany}
use Rattle.orders.specs.declared.taking.LiteralCall.{LiteralCall}
use Rattle.orders.specs.declared.taking.LiteralCall.TheVariants.{Hold as ToHold, Drop as ToDrop, Push as ToPush}
use Rattle.orders.specs.declared.order.Order.{Order}
use Rattle.orders.specs.declared.order.Order.TheVariants.{Open, Name, Rule, Hold, Drop, Push, Pop, Valve, Pairs, Furnace, Ask, Why, Ground}
use Rattle.orders.specs.declared.order.Order.TheVariants.{Marks, Blame, Least, Sets, Rows, Cnf, Echo, Help, Unknown, Nothing}

-- an open, a name and a choice of furnace are the desk's own too; a line that asks changes nothing, as the call that it makes does not; of a slip the
-- number of the word at fault is told
pub data Line : Type 0 where
  opening : (symbols : ℕ) → Line
  naming : (symbol : ℕ) (word : List ℕ) → Line
  working : (furnace : ℕ) → Line
  calling : Call → Line
  asking : Line
  slipping : Slip → (word : ℕ) → Line
  resting : Line

-- word k is a number, or it is at fault
abbrev pub by_number : Result ℕ Slip → (k : ℕ) → (ℕ → Line) → Line
by_number (Ok n) k next = next n
by_number (Err slip) k next = slipping slip k

abbrev pub by_literal : Result ℤ Slip → (k : ℕ) → (ℤ → Line) → Line
by_literal (Ok l) k next = next l
by_literal (Err slip) k next = slipping slip k

-- there is no word k
abbrev pub ended : (k : ℕ) → List ℕ → Line → Line
ended k line whole = cond (ends_at k line) whole (slipping WordTooMany k)

-- ---- the lines; `lent` numbers of the table are lent to each call

abbrev pub open_line : List ℕ → Line
open_line line = by_number (number_in (word_at 1 line)) 1 (λ n. ended 2 line (opening n))

abbrev pub name_line : (names : List ℕ) → List ℕ → Line
name_line names line =
    by_number (symbol_in names (word_at 1 line)) 1
    (λ s. cond (is_name (word_at 2 line)) (ended 3 line (naming s (word_at 2 line))) (slipping NameDue 2))

abbrev pub rule_line : (lent : ℕ) → (names : List ℕ) → List ℕ → Line
rule_line lent names line = calling (adds_text lent (replaced names (rest_at 1 line)))

-- the call of a line with one literal, by which of the three it is
abbrev pub literal_call : LiteralCall → (lent furnace : ℕ) → ℤ → Call
literal_call ToHold lent furnace l = holds lent furnace l
literal_call ToDrop lent furnace l = withdraws lent furnace l
literal_call ToPush lent furnace l = pushes lent furnace l

abbrev pub literal_line : (ℤ → Call) → (names : List ℕ) → List ℕ → Line
literal_line call names line = by_literal (literal_in names (word_at 1 line)) 1 (λ l. ended 2 line (calling (call l)))

abbrev pub pop_line : (lent furnace : ℕ) → List ℕ → Line
pop_line lent furnace line = ended 1 line (calling (pops lent furnace))

abbrev pub valve_line : (lent : ℕ) → (names : List ℕ) → List ℕ → Line
valve_line lent names line =
    by_number (symbol_in names (word_at 1 line)) 1
    (λ s. by_number (number_in (word_at 2 line)) 2
    (λ n. ended 3 line (calling (enters lent (variable_of s n)))))

abbrev pub pairs_entered : (lent : ℕ) → List ℕ → (s n t m : ℕ) → Line
pairs_entered lent line s n t m =
    cond (table_fits line n m) (calling (enters lent (pairs_of s n t m (pairs_in line n m)))) (slipping MarksDue 5)

-- its second valve, the first being read
abbrev pub second_valve : (lent : ℕ) → (names : List ℕ) → List ℕ → (s n : ℕ) → Line
second_valve lent names line s n =
    by_number (symbol_in names (word_at 3 line)) 3
    (λ t. by_number (number_in (word_at 4 line)) 4
    (λ m. pairs_entered lent line s n t m))

abbrev pub pairs_line : (lent : ℕ) → (names : List ℕ) → List ℕ → Line
pairs_line lent names line =
    by_number (symbol_in names (word_at 1 line)) 1
    (λ s. by_number (number_in (word_at 2 line)) 2
    (λ n. second_valve lent names line s n))

abbrev pub furnace_line : List ℕ → Line
furnace_line line = by_number (number_in (word_at 1 line)) 1 (λ n. ended 2 line (working n))

abbrev pub ordered_by : Order → (lent furnace : ℕ) → (names : List ℕ) → List ℕ → Line
ordered_by Open lent furnace names line = open_line line
ordered_by Name lent furnace names line = name_line names line
ordered_by Rule lent furnace names line = rule_line lent names line
ordered_by Hold lent furnace names line = literal_line (literal_call ToHold lent furnace) names line
ordered_by Drop lent furnace names line = literal_line (literal_call ToDrop lent furnace) names line
ordered_by Push lent furnace names line = literal_line (literal_call ToPush lent furnace) names line
ordered_by Pop lent furnace names line = pop_line lent furnace line
ordered_by Valve lent furnace names line = valve_line lent names line
ordered_by Pairs lent furnace names line = pairs_line lent names line
ordered_by Furnace lent furnace names line = furnace_line line
ordered_by Ask lent furnace names line = asking
ordered_by Why lent furnace names line = asking
ordered_by Ground lent furnace names line = asking
ordered_by Marks lent furnace names line = asking
ordered_by Blame lent furnace names line = asking
ordered_by Least lent furnace names line = asking
ordered_by Sets lent furnace names line = asking
ordered_by Rows lent furnace names line = asking
ordered_by Cnf lent furnace names line = asking
ordered_by Echo lent furnace names line = asking
ordered_by Help lent furnace names line = asking
ordered_by Unknown lent furnace names line = slipping UnknownWord 0
ordered_by Nothing lent furnace names line = resting

-- a line has at most 500 bytes
abbrev pub most_bytes : ℕ
most_bytes = 500

unfoldable pub line_of : (lent furnace : ℕ) → (names : List ℕ) → List ℕ → Line
line_of lent furnace names line =
    cond (ltb most_bytes (length line)) (slipping LineTooLong 0) (ordered_by (order_of (word_at 0 line)) lent furnace names line)
