-- 02, Ticket 2: "Reading what was written onto a new board of equal S gives the same rows, if as many are lent": by Ticket 8 the same literals, and
-- each row a rule of its own.
use Rattle.meaning.proofs.Kit.{◌≡◌, ◌∙◌, sym, ap, refl, subst, true, List, [], ◌++◌, map, In, ◌≤◌, ℕ, ◌<◌, ◌+◌, suc, ◌*◌, zero-add, arith, ℤ, length}
use Rattle.meaning.proofs.Kit.{get_or, drop, take, take_at, not-false, le-leb}
use Rattle.meaning.specs.Tests.{tabulate}
use Rattle.meaning.proofs.Tables.{length_tabulate, get_d_tabulate, tabulate_in, map_tabulate}
use Rattle.literals.specs.Row.{width, most_literals, rows_lent, numbers_at, rule_at, decode, rows_in, Ruled, ruled_in}
use Rattle.literals.proofs.Counting.{count_few}
use Rattle.literals.proofs.RuledRows.{ruled_at_lem, rows_of_table}
use Rattle.implicates.specs.Appending.{appended}
use Rattle.board.specs.Faults.{good_board}
use Rattle.board.specs.Changes.{empty_board, open_faults, opened}
use Rattle.std.specs.Prelude.{Ok}
use Rattle.board.proofs.Goodness.{Good, good_is}
use Rattle.board.proofs.Answered.{none_given}
use Rattle.dimacs.specs.Writing.{text_on, write_faults, write_outcome, write_answer, write_bytes}
use Rattle.dimacs.specs.declared.reading.Reading.{Reading}
use Rattle.dimacs.proofs.SameRows.{same_rows}
use Rattle.stack.specs.Stacking.{empty_stacks}
use Rattle.stack.specs.Steps.{opened_with}
use Rattle.promises.specs.Calls.{opens, reads, writes, World, front, answer, outcome, after}
use Rattle.promises.specs.Demands.{rows_of_world, RoundTrip}
use Rattle.promises.proofs.Changes.{open_leaves}
use Rattle.promises.proofs.Lent.{rows_lent_lem}
use Rattle.promises.proofs.Stored.{rows_appended}

module _ (w : World) (lent : ℕ) (out : List ℕ) (v : World) (room : ℕ) (e : outcome w (writes lent out) ≡ Ok tt)
    (h : w.board.rows ≤ rows_lent (front v room)) where
  abbrev part : List ℤ
  part = front w lent

  abbrev S : ℕ
  S = w.board.symbols

  abbrev used : ℕ
  used = w.board.rows

  good : good_board part w.board ≡ true
  unfolding answer outcome write_answer write_outcome write_faults
  good = not-false (good_board part w.board) (none_given (write_faults part w.board (length out)) e 0)

  known : Good part w.board
  known = good_is part w.board good

  -- the bytes told are the text
  written : take (write_answer part w.board out).bytes (write_bytes part w.board out) ≡ text_on part w.board
  unfolding answer outcome write_answer write_bytes
  written = rw e (take_at (text_on part w.board) (drop (length (text_on part w.board)) out) (length (text_on part w.board)) refl)

  -- the new board
  abbrev new : World
  new = record { board = empty_board S; table = v.table; stacks = empty_stacks }

  opens_new : after v (opens S) ≡ new
  unfolding answer outcome opened opened_with open_faults
  opens_new = open_leaves v S (rw (le-leb 1 S known.some, le-leb S 200 known.sound.symbols))

  -- the rows that are read: those written, each with a number of its own
  abbrev row_at : ℕ → Ruled
  row_at r = record { rule = suc r; row = decode (numbers_at part r) }

  abbrev rows : List Ruled
  rows = tabulate used row_at

  long : length rows ≡ used
  long = length_tabulate used row_at

  short : (x : Ruled) → In x rows → length x.row ≤ most_literals
  unfolding numbers_at
  short x m = let f = tabulate_in used row_at m in rw f.2 (count_few part (width * f.0))

  -- they stand at the front of the new table, whatever stands behind them
  read_ruled : (rest : List ℤ) → ruled_in used (appended (front v room) 0 rows ++ rest) ≡ rows
  unfolding ruled_in
  read_ruled rest =
      let fits : width * (0 + length rows) ≤ length (front v room) = omega (arith, long, h) in
      let all : 0 + length rows ≡ used = omega (arith, long) in
      subst (λ (n : ℕ). ruled_in n (appended (front v room) 0 rows ++ rest) ≡ rows) all (rows_appended (front v room) rest 0 rows fits short)

  read_rows : (rest : List ℤ) → rows_in used (appended (front v room) 0 rows ++ rest) ≡ rows_of_world w
  unfolding rows_in
  read_rows rest =
      sym (rows_of_table used (appended (front v room) 0 rows ++ rest))
      ∙ ap (map (λ (x : Ruled). x.row)) (read_ruled rest)
      ∙ map_tabulate (λ (x : Ruled). x.row) used row_at
      ∙ rows_lent_lem lent used w.table known.sound.room

  read_numbers : (rest : List ℤ) (r : ℕ) → r < used → rule_at (appended (front v room) 0 rows ++ rest) r ≡ suc r
  read_numbers rest r b =
      let nothing : Ruled = record { rule = 0; row = [] } in
      ap (λ (x : Ruled). x.rule)
      (sym (ruled_at_lem used (appended (front v room) 0 rows ++ rest) nothing r b)
      ∙ ap (λ (xs : List Ruled). get_or xs r nothing) (read_ruled rest)
      ∙ get_d_tabulate used row_at r nothing b)

  read_back : let back = reads room (text_on part w.board) in let read = after new back in
      (outcome new back ≡ Ok tt) × (rows_of_world read ≡ rows_of_world w) × (read.board.rules ≡ used)
      × ((r : ℕ) → r < used → rule_at read.table r ≡ suc r)
  unfolding answer outcome after
  read_back =
      let same = same_rows part w.board (front v room) good h in
      let rest = drop room v.table in (
        ap (λ (r : Reading). r.outcome) same.0,
        rw (same.0, same.1, zero-add) (read_rows rest),
        rw (same.0, zero-add),
        λ r b. rw same.1 (read_numbers rest r b),
      )

pub round_trip : RoundTrip
round_trip w lent out v room e h = rw (written w lent out v room e h, opens_new w lent out v room e h) (read_back w lent out v room e h)
