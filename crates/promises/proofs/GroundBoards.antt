-- 02, Ticket 9, on one small board: what stays told of a mark where premises outside its ground are withdrawn, and that no more can be promised: of a
-- premise of the ground, of a hold, or of a new rule. Stated as in `Boards`, over the same table.
use Rattle.meaning.proofs.Kit.{refl, List, [], ◌∷◌, ℕ, ◌+◌, ◌*◌, ℤ, pos, negsuc}
use Rattle.meaning.specs.Tests.{none}
use Rattle.literals.specs.Row.{width}
use Rattle.literals.specs.declared.refusal.Refusal.TheVariants.{NothingToShow}
use Rattle.std.specs.Prelude.{Result, Ok, Err}
use Rattle.board.specs.declared.asking.Standing.TheVariants.{Conflict, Stands, Open}
use Rattle.spelling.proofs.Ascii.{ascii}
use Rattle.promises.specs.Calls.{Call, opens, holds, withdraws, asks, explains, grounds, reads, Answer, of_ask, of_explain, of_marks, answer}
use Rattle.promises.proofs.Boards.{lent, blank, FreshHold}
use Rattle.promises.proofs.Computing.{the_definitions}

-- ---- the board and the calls

-- 1 implies 3, 2 implies 4, 4 implies 3
abbrev opened_with_lem : List Call → List Call
opened_with_lem calls = opens 4 ∷ reads lent (ascii "p cnf 4 3\n-1 3 0\n-2 4 0\n-4 3 0\n") ∷ calls

-- for furnace 2
abbrev hold : ℤ → Call
hold l = holds lent 2 l

abbrev withdraw : ℤ → Call
withdraw l = withdraws lent 2 l

abbrev ask : ℤ → Call
ask l = asks lent 2 l

-- of the mark 3: why it stands, and its ground
abbrev why : Call
why = explains lent 2 (pos 3)

abbrev its_ground : Call
its_ground = grounds lent 2 (pos 3) (blank 8)

-- it stands at this rank by this row, which has two literals, of this rule
abbrev by : (rank row rule : ℕ) → Answer
by rank row rule = of_explain (record { outcome = Ok tt; rank = rank; row = row; rule = rule }) (record { start = width * row; stop = width * row + 2 })

abbrev nothing : Answer
nothing = of_explain (record { outcome = Err NothingToShow; rank = none; row = none; rule = 0 }) (record { start = 0; stop = 0 })

-- on 1 alone, or on 2 alone
abbrev on_1 : Answer
on_1 = of_marks (Ok tt) (1 ∷ 0 ∷ 0 ∷ 0 ∷ 0 ∷ 0 ∷ 0 ∷ 0 ∷ [])

abbrev on_2 : Answer
on_2 = of_marks (Ok tt) (0 ∷ 0 ∷ 1 ∷ 0 ∷ 0 ∷ 0 ∷ 0 ∷ 0 ∷ [])

abbrev conflict : Answer
conflict = of_ask (Ok Conflict)

abbrev stands : Answer
stands = of_ask (Ok Stands)

abbrev is_open : Answer
is_open = of_ask (Ok Open)

-- ---- calls that are made, and what others then answer

abbrev boards : List (List Call × List (Call × Answer))
boards =
    -- 1 and 2 are held: 3 stands on 1, and 4 on 2
    (opened_with_lem (hold (pos 1) ∷ hold (pos 2) ∷ []), (why, by 1 0 1) ∷ (its_ground, on_1) ∷ (ask (pos 3), stands) ∷ (ask (pos 4), stands) ∷ [])
    -- "with only the premises of its ground held"
    ∷ (opened_with_lem (hold (pos 1) ∷ []), (why, by 1 0 1) ∷ (its_ground, on_1) ∷ (ask (pos 3), stands) ∷ [])
    -- "withdrawing premises outside its ground .. changes neither", whatever furnace 1 holds; 4 is gone
    ∷ (
      opened_with_lem (hold (pos 1) ∷ hold (pos 2) ∷ holds lent 1 (negsuc 2) ∷ withdraw (pos 2) ∷ []),
      (why, by 1 0 1) ∷ (its_ground, on_1) ∷ (ask (pos 3), stands) ∷ (ask (pos 4), is_open) ∷ [],
    )
    -- "Both hold on boards in conflict too": −3 is held as well, and stays or is withdrawn
    ∷ (
      opened_with_lem (hold (pos 1) ∷ hold (pos 2) ∷ hold (negsuc 2) ∷ []),
      (why, by 1 0 1) ∷ (its_ground, on_1) ∷ (ask (pos 3), conflict) ∷ [],
    )
    ∷ (
      opened_with_lem (hold (pos 1) ∷ hold (pos 2) ∷ hold (negsuc 2) ∷ withdraw (pos 2) ∷ []),
      (why, by 1 0 1) ∷ (its_ground, on_1) ∷ (ask (pos 3), conflict) ∷ [],
    )
    ∷ (
      opened_with_lem (hold (pos 1) ∷ hold (pos 2) ∷ hold (negsuc 2) ∷ withdraw (negsuc 2) ∷ []),
      (why, by 1 0 1) ∷ (its_ground, on_1) ∷ (ask (pos 3), stands) ∷ [],
    )
    -- not so of a premise of the ground: where 1 is withdrawn, 3 may stay, by other rows, at another rank, on 2;
    ∷ (opened_with_lem (hold (pos 1) ∷ hold (pos 2) ∷ withdraw (pos 1) ∷ []), (why, by 2 2 3) ∷ (its_ground, on_2) ∷ (ask (pos 3), stands) ∷ [])
    -- or may be gone
    ∷ (opened_with_lem (hold (pos 1) ∷ withdraw (pos 1) ∷ []), (why, nothing) ∷ (ask (pos 3), is_open) ∷ [])
    -- nor of a hold: 3 stands on 2, and 1 is held (the first board);
    ∷ (opened_with_lem (hold (pos 2) ∷ []), (why, by 2 2 3) ∷ (its_ground, on_2) ∷ [])
    ∷ (opened_with_lem (hold (pos 2) ∷ hold (pos 1) ∷ []), (why, by 1 0 1) ∷ (its_ground, on_1) ∷ [])
    -- nor of a new rule: 2 implies 3
    ∷ (opened_with_lem (hold (pos 2) ∷ reads lent (ascii "p cnf 4 1\n-2 3 0\n") ∷ []), (why, by 1 3 4) ∷ (its_ground, on_2) ∷ [])
    ∷ []

ground_boards_hold : FreshHold answer boards
unfolding the_definitions
ground_boards_hold = refl
