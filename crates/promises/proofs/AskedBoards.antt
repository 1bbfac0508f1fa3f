-- 02, Ticket 11, on one small board: what both calls that ask answer of every literal, in a conflict and without one. Stated as in
-- `GroundBoards`, over the same table.
use Rattle.meaning.proofs.Kit.{refl, List, [], ◌∷◌, ◌++◌, map, ℕ, ℤ, pos, negsuc}
use Rattle.meaning.specs.Tests.{none}
use Rattle.literals.specs.declared.refusal.Refusal.TheVariants.{BadBoard, BadLiteral, BadFurnace}
use Rattle.std.specs.Prelude.{Result, Ok, Err}
use Rattle.board.specs.declared.asking.Standing.{Standing}
use Rattle.board.specs.declared.asking.Standing.TheVariants.{Conflict, Stands, RuledOut, Open}
use Rattle.spelling.proofs.Ascii.{ascii}
use Rattle.promises.specs.Calls.{Call, opens, holds, withdraws, asks, asks_whole, settles, reads, Answer, answer, of_ask, of_settle}
use Rattle.promises.proofs.Boards.{lent, blank, FreshHold}
use Rattle.promises.proofs.Computing.{the_definitions}

-- 1 implies 2, 2 implies −4; furnace 1 holds 1, and both 3 and −3
abbrev clashing : List Call
clashing =
    opens 5
    ∷ reads lent (ascii "p cnf 5 2\n-1 2 0\n-2 -4 0\n")
    ∷ holds lent 1 (pos 1)
    ∷ holds lent 1 (pos 3)
    ∷ holds lent 1 (negsuc 2)
    ∷ []

-- the two calls, for a furnace
abbrev ask : (furnace : ℕ) → ℤ → Call
ask furnace l = asks lent furnace l

abbrev ask_whole : (furnace : ℕ) → ℤ → Call
ask_whole furnace l = asks_whole lent furnace l

-- what a call answers of literals
abbrev told : (ℤ → Call) → List (ℤ × Standing) → List (Call × Answer)
told call how = map (λ q. (call q.0, of_ask (Ok q.1))) how

-- how the literals stand, where 3 stands so and −3 so
abbrev standings : (plus minus : Standing) → List (ℤ × Standing)
standings plus minus =
    (pos 1, Stands)
    ∷ (negsuc 0, RuledOut)
    ∷ (pos 2, Stands)
    ∷ (negsuc 1, RuledOut)
    ∷ (pos 3, plus)
    ∷ (negsuc 2, minus)
    ∷ (pos 4, RuledOut)
    ∷ (negsuc 3, Stands)
    ∷ (pos 5, Open)
    ∷ (negsuc 4, Open)
    ∷ []

-- the same standing for each of them
abbrev alike : Standing → List (ℤ × Standing)
alike how = map (λ q. (q.0, how)) (standings how how)

-- settle's labels, which ask agrees with, its ranks and its supports
abbrev settled : Answer
settled =
    of_settle (Ok tt) (1 ∷ 1 ∷ 3 ∷ 2 ∷ 0 ∷ [])
    (0 ∷ none ∷ 1 ∷ none ∷ 0 ∷ 0 ∷ none ∷ 2 ∷ none ∷ none ∷ [])
    (none ∷ none ∷ 0 ∷ none ∷ none ∷ none ∷ none ∷ 1 ∷ none ∷ none ∷ [])

-- literals that are none, and a number of no furnace, for either call
abbrev refusals : (ℤ → Call) → (ℤ → Call) → List (Call × Answer)
refusals good misnamed =
    map (λ l. (good l, of_ask (Err BadLiteral))) (pos 0 ∷ pos 6 ∷ negsuc 5 ∷ [])
    ++ map (λ l. (misnamed l, of_ask (Err BadFurnace))) (pos 1 ∷ pos 6 ∷ [])

abbrev boards : List (List Call × List (Call × Answer))
boards =
    -- "conflict only where the literal and its opposite are both derived; otherwise stands, ruled out or open"
    (clashing, (settles lent 1 (blank 5) (blank 10) (blank 10), settled) ∷ told (ask 1) (standings Conflict Conflict))
    -- "The old answer stays as a second call"
    ∷ (clashing, told (ask_whole 1) (alike Conflict))
    -- furnace 2 has no part in it
    ∷ (clashing, told (ask 2) (alike Open) ++ told (ask_whole 2) (alike Open))
    -- the conflict is ended: both answer alike
    ∷ (
      clashing ++ (withdraws lent 1 (negsuc 2) ∷ []),
      told (ask 1) (standings Stands RuledOut) ++ told (ask_whole 1) (standings Stands RuledOut),
    )
    -- both are refused alike, in a conflict too: 16 ahead of 2, and 1 ahead of both
    ∷ (clashing, refusals (ask 1) (ask 3) ++ refusals (ask_whole 1) (ask_whole 3))
    ∷ ([], (ask 3 (pos 6), of_ask (Err BadBoard)) ∷ (ask_whole 3 (pos 6), of_ask (Err BadBoard)) ∷ [])
    ∷ []

asked_boards_hold : FreshHold answer boards
unfolding the_definitions
asked_boards_hold = refl
