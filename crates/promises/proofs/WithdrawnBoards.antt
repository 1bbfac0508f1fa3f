-- 02, Ticket 12, on small boards: the refusals of the call in their order, the furnaces, and what is so once the set is withdrawn. Stated as in
-- `GroundBoards`. The sets of other rules and candidates are computed in `meaning`.
use Rattle.meaning.proofs.Kit.{refl, List, [], ◌∷◌, ◌++◌, ℕ, ℤ, pos, negsuc}
use Rattle.literals.specs.declared.refusal.Refusal.{Refusal}
use Rattle.literals.specs.declared.refusal.Refusal.TheVariants.{BadBoard, BadLiteral, AlreadyHeld, NotHeld, BadFurnace, BadCandidates, ConflictStays}
use Rattle.std.specs.Prelude.{Ok, Err}
use Rattle.board.specs.declared.asking.Standing.TheVariants.{Conflict, Stands}
use Rattle.spelling.proofs.Ascii.{ascii}
use Rattle.promises.specs.Calls.{Call, opens, holds, withdraws, asks_whole, asks_least, reads, Answer, of_change, of_ask, of_withdrawal, answer}
use Rattle.promises.proofs.Boards.{lent, FreshHold}
use Rattle.promises.proofs.ListedBoards.{twelve}
use Rattle.promises.proofs.Computing.{the_definitions}

-- ---- the boards and the calls

-- 1 is against 2, and 1 against 3; furnace 1 holds all three, and 4
abbrev against : List Call → List Call
against calls =
    opens 4 ∷ reads lent (ascii "p cnf 4 2\n-1 -2 0\n-1 -3 0\n")
    ∷ holds lent 1 (pos 1) ∷ holds lent 1 (pos 2) ∷ holds lent 1 (pos 3) ∷ holds lent 1 (pos 4) ∷ calls

-- the least of these, for a furnace
abbrev least_of : (furnace : ℕ) → List ℤ → Call
least_of furnace cands = asks_least lent furnace cands

abbrev this : (set : ℕ) → Answer
this set = of_withdrawal (record { outcome = Ok tt; set = set })

abbrev refused : Refusal → Answer
refused why = of_withdrawal (record { outcome = Err why; set = 65535 })

-- ---- calls that are made, and what others then answer

abbrev boards : List (List Call × List (Call × Answer))
boards =
    -- one premise ends both conflicts; without it, two are needed; without those, "18 exactly when withdrawing all of them leaves the conflict"
    (
      against [],
      (least_of 1 (pos 4 ∷ pos 3 ∷ pos 2 ∷ pos 1 ∷ []), this 8)
          ∷ (least_of 1 (pos 4 ∷ pos 3 ∷ pos 2 ∷ []), this 6)
          ∷ (least_of 1 (pos 4 ∷ pos 3 ∷ []), refused ConflictStays)
          ∷ (least_of 1 [], refused ConflictStays)
          -- the other furnace is in no conflict, and holds nothing: "the empty set if there is no conflict", "11 if one isn't held"
          ∷ (least_of 2 [], this 0)
          ∷ (least_of 2 (pos 1 ∷ []), refused NotHeld)
          ∷ (least_of 1 (pos 1 ∷ negsuc 3 ∷ []), refused NotHeld)
          -- "16 .. and 2": a furnace that there is not, and any candidate that is 0 or beyond S
          ∷ (least_of 3 (pos 1 ∷ []), refused BadFurnace)
          ∷ (least_of 1 (pos 0 ∷ pos 1 ∷ []), refused BadLiteral)
          ∷ (least_of 1 (pos 1 ∷ negsuc 4 ∷ []), refused BadLiteral)
          -- "17 as in Ticket 10"
          ∷ (least_of 1 (pos 1 ∷ pos 4 ∷ pos 1 ∷ []), refused BadCandidates)
          -- "after 1, 16 and 2, 17 .., 11 .., and 18": all six cases at once, the board's since one row is lent, and then one fewer each time
          ∷ (asks_least 9 3 (pos 4 ∷ pos 4 ∷ negsuc 3 ∷ pos 5 ∷ []), refused BadBoard)
          ∷ (least_of 3 (pos 4 ∷ pos 4 ∷ negsuc 3 ∷ pos 5 ∷ []), refused BadFurnace)
          ∷ (least_of 1 (pos 4 ∷ pos 4 ∷ negsuc 3 ∷ pos 5 ∷ []), refused BadLiteral)
          ∷ (least_of 1 (pos 4 ∷ pos 4 ∷ negsuc 3 ∷ []), refused BadCandidates)
          ∷ (least_of 1 (pos 4 ∷ negsuc 3 ∷ []), refused NotHeld)
          ∷ (least_of 1 (pos 4 ∷ []), refused ConflictStays)
          ∷ [],
    )
    -- "Nothing is changed": after the call the furnace is in conflict, and holds what the set has
    ∷ (
      against (least_of 1 (pos 4 ∷ pos 3 ∷ pos 2 ∷ pos 1 ∷ []) ∷ []),
      (asks_whole lent 1 (pos 4), of_ask (Ok Conflict)) ∷ (withdraws lent 1 (pos 1), of_change (Ok tt)) ∷ (
        holds lent 1 (pos 1),
        of_change (Err AlreadyHeld),
      ) ∷ [],
    )
    -- once the set is withdrawn there is no conflict, and the empty set is the answer; once a part of it is, the conflict is left
    ∷ (against (withdraws lent 1 (pos 1) ∷ []), (asks_whole lent 1 (pos 4), of_ask (Ok Stands)) ∷ (least_of 1 (pos 4 ∷ pos 3 ∷ []), this 0) ∷ [])
    ∷ (
      against (withdraws lent 1 (pos 2) ∷ []),
      (asks_whole lent 1 (pos 4), of_ask (Ok Conflict)) ∷ (least_of 1 (pos 4 ∷ pos 3 ∷ []), this 2) ∷ (
        least_of 1 (pos 2 ∷ pos 3 ∷ []),
        refused NotHeld,
      ) ∷ [],
    )
    -- two separate conflicts, at the second furnace: two premises, and of four such sets the one with the smallest number
    ∷ (
      opens 2 ∷ holds lent 2 (pos 1) ∷ holds lent 2 (negsuc 0) ∷ holds lent 2 (pos 2) ∷ holds lent 2 (negsuc 1) ∷ [],
      (least_of 2 (pos 1 ∷ negsuc 0 ∷ pos 2 ∷ negsuc 1 ∷ []), this 5)
          ∷ (least_of 2 (negsuc 0 ∷ negsuc 1 ∷ []), this 3)
          ∷ (least_of 2 (pos 1 ∷ negsuc 0 ∷ []), refused ConflictStays)
          ∷ (least_of 1 [], this 0)
          ∷ [],
    )
    -- a conflict that the rules alone make
    ∷ (
      opens 2 ∷ reads lent (ascii "p cnf 2 2\n1 0\n-1 0\n") ∷ holds lent 1 (pos 2) ∷ [],
      (least_of 1 (pos 2 ∷ []), refused ConflictStays) ∷ (least_of 1 [], refused ConflictStays) ∷ (least_of 2 [], refused ConflictStays) ∷ [],
    )
    -- "17 for more than 12 candidates", all different, before 11; 2 for the thirteenth, and for the one behind it
    ∷ (
      opens 7 ∷ [],
      (least_of 1 (twelve ++ (pos 7 ∷ [])), refused BadCandidates)
          ∷ (least_of 1 twelve, refused NotHeld)
          ∷ (least_of 1 (twelve ++ (pos 8 ∷ [])), refused BadLiteral)
          ∷ (least_of 1 (twelve ++ (pos 7 ∷ pos 0 ∷ [])), refused BadLiteral)
          ∷ [],
    )
    ∷ []

withdrawn_boards_hold : FreshHold answer boards
unfolding the_definitions
withdrawn_boards_hold = refl
