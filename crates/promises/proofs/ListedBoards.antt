-- 02, Ticket 10, on small boards: the refusals of the call in their order, each with nothing written, and lists beside them. Stated as in
-- `GroundBoards`. The lists of other rules and candidates are computed in `meaning`.
use Rattle.meaning.proofs.Kit.{refl, List, [], ◌∷◌, ◌++◌, ℕ, ℤ, pos, negsuc, length}
use Rattle.literals.specs.declared.refusal.Refusal.{Refusal}
use Rattle.literals.specs.declared.refusal.Refusal.TheVariants.{BadBoard, BadLiteral, BadCandidates, TableTooShort}
use Rattle.std.specs.Prelude.{Ok, Err}
use Rattle.spelling.proofs.Ascii.{ascii}
use Rattle.promises.specs.Calls.{Call, opens, holds, lists, reads, Answer, answer, of_listing}
use Rattle.promises.proofs.Boards.{lent, blank, FreshHold}
use Rattle.promises.proofs.Computing.{the_definitions}

-- ---- the boards and the calls

-- 3 implies 4, 1 and 2 imply 4
abbrev two_ways : List Call → List Call
two_ways calls = opens 4 ∷ reads lent (ascii "p cnf 4 2\n-3 4 0\n-1 -2 4 0\n") ∷ calls

-- the sets of these candidates for a literal, with so many places to write them
abbrev sets_of_lem : List ℤ → ℤ → (places : ℕ) → Call
sets_of_lem cands l places = lists lent cands l (blank places)

-- six symbols' literals
abbrev pub twelve : List ℤ
twelve = pos 1 ∷ pos 2 ∷ pos 3 ∷ pos 4 ∷ pos 5 ∷ pos 6 ∷ negsuc 0 ∷ negsuc 1 ∷ negsuc 2 ∷ negsuc 3 ∷ negsuc 4 ∷ negsuc 5 ∷ []

-- these are written, and so many places beyond them stay
abbrev listed : List ℕ → (beyond : ℕ) → Answer
listed list beyond = of_listing (record { outcome = Ok tt; count = length list }) (list ++ blank beyond)

-- it is refused, and so many places stay
abbrev refused : Refusal → (places : ℕ) → Answer
refused why places = of_listing (record { outcome = Err why; count = 0 }) (blank places)

-- ---- calls that are made, and what others then answer

abbrev boards : List (List Call × List (Call × Answer))
boards =
    -- "The call returns the count; places beyond the list stay as they were."
    (
      two_ways [],
      (sets_of_lem (pos 1 ∷ pos 2 ∷ pos 3 ∷ []) (pos 4) 5, listed (4 ∷ 3 ∷ []) 3)
          -- "13 exactly when the list is longer than the table lent": two places are enough, and one is not; an empty list needs none
          ∷ (sets_of_lem (pos 1 ∷ pos 2 ∷ pos 3 ∷ []) (pos 4) 2, listed (4 ∷ 3 ∷ []) 0)
          ∷ (sets_of_lem (pos 1 ∷ pos 2 ∷ pos 3 ∷ []) (pos 4) 1, refused TableTooShort 1)
          ∷ (sets_of_lem (pos 1 ∷ pos 2 ∷ []) (negsuc 3) 0, listed [] 0)
          ∷ (sets_of_lem [] (pos 4) 0, listed [] 0)
          -- "2 for any literal given": the one to explain, 0 or beyond S, and any candidate
          ∷ (sets_of_lem (pos 1 ∷ []) (pos 0) 1, refused BadLiteral 1)
          ∷ (sets_of_lem [] (negsuc 4) 1, refused BadLiteral 1)
          ∷ (sets_of_lem (pos 0 ∷ pos 1 ∷ []) (pos 4) 1, refused BadLiteral 1)
          ∷ (sets_of_lem (pos 1 ∷ pos 5 ∷ []) (pos 4) 1, refused BadLiteral 1)
          -- "17 for .. a repeated one", be it the literal to explain; a literal and its opposite are two
          ∷ (sets_of_lem (pos 3 ∷ pos 1 ∷ pos 3 ∷ []) (pos 4) 4, refused BadCandidates 4)
          ∷ (sets_of_lem (negsuc 3 ∷ negsuc 3 ∷ []) (negsuc 3) 4, refused BadCandidates 4)
          ∷ (sets_of_lem (pos 3 ∷ negsuc 2 ∷ []) (pos 4) 4, listed (1 ∷ []) 3)
          -- "after 1, and 2 .., 17 .., then 13": all four cases at once, the board's since one row is lent, and then one fewer each time
          ∷ (lists 9 (pos 3 ∷ pos 3 ∷ pos 5 ∷ []) (pos 4) [], refused BadBoard 0)
          ∷ (sets_of_lem (pos 3 ∷ pos 3 ∷ pos 5 ∷ []) (pos 4) 0, refused BadLiteral 0)
          ∷ (sets_of_lem (pos 3 ∷ pos 3 ∷ []) (pos 4) 0, refused BadCandidates 0)
          ∷ (sets_of_lem (pos 3 ∷ []) (pos 4) 0, refused TableTooShort 0)
          ∷ [],
    )
    -- "Premises held on the board don't count", those of neither furnace, in conflict or not
    ∷ (
      two_ways (holds lent 1 (pos 1) ∷ holds lent 2 (pos 3) ∷ holds lent 2 (negsuc 3) ∷ []),
      (sets_of_lem (pos 1 ∷ pos 2 ∷ pos 3 ∷ []) (pos 4) 2, listed (4 ∷ 3 ∷ []) 0)
          ∷ (sets_of_lem (pos 2 ∷ []) (pos 4) 1, listed [] 1)
          ∷ (sets_of_lem [] (pos 4) 1, listed [] 1)
          ∷ [],
    )
    -- with no candidates: the empty set, where the rules alone derive the literal
    ∷ (
      opens 2 ∷ reads lent (ascii "p cnf 2 1\n2 0\n") ∷ [],
      (sets_of_lem [] (pos 2) 1, listed (0 ∷ []) 0)
          ∷ (sets_of_lem [] (pos 2) 0, refused TableTooShort 0)
          ∷ (sets_of_lem [] (pos 1) 0, listed [] 0)
          ∷ [],
    )
    -- "17 for more than 12 candidates", all different; 2 for the thirteenth, and for the one behind it
    ∷ (
      opens 7 ∷ [],
      (sets_of_lem (twelve ++ (pos 7 ∷ [])) (pos 7) 1, refused BadCandidates 1)
          ∷ (sets_of_lem (twelve ++ (pos 8 ∷ [])) (pos 7) 1, refused BadLiteral 1)
          ∷ (sets_of_lem (twelve ++ (pos 7 ∷ pos 0 ∷ [])) (pos 7) 1, refused BadLiteral 1)
          ∷ [],
    )
    ∷ []

listed_boards_hold : FreshHold answer boards
unfolding the_definitions
listed_boards_hold = refl
