-- Ask and explain.
use Rattle.std.specs.Prelude.{Result, Ok, Err, ℕ, ◌+◌, ◌-◌, ◌*◌, ◌≡◌, Bool, cond, not, ◌&&◌, ◌||◌, List, [], ◌∷◌, ℤ, length, take, drop}
use Rattle.std.specs.Borrow.{Bor}
use Rattle.meaning.specs.Tests.{none}
use Rattle.meaning.specs.Literals.{opp, has, conflict}
use Rattle.literals.specs.Literal.{in_range, place_of}
use Rattle.literals.specs.Row.{width, numbers_at, rule_at, decode}
use Rattle.literals.specs.declared.refusal.Refusal.{Refusal}
use Rattle.literals.specs.declared.refusal.Refusal.TheVariants.{BadBoard, BadLiteral, NothingToShow, BadFurnace}
use Rattle.board.specs.Furnaces.{is_furnace, held_by}
use Rattle.board.specs.Faults.{good_board, Fault, first_fault, if_done}
use Rattle.board.specs.Ranking.{derived_on, rank_on, support_on}
use Rattle.board.specs.declared.Board.{Board}
use Rattle.board.specs.declared.asking.Standing.{Standing}
use Rattle.board.specs.declared.asking.Standing.TheVariants.{Conflict, Stands, RuledOut, Open}
use Rattle.board.specs.declared.asking.Reason.{Reason}

-- ---- Ask. Here and in what follows, what is derived is so for the furnace that is named (02, Ticket 6).

-- the refusals of both calls that ask
unfoldable pub ask_faults : List ℤ → Board → (furnace : ℕ) → ℤ → List Fault
ask_faults table b furnace l =
    record { given = not (good_board table b); refusal = BadBoard }
    ∷ record { given = not (is_furnace furnace); refusal = BadFurnace }
    ∷ record { given = not (in_range b.symbols l); refusal = BadLiteral }
    ∷ []

-- where there is a conflict that counts (clash), "conflict"; "else stands, if derived; ruled out, if the opposite is derived; else open"
abbrev pub standing_if : (clash derived opposed : Bool) → Standing
standing_if clash derived opposed = cond clash Conflict (cond derived Stands (cond opposed RuledOut Open))

-- 02, Ticket 11: "By default ask shall answer conflict only where the literal and its opposite are both derived; otherwise stands, ruled out or
-- open."
abbrev pub standing : List Bool → ℕ → Standing
standing known p = standing_if (has known p && has known (opp p)) (has known p) (has known (opp p))

unfoldable pub asked : List ℤ → Board → (furnace : ℕ) → ℤ → Result Standing Refusal
asked table b furnace l =
    if_done (first_fault (ask_faults table b furnace l)) (Ok (standing (derived_on table b furnace) (place_of l))) (λ why. Err why)

-- "The old answer stays as a second call": 01, "conflict, if the board is in conflict; else .."
abbrev pub standing_whole : List Bool → ℕ → Standing
standing_whole known p = standing_if (conflict known) (has known p) (has known (opp p))

unfoldable pub asked_whole : List ℤ → Board → (furnace : ℕ) → ℤ → Result Standing Refusal
asked_whole table b furnace l =
    if_done (first_fault (ask_faults table b furnace l)) (Ok (standing_whole (derived_on table b furnace) (place_of l))) (λ why. Err why)

-- ---- "Explain returns the supporting row as that part of the caller's table, its literals without the zeros, with rank and row number."
-- 02, Ticket 8: it "returns the rule's number besides the literals, 0 when refused"

-- 12: "explain: not derived, or held"
unfoldable pub explain_faults : List ℤ → Board → (furnace : ℕ) → ℤ → List Fault
explain_faults table b furnace l =
    record { given = not (good_board table b); refusal = BadBoard }
    ∷ record { given = not (is_furnace furnace); refusal = BadFurnace }
    ∷ record { given = not (in_range b.symbols l); refusal = BadLiteral }
    ∷ record { given = not (has (derived_on table b furnace) (place_of l)) || has (held_by b furnace) (place_of l); refusal = NothingToShow }
    ∷ []

-- the three numbers: where refused "65535 for rank and row number", and 0
unfoldable pub explain_numbers : List ℤ → Board → (furnace : ℕ) → ℤ → Reason
explain_numbers table b furnace l =
    let outcome = first_fault (explain_faults table b furnace l) in
    let row = support_on table b furnace (place_of l) in
    if_done outcome (record { outcome = outcome; rank = rank_on table b furnace (place_of l); row = row; rule = rule_at table row })
    (λ _. record { outcome = outcome; rank = none; row = none; rule = 0 })

-- from the place `start` up to the place `stop`
pub record Span : Type 0 where
  pub start : ℕ
  pub stop : ℕ

-- the part: the row's literals, or "the empty part at the table's front" where refused
unfoldable pub explain_part : List ℤ → Board → (furnace : ℕ) → ℤ → Span
explain_part table b furnace l =
    let row = support_on table b furnace (place_of l) in
    if_done (first_fault (explain_faults table b furnace l))
    (record { start = width * row; stop = width * row + length (decode (numbers_at table row)) })
    (λ _. record { start = 0; stop = 0 })

-- `part` is that part of the lent table and no copy: the same numbers, in the same block of memory, two bytes a number after the
-- table's first
pub record IsPart (whole part : Bor (List ℤ)) (s : Span) : Type 0 where
  pub holds : part.now ≡ take (s.stop - s.start) (drop s.start whole.now)
  pub block : part.ref_ptr.0 ≡ whole.ref_ptr.0
  pub offset : part.ref_ptr.1 ≡ s.start * 2 + whole.ref_ptr.1
