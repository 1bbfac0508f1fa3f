-- Settle "writes three lent tables .. Only the first S, 2S and 2S places are written."
use Rattle.std.specs.Prelude.{ℕ, ◌*◌, ◌≤◌, ◌<◌, ◌≡◌, ◌⊎◌, not, ◌&&◌, List, [], ◌∷◌, ◌++◌, leb, ℤ, length, drop, get_or}
use Rattle.meaning.specs.Tests.{none}
use Rattle.meaning.specs.Rounds.{ranks_of, supports_of, labels_of}
use Rattle.literals.specs.declared.refusal.Refusal.TheVariants.{BadBoard, TableTooShort, BadFurnace}
use Rattle.board.specs.Furnaces.{is_furnace, held_by}
use Rattle.board.specs.Faults.{good_board, Fault, first_fault, if_done}
use Rattle.board.specs.Ranking.{rows_on}
use Rattle.board.specs.declared.Board.{Board}
use Rattle.board.specs.Faults.{Outcome}

-- `labels`, `ranks` and `supports` are how many places are lent
unfoldable pub settle_faults : List ℤ → Board → (furnace : ℕ) → (labels ranks supports : ℕ) → List Fault
settle_faults table b furnace labels ranks supports =
    record { given = not (good_board table b); refusal = BadBoard }
    ∷ record { given = not (is_furnace furnace); refusal = BadFurnace }
    ∷ record { given = not (leb b.symbols labels && leb (2 * b.symbols) ranks && leb (2 * b.symbols) supports); refusal = TableTooShort }
    ∷ []

-- a lent table after a call: its first places written, or all as it was
abbrev pub over : {A : Type 0} → Outcome → List A → List A → List A
over outcome new lent = if_done outcome (new ++ drop (length new) lent) (λ _. lent)

unfoldable pub settle_outcome : List ℤ → Board → (furnace : ℕ) → (labels ranks supports : List ℕ) → Outcome
settle_outcome table b furnace labels ranks supports = first_fault (settle_faults table b furnace (length labels) (length ranks) (length supports))

unfoldable pub settled_labels : List ℤ → Board → (furnace : ℕ) → (labels ranks supports : List ℕ) → List ℕ
settled_labels table b furnace labels ranks supports =
    over (settle_outcome table b furnace labels ranks supports) (labels_of b.symbols (rows_on table b) (held_by b furnace)) labels

unfoldable pub settled_ranks : List ℤ → Board → (furnace : ℕ) → (labels ranks supports : List ℕ) → List ℕ
settled_ranks table b furnace labels ranks supports =
    over (settle_outcome table b furnace labels ranks supports) (ranks_of (2 * b.symbols) (rows_on table b) (held_by b furnace)) ranks

unfoldable pub settled_supports : List ℤ → Board → (furnace : ℕ) → (labels ranks supports : List ℕ) → List ℕ
settled_supports table b furnace labels ranks supports =
    over (settle_outcome table b furnace labels ranks supports) (supports_of (2 * b.symbols) (rows_on table b) (held_by b furnace)) supports

-- 02, Ticket 7: "No rank can exceed 2S": each of the ranks written is at most 2S, or none, 65535
abbrev pub RanksBounded : (symbols : ℕ) → (ranks : List ℕ) → Type 0
RanksBounded symbols ranks = (p : ℕ) → p < 2 * symbols → (get_or ranks p 0 ≤ 2 * symbols) ⊎ (get_or ranks p 0 ≡ none)
