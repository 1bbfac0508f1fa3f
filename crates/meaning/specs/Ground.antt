-- 01, "Ground" and "Blame", with 02, Tickets 4 and 9: the premises that a literal, or a conflict, stands on.
use Rattle.std.specs.Prelude.{Bool, true, false, cond, not, ◌&&◌, ◌||◌, List, [], ◌∷◌, ℕ, zero, suc, ◌*◌, max, eqb, get_or, set}
use Rattle.meaning.specs.Tests.{any, tabulate, first_smallest}
use Rattle.meaning.specs.Literals.{place, opp, has}
use Rattle.meaning.specs.Rounds.{derived, rank_of, support_of, label}

-- the literal p reaches the premise h: "a held premise reaches itself; another derived literal reaches what the opposites of its
-- support's other literals reach." Ranks fall on the way, so that 2S + 1 steps are enough.
unfoldable pub reaches_in : ℕ → (ℕ → ℕ) → List (List ℕ) → List Bool → ℕ → ℕ → Bool
reaches_in zero support rows held p h = false
reaches_in (suc steps) support rows held p h =
    cond (has held p) (eqb p h)
    (any (λ q. not (eqb q p) && reaches_in steps support rows held (opp q) h) (get_or rows (support p) []))

unfoldable pub reaches : ℕ → List (List ℕ) → List Bool → ℕ → ℕ → Bool
reaches places rows held p h = reaches_in (suc places) (support_of places rows held) rows held p h

-- "1 for each premise reached from the literal"
unfoldable pub ground : ℕ → List (List ℕ) → List Bool → ℕ → List Bool
ground places rows held p = tabulate places (reaches places rows held p)

-- 02, Ticket 9: what is held once these premises are struck off, one after the other
abbrev pub struck_off : List Bool → List ℕ → List Bool
struck_off held [] = held
struck_off held (h ∷ gone) = struck_off (set held h false) gone

-- the "larger rank of its two literals": none, if one of them has no rank
unfoldable pub larger_rank : ℕ → List (List ℕ) → List Bool → ℕ → ℕ
larger_rank places rows held s = max (rank_of places rows held (place s true)) (rank_of places rows held (place s false))

-- 02, Ticket 4: "among symbols with label 3, the one whose larger rank of its two literals is smallest, and of equals the lowest symbol"
unfoldable pub blamed : ℕ → List (List ℕ) → List Bool → ℕ
blamed symbols rows held =
    let has3 : ℕ → Bool = λ i. eqb (label (derived (2 * symbols) rows held) (suc i)) 3 in
    let larger : ℕ → ℕ = λ i. larger_rank (2 * symbols) rows held (suc i) in suc (first_smallest has3 larger symbols)

-- 01: "the premises reached by +s or −s" for that s
unfoldable pub blame : ℕ → List (List ℕ) → List Bool → List Bool
blame symbols rows held =
    let s = blamed symbols rows held in
    tabulate (2 * symbols)
    (λ h. reaches (2 * symbols) rows held (place s true) h || reaches (2 * symbols) rows held (place s false) h)
