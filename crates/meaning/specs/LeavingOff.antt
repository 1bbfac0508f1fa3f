-- 01: "Source document 001 leaves off at the first violated clause. Here propagation goes on to the end .. Both find a conflict on the
-- same boards." This is 001's propagation, in any order of work: "if F ∪ A contains any violated constraint then exit"; where some
-- constraint forces a literal, one such is selected and its literal added; otherwise it is at its end.
use Rattle.std.specs.Prelude.{◌≡◌, ◌⊎◌, Bool, true, false, ℕ, ◌<◌, set}
use mathlib.Core.List.{List, [], ◌∷◌, ◌++◌, map, Memᴰ as In}
use Rattle.meaning.specs.Tests.{any, all, keep, from, tabulate}
use Rattle.meaning.specs.Literals.{opp, has}
use Rattle.meaning.specs.Rounds.{gives, by_rows}

-- 001's F ∪ A: the rows, and each held premise as a row of its own
abbrev pub constraints : ℕ → List (List ℕ) → List Bool → List (List ℕ)
constraints places rows held = rows ++ map (λ p. p ∷ []) (keep (λ p. has held p) (from 0 places))

-- "Violated if every literal of C is labeled F."
abbrev pub violated : List Bool → List ℕ → Bool
violated known row = all (λ q. has known (opp q)) row

-- some row or premise is
abbrev pub violation : ℕ → List (List ℕ) → List Bool → List Bool → Bool
violation places rows held known = any (violated known) (constraints places rows held)

-- the work can come to where just these literals are known: the premises, and while nothing is violated a literal more that some row gives
pub data WorksTo (places : ℕ) (rows : List (List ℕ)) (held : List Bool) : List Bool → Type 0 where
  start : WorksTo places rows held (tabulate places (λ p. has held p))
  work : {known : List Bool} (row : List ℕ) (p : ℕ) → WorksTo places rows held known → violation places rows held known ≡ false
      → In row rows → p < places → gives known row p ≡ true → WorksTo places rows held (set known p true)

-- the work leaves off where something is violated, or where no row gives a literal that is not known
abbrev pub LeavesOff : ℕ → List (List ℕ) → List Bool → List Bool → Type 0
LeavesOff places rows held known =
    (violation places rows held known ≡ true) ⊎ ((p : ℕ) → p < places → by_rows rows known p ≡ true → has known p ≡ true)
