-- 02, Ticket 13: "removing positions without an allowed partner, repeated until none is left to remove". It speaks of no clauses. A set of positions
-- has a Boolean for each symbol, from 0 on.
use Rattle.std.specs.Prelude.{Bool, true, false, not, ◌&&◌, ◌||◌, List, ℕ, suc, ◌-◌, eqb}
use Rattle.meaning.specs.Tests.{any, all, member, tabulate, from}
use Rattle.meaning.specs.Literals.{place, has}
use Rattle.meaning.specs.Rounds.{closure}
use Rattle.positions.specs.Positions.{symbol_at, symbols_in, Side, sides, Entry, positions, pairs}

-- "A premise +s removes the variable's other positions, −s its own"
abbrev pub premise_removes : List Bool → ℕ → Entry → Bool
premise_removes held s (positions x) =
    member s (symbols_in x) && (has held (place s false) || any (λ t. not (eqb t s) && has held (place t true)) (symbols_in x))
premise_removes held s (pairs t) = false

-- where the positions of `gone` are removed, symbol s is a position "without an allowed partner"
abbrev pub side_removes : List Bool → ℕ → Side → Bool
side_removes gone s side =
    member s (symbols_in side.own)
    && all (λ j. not (side.may (s - side.own.first) j) || has gone (symbol_at side.partner j)) (from 0 side.partner.count)

abbrev pub pairs_remove : List Bool → ℕ → Entry → Bool
pairs_remove gone s (positions x) = false
pairs_remove gone s (pairs t) = any (side_removes gone s) (sides t)

-- "repeated until none is left to remove": the rounds of propagation with another step
unfoldable pub removed : (S : ℕ) → List Entry → (held : List Bool) → List Bool
removed S entries held =
    closure (suc S) (λ gone s. any (pairs_remove gone s) entries) (tabulate (suc S) (λ s. any (premise_removes held s) entries))

-- removing "empties some variable"
abbrev pub emptied_by : List Bool → Entry → Bool
emptied_by gone (positions x) = all (has gone) (symbols_in x)
emptied_by gone (pairs t) = false

unfoldable pub emptied : (S : ℕ) → List Entry → (held : List Bool) → Bool
emptied S entries held = any (emptied_by (removed S entries held)) entries
