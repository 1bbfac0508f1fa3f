-- A table of ranks, one number for each place, and what it tells.
use Rattle.std.specs.Prelude.{Bool, cond, ◌&&◌, List, map, ℕ, suc, ◌+◌, ◌*◌, ◌/◌, max, eqb, ltb, Option, Some, None, length, get_or}
use Rattle.meaning.specs.Tests.{tabulate, none, first_smallest}
use Rattle.meaning.specs.Rounds.{label_of, support_at}

-- the places whose rank is below k
unfoldable pub below : ℕ → List ℕ → List Bool
below k ranks = map (λ r. ltb r k) ranks

-- the supports and the labels that a table of ranks tells
unfoldable pub support_from : List (List ℕ) → List ℕ → ℕ → ℕ
support_from rows ranks p = support_at (λ k. below (suc k) ranks) rows (get_or ranks p 0) p

unfoldable pub labels_from : ℕ → List ℕ → List ℕ
labels_from symbols ranks = tabulate symbols (λ s. label_of (ltb (get_or ranks (2 * s) none) none) (ltb (get_or ranks (2 * s + 1) none) none))

-- both literals of a symbol, counted from 0, have a rank
unfoldable pub clash_in : List ℕ → ℕ → Bool
clash_in ranks s = ltb (get_or ranks (2 * s) 0) none && ltb (get_or ranks (2 * s + 1) 0) none

-- the larger of the ranks of its two literals
unfoldable pub larger_in : List ℕ → ℕ → ℕ
larger_in ranks s = max (get_or ranks (2 * s) 0) (get_or ranks (2 * s + 1) 0)

-- the symbol, counted from 0, that blame takes: of those with both literals ranked the one whose larger rank is smallest, and of equals the
-- lowest; none, if there is none
unfoldable pub earliest_in : List ℕ → ℕ
earliest_in ranks = first_smallest (clash_in ranks) (larger_in ranks) (length ranks / 2)

-- a search that ends at none found nothing
abbrev pub found : ℕ → Option ℕ
found n = cond (eqb n none) None (Some n)
