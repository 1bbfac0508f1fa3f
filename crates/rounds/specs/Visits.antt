-- Which rows a round looks at: those that a place of the rank before touches, and of them those that may have one literal left or none.
use Rattle.std.specs.Prelude.{◌≡◌, ◌⊎◌, Bool, true, cond, ℕ, ◌+◌, ◌-◌, ◌≤◌, ◌<◌, ltb, ℤ, length, get_or, take}
use mathlib.Core.List.{List, [], ◌∷◌, Memᴰ as In}
use Rattle.meaning.specs.Tests.{member, none}
use Rattle.meaning.specs.Literals.{opp}
use Rattle.meaning.specs.Rounds.{by_rows}
use Rattle.literals.specs.Row.{numbers_at, decode, rows_in}
use Rattle.index.specs.Index.{Contains}
use Rattle.findings.specs.Ranks.{below}
use Rattle.rounds.specs.Ranks.{mark}

-- row r contains the opposite of a place that stands in the queue from `from` to `to`
abbrev pub Touched : List ℤ → List ℕ → (from to : ℕ) → ℕ → Type 0
Touched table queue from to r = (i : ℕ) × (from ≤ i) × (i < to) × Contains table r (opp (get_or queue i 0))

-- rank k was written at what some of the rows give, those that are due among them
pub record Looked (k used : ℕ) (table : List ℤ) (Due : ℕ → Type 0) (before after : List ℕ) : Type 0 where
  pub seen : List (List ℕ)
  pub among : (row : List ℕ) → In row seen → In row (rows_in used table)
  pub due : (r : ℕ) → r < used → Due r → In (decode (numbers_at table r)) seen
  pub is : after ≡ mark k (by_rows seen (below k before)) before

-- what the rows give from the ranks below k has a rank
abbrev pub Settled : ℕ → List (List ℕ) → List ℕ → Type 0
Settled k rows ranks = (p : ℕ) → p < length ranks → by_rows rows (below k ranks) p ≡ true → get_or ranks p 0 ≡ none → ⊥

-- ---- how many literals of each row are left open

-- a row's count once one more of its literals is ruled out; it stays at 1, since a row with one literal left or none is looked at either way
unfoldable pub struck : ℕ → ℕ
struck n = cond (ltb 2 n) (n - 1) 1

-- how many literals of a row have an opposite that is not known
unfoldable pub open_count : (ℕ → Bool) → List ℕ → ℕ
open_count known [] = 0
open_count known (q ∷ row) = cond (known (opp q)) 0 1 + open_count known row

-- a row counts no more literals than those whose opposite does not stand in the queue before `at`, or at most one
pub record Counts (used : ℕ) (table : List ℤ) (queue : List ℕ) (at : ℕ) (counts : List ℕ) : Type 0 where
  pub each : (r : ℕ) → r < used
      → (get_or counts r 0 ≤ 1) ⊎ (get_or counts r 0 ≤ open_count (λ x. member x (take at queue)) (decode (numbers_at table r)))

-- the literal p was ruled out: each row that contains it counts one less, or at most one, and the others count as before
pub record Struck (used : ℕ) (table : List ℤ) (p : ℕ) (old new : List ℕ) : Type 0 where
  pub less : (r : ℕ) → r < used → Contains table r p → (get_or new r 0 ≤ 1) ⊎ (get_or new r 0 < get_or old r 0)
  pub same : (r : ℕ) → (get_or new r 0 ≡ get_or old r 0) ⊎ Contains table r p
