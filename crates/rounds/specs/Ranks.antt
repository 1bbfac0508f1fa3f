-- Tables of ranks, round by round: which literals a row leaves open, what a round writes, and the ranks before and after it.
use Rattle.std.specs.Prelude.{Bool, cond, ◌&&◌, List, [], ◌∷◌, ℕ, eqb, length, get_or}
use Rattle.meaning.specs.Tests.{tabulate, none}
use Rattle.meaning.specs.Literals.{opp, has}
use Rattle.meaning.specs.Rounds.{by_rows, rank_by}
use Rattle.findings.specs.Ranks.{below}
use Rattle.rounds.specs.declared.marks.Open.{Open}
use Rattle.rounds.specs.declared.marks.Open.TheVariants.{Nothing, One, More}

-- which literals of a row are open, that is, have an opposite that is not known: none, one, or more than one
abbrev pub open_after : ℕ → Open → Open
open_after q Nothing = One q
open_after q (One r) = cond (eqb q r) (One q) More
open_after q More = More

unfoldable pub open_in : List Bool → List ℕ → Open
open_in known [] = Nothing
open_in known (q ∷ row) = cond (has known (opp q)) (open_in known row) (open_after q (open_in known row))

-- rank k written at each place that has none and passes the test
unfoldable pub mark : ℕ → (ℕ → Bool) → List ℕ → List ℕ
mark k test ranks = tabulate (length ranks) (λ p. cond (eqb (get_or ranks p 0) none && test p) k (get_or ranks p 0))

-- the ranks after round k, from those before it
unfoldable pub ranks_after : ℕ → List (List ℕ) → List ℕ → List ℕ
ranks_after k rows ranks = mark k (by_rows rows (below k ranks)) ranks

-- the ranks before the first round
unfoldable pub start_ranks : ℕ → List Bool → List ℕ
start_ranks places held = tabulate places (λ p. cond (has held p) 0 none)

-- the ranks as far as k rounds tell
unfoldable pub ranks_by : ℕ → List (List ℕ) → List Bool → ℕ → List ℕ
ranks_by places rows held k = tabulate places (rank_by places rows held k)
