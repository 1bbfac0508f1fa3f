-- What stands where in the queue of the places that have a rank: the premises, and the places of the last rank.
use Rattle.std.specs.Prelude.{◌≡◌, Bool, true, not, List, ℕ, ◌≤◌, ◌<◌, eqb, length, get_or}
use Rattle.meaning.specs.Tests.{none}
use Rattle.meaning.specs.Literals.{has}
use Rattle.findings.specs.Queue.{counted}
use Rattle.rounds.specs.Ranks.{start_ranks}

-- of the ranks, those pass that are ranks
abbrev pub ranked : ℕ → Bool
ranked r = not (eqb r none)

-- the held places below `places` stand in the queue before its end: as many as have a rank at the start
pub record Premises (places : ℕ) (held : List Bool) (queue : List ℕ) (end : ℕ) : Type 0 where
  pub count : end ≡ counted ranked (start_ranks places held)
  pub each : (p : ℕ) → p < places → has held p ≡ true → (i : ℕ) × (i < end) × (get_or queue i 0 ≡ p)
  pub inside : (i : ℕ) → i < end → get_or queue i 0 < places

-- the places of rank k stand in the queue from `from` to `to`, and those of a lower rank before them
pub record Frontier (ranks queue : List ℕ) (k from to : ℕ) : Type 0 where
  pub has : (p : ℕ) → p < length ranks → get_or ranks p 0 ≡ k → (i : ℕ) × (from ≤ i) × (i < to) × (get_or queue i 0 ≡ p)
  pub lower : (p : ℕ) → p < length ranks → get_or ranks p 0 < k → (i : ℕ) × (i < from) × (get_or queue i 0 ≡ p)
  pub inside : (i : ℕ) → i < to → get_or queue i 0 < length ranks
