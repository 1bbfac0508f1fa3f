-- The loop of `emitting::joins`: the units before `at`, one for each join, and those from there on are all. The measure is how many bytes
-- are left.
use Rattle.meaning.proofs.Kit.{◌≡◌, ◌≤◌, ◌-◌, ◌+◌, length, drop}
use Rattle.chains.specs.Emitting.{starts_at}
use Rattle.chains.proofs.emitting.joins.Given as goal

abbrev pub invariant-loop-count : goal.invariant-loop-count
invariant-loop-count l =
    (l.at ≤ length l.text) × (l.n ≤ l.at)
    × (length (starts_at l.brackets 0 l.text) ≡ l.n + length (starts_at l.brackets l.join (drop l.at l.text)))

abbrev pub decreases-loop-count : goal.decreases-loop-count
decreases-loop-count l = length l.text - l.at
