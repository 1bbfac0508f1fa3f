use Rattle.meaning.proofs.Kit.{◌≡◌, false, ℕ, ◌<◌, ◌+◌}
use Rattle.meaning.specs.Literals.{has}
use Rattle.rounds.proofs.ranks.one_of_eight.Given as goal

-- where it says no so far none of those passed is held
abbrev pub invariant-loop-is_held : goal.invariant-loop-is_held
invariant-loop-is_held l = l.one ≡ false → (i : ℕ) → i < l.is_held-index → has l.held (l.first + i) ≡ false
