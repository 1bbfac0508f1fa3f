-- The loop of `truth::fill_truth`: the values under the assignments passed stand in the table.
use Rattle.meaning.proofs.Kit.{◌≡◌, false, ℕ, ◌<◌, get_or}
use Rattle.formula.proofs.Words.{parse, levels}
use Rattle.formula.proofs.Assignments.{value_at}
use Rattle.formula.proofs.truth.fill_truth.Given as goal

abbrev pub invariant-loop-assignment : goal.invariant-loop-assignment
invariant-loop-assignment l = (k : ℕ) → k < l.assignment → get_or l.table k false ≡ value_at l.names (parse 255 levels l.bytes) k
