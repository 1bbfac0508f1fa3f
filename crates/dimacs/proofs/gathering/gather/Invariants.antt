-- The loop of `gather`: the words from i on stand behind literals of the clause, and what is kept is of these. The measure is how many bytes are left.
use Rattle.meaning.proofs.Kit.{◌≡◌, ◌≤◌, ◌-◌, length, drop}
use Rattle.dimacs.specs.Words.{words}
use Rattle.dimacs.proofs.FirstClause.{Begun}
use Rattle.dimacs.proofs.gathering.gather.Given as goal

abbrev pub invariant-loop-k : goal.invariant-loop-k
invariant-loop-k l =
    (l.at ≤ l.i) × (l.i ≤ length l.text) × (l.k.count ≤ length l.row) × (length l.row ≡ length l.fn.row)
    × Begun l.symbols l.variables (words (drop l.at l.text)) (words (drop l.i l.text)) l.row l.k

abbrev pub decreases-loop-k : goal.decreases-loop-k
decreases-loop-k l = length l.text - l.i
