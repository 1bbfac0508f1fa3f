-- The loop of `literals::literal_count`: the row's literals are the n passed and those that are left.
use Rattle.meaning.proofs.Kit.{◌≡◌, ◌+◌, length, drop, take}
use Rattle.literals.specs.Row.{most_literals, decode}
use Rattle.literals.proofs.literal_count.Given as goal

abbrev pub invariant-loop-n : goal.invariant-loop-n
invariant-loop-n l = length (decode (take most_literals (drop l.at l.table))) ≡ l.n + length (decode (drop l.n l.l-items))
