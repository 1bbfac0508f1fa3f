-- The loop of `literals::row_sound`: the row is sound exactly where the numbers that are left rise from above `last`.
use Rattle.meaning.proofs.Kit.{◌≡◌, drop, take}
use Rattle.literals.specs.Row.{most_literals, rising, row_sound}
use Rattle.literals.proofs.row_sound.Given as goal

abbrev pub invariant-loop-l : goal.invariant-loop-l
invariant-loop-l l =
    row_sound l.symbols (take most_literals (drop l.at l.table)) ≡ rising l.symbols l.last (drop l.l-index l.l-items)
