-- The loop of `literals::rows_sound`: the rows passed are sound, but that none of their rules' numbers was compared with the count, and
-- `last` is the last of these numbers.
use Rattle.meaning.proofs.Kit.{◌≡◌, pos}
use Rattle.literals.specs.Row.{rule_before}
use Rattle.literals.proofs.RuleNumbers.{Rises}
use Rattle.literals.proofs.rows_sound.Given as goal

abbrev pub invariant-loop-row : goal.invariant-loop-row
invariant-loop-row l = (l.last ≡ pos (rule_before l.table l.row)) × Rises l.symbols l.table l.row
