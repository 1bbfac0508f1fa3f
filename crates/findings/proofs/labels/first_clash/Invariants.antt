use Rattle.meaning.proofs.Kit.{◌≡◌, false, ℕ, ◌<◌}
use Rattle.findings.specs.Ranks.{clash_in}
use Rattle.findings.proofs.labels.first_clash.Given as goal

-- none of the first s symbols clashes
abbrev pub invariant-loop-s : goal.invariant-loop-s
invariant-loop-s l = (i : ℕ) → i < l.s → clash_in l.ranks i ≡ false
