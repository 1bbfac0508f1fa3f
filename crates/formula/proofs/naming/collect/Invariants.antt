-- The loop of `naming::collect`: the marked numbers below `symbol` are gathered, and the measure is how many numbers are left.
use Rattle.meaning.proofs.Kit.{◌-◌, ◌+◌}
use Rattle.formula.proofs.Gathering.{Gathered}
use Rattle.formula.proofs.naming.collect.Given as goal

abbrev pub invariant-loop-symbol : goal.invariant-loop-symbol
invariant-loop-symbol l = Gathered l.marks l.symbols l.list l.count l.symbol

abbrev pub decreases-loop-symbol : goal.decreases-loop-symbol
decreases-loop-symbol l = l.symbols + 1 - l.symbol
