-- A run lies within the text.
use Rattle.std.proofs.Common.{ℕ, List, ◌≡◌, ◌+◌, ◌≤◌, arith, ap, length}
use Rattle.formula.proofs.Parts.{onward, onward_drop}
use Rattle.names.specs.Names.{run}
use Rattle.names.proofs.Replaced.{run_inside}
use Rattle.saying.proofs.showing.bad_number.Goals as goal

-- a run ends within the text
inside : (text : List ℕ) (at n : ℕ) → at ≤ length text → n ≡ run (onward at text) → at + n ≤ length text
inside text at n start runs = run_inside text at (at + n) (omega arith) start (omega (arith, runs, ap run (onward_drop at text)))

pub overflow_add-at-else-n-eq0 : goal.overflow_add-at-else-n-eq0
overflow_add-at-else-n-eq0 c = omega (arith, inside c.args.text.now c.loop-at.at c.run-n.result c.loop-at.invariant c.run-n.ensures)

pub slice_bounds-is_good_number-end : goal.slice_bounds-is_good_number-end
slice_bounds-is_good_number-end c = inside c.args.text.now c.loop-at.at c.run-n.result c.loop-at.invariant c.run-n.ensures
