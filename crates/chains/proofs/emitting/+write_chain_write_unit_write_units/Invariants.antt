-- The measure of `emitting::write_chain`, `emitting::write_units` and `emitting::write_unit` is the bytes that are left, three times, with two
-- more for a chain and one more for its units. In the loop of `write_units` what was written, and what is left, make the whole.
use Rattle.meaning.proofs.Kit.{◌≤◌, ◌-◌, ◌+◌, ◌*◌, length}
use Rattle.chains.proofs.Words.{units_bytes}
use Rattle.chains.proofs.Writes.{Remains, left_at}
use Rattle.chains.proofs.emitting.+write_chain_write_unit_write_units.Given as goal

abbrev pub decreases-write_chain : goal.decreases-write_chain
decreases-write_chain l = 3 * length l.text.now + 2

abbrev pub decreases-write_unit : goal.decreases-write_unit
decreases-write_unit l = 3 * length l.text.now

abbrev pub decreases-write_units : goal.decreases-write_units
decreases-write_units l = 3 * length l.text.now + 1

abbrev pub invariant-write_units-loop-count : goal.invariant-write_units-loop-count
invariant-write_units-loop-count l =
    (l.at ≤ length l.text)
    × Remains l.fn.out l.start (units_bytes l.brackets l.text) l.out l.to (left_at l.brackets l.text l.at l.join)

abbrev pub decreases-write_units-loop-count : goal.decreases-write_units-loop-count
decreases-write_units-loop-count l = length l.text - l.at
