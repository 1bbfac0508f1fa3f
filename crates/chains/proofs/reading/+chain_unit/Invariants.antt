-- The measure of `reading::chain` and `reading::unit` is the bytes that are left, twice, and one more for a chain, since a chain hands all
-- its bytes to its first unit. In the loop of a chain what is read from here on is what is read of the whole.
use Rattle.meaning.proofs.Kit.{◌≡◌, ◌≤◌, ◌-◌, ◌+◌, ◌*◌, length}
use Rattle.chains.proofs.Words.{chain_at, read_of}
use Rattle.chains.proofs.Chains.{from_at_lem}
use Rattle.chains.proofs.reading.+chain_unit.Given as goal

abbrev pub decreases-chain : goal.decreases-chain
decreases-chain l = 2 * length l.text.now + 1

abbrev pub decreases-unit : goal.decreases-unit
decreases-unit l = 2 * length l.text.now

abbrev pub invariant-chain-loop-b : goal.invariant-chain-loop-b
invariant-chain-loop-b l = (l.at ≤ length l.text) × (read_of (chain_at l.brackets l.text) ≡ from_at_lem l.brackets l.text l.at l.join)

abbrev pub decreases-chain-loop-b : goal.decreases-chain-loop-b
decreases-chain-loop-b l = length l.text - l.at
