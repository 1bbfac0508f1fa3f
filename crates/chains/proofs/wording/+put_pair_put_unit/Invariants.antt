-- The measure of `wording::put_unit` and `wording::put_pair` is the depth left, twice, with one more for a unit, which hands all its bytes to
-- `put_pair`.
use Rattle.meaning.proofs.Kit.{◌+◌, ◌*◌}
use Rattle.chains.proofs.wording.+put_pair_put_unit.Given as goal

abbrev pub decreases-put_pair : goal.decreases-put_pair
decreases-put_pair l = 2 * l.depth

abbrev pub decreases-put_unit : goal.decreases-put_unit
decreases-put_unit l = 2 * l.depth + 1
