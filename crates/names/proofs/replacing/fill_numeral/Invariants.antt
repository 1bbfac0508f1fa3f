-- The digits from `k` on are written, and those of `rest` are left.
use Rattle.std.proofs.Common.{◌≡◌, length}
use Rattle.names.specs.Replacing.{numeral}
use Rattle.names.proofs.Numerals.{filled}
use Rattle.names.proofs.replacing.fill_numeral.Given as goal

abbrev pub invariant-loop-k : goal.invariant-loop-k
invariant-loop-k l = numeral (length l.fn.part) l.number ≡ filled l.k l.rest l.part
