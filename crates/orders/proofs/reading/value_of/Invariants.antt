-- Digits are left, and the number goes on from `value`.
use Rattle.orders.proofs.Digits.{Valued}
use Rattle.orders.proofs.reading.value_of.Given as goal

abbrev pub invariant-loop-byte : goal.invariant-loop-byte
invariant-loop-byte l = Valued l.word l.byte-index l.value
