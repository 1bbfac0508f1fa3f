-- No slot before `k` has the word.
use Rattle.std.proofs.Common.{◌≡◌, ℕ, ◌<◌, false}
use Rattle.names.specs.Slots.{fits, slot_at}
use Rattle.names.proofs.slots.find.Given as goal

abbrev pub invariant-loop-k : goal.invariant-loop-k
invariant-loop-k l = (i : ℕ) → i < l.k → fits (slot_at l.width i l.slots) l.word ≡ false
