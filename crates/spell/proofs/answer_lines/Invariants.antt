-- `answer_lines` is safe and ends: the buffers stay as long as they were.
use Rattle.std.specs.Prelude.{◌≡◌, ◌-◌, length}
use Rattle.spell.proofs.answer_lines.Given as goal

abbrev pub invariant-loop-at : goal.invariant-loop-at
invariant-loop-at g l =
    (length l.table ≡ length l.initial.table) × (length l.bytes ≡ length l.initial.bytes) × (length l.page ≡ length l.initial.page)

abbrev pub decreases-loop-at : goal.decreases-loop-at
decreases-loop-at g l = length l.input - l.at
