-- A flag is set from `places` on just if one was found, or one is from k on.
use Rattle.meaning.proofs.Kit.{◌≡◌, ◌||◌}
use Rattle.board.proofs.Goodness.{flag_from}
use Rattle.board.proofs.testing.held_beyond.Given as goal

abbrev pub invariant-loop-k : goal.invariant-loop-k
invariant-loop-k l = flag_from l.held l.places ≡ (l.found || flag_from l.held l.k)
