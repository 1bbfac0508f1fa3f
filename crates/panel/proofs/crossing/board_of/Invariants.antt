-- The loop of `crossing::board_of`: the three numbers are those given, and of both sets the first k flags those of the bytes.
use Rattle.meaning.proofs.Kit.{◌≡◌}
use Rattle.panel.specs.Crossing.{flag_of}
use Rattle.panel.proofs.Flags.{Made}
use Rattle.panel.proofs.crossing.board_of.Given as goal

abbrev pub invariant-loop-k : goal.invariant-loop-k
invariant-loop-k l =
    (l.board.symbols ≡ l.fn.symbols) × (l.board.rows ≡ l.fn.rows) × (l.board.rules ≡ l.fn.rules)
    × Made flag_of l.first l.board.first l.k × Made flag_of l.second l.board.second l.k
