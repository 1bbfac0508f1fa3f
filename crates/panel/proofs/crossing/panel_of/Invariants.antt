-- The loop of `crossing::panel_of`: the three numbers are those given, and of both sets the first k bytes those of the flags.
use Rattle.meaning.proofs.Kit.{◌≡◌}
use Rattle.board.specs.Grounds.{byte_of}
use Rattle.panel.proofs.Flags.{Made}
use Rattle.panel.proofs.crossing.panel_of.Given as goal

abbrev pub invariant-loop-k : goal.invariant-loop-k
invariant-loop-k l =
    (l.out.symbols ≡ l.fn.symbols) × (l.out.rows ≡ l.fn.rows) × (l.out.rules ≡ l.fn.rules)
    × Made byte_of l.first l.out.first l.k × Made byte_of l.second l.out.second l.k
