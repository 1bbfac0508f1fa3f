-- `tup_blame` meets its contract: it is the board's `blame`.
use Rattle.meaning.proofs.Kit.{◌∙◌, ap, rules}
use Rattle.board.specs.Faults.{number_in}
use Rattle.panel.proofs.tup_blame.Statement.{statement}
use Rattle.panel.proofs.tup_blame.Tie as tie

returns : tie.Need-returns
returns c =
    rw (← c.board_in.ensures) (c.number_of.ensures ∙ ap number_in c.blame-outcome.ensures.0, c.blame-outcome.ensures.1)

pub tup_blame_spec : {M : Type 1} → statement M
tup_blame_spec = tie.close (tie.spec (λ c κs. search rules) (λ c κs. search rules) (λ c κs. search rules) (λ c. search rules) returns)
