-- `tup_least` meets its contract: it is the call of `least`.
use Rattle.meaning.proofs.Kit.{◌∙◌, ap, rules}
use Rattle.panel.specs.Crossing.{withdrawal_out}
use Rattle.panel.proofs.tup_least.Statement.{statement}
use Rattle.panel.proofs.tup_least.Tie as tie

returns : tie.Need-returns
returns c =
    rw (← c.board_in.ensures) (c.withdrawal_out.ensures ∙ ap withdrawal_out c.least-withdrawal.ensures)

pub tup_least_spec : {M : Type 1} → statement M
tup_least_spec = tie.close (tie.spec (λ c κs. search rules) (λ c κs. search rules) (λ c κs. search rules) returns)
