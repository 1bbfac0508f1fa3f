-- `tup_ask` meets its contract: it is the board's `ask`.
use Rattle.meaning.proofs.Kit.{to_z-of_z, rules}
use Rattle.panel.proofs.tup_ask.Statement.{statement}
use Rattle.panel.proofs.tup_ask.Tie as tie

returns : tie.Need-returns
returns c =
    rw (← c.board_in.ensures, ← to_z-of_z c.ranges.l, ← c.ask-answer.ensures) c.answer_out.ensures

pub tup_ask_spec : {M : Type 1} → statement M
tup_ask_spec = tie.close (tie.spec (λ c κs. search rules) (λ c κs. search rules) (λ c κs. search rules) returns)
