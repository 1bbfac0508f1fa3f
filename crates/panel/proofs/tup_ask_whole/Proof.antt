-- `tup_ask_whole` meets its contract: it is the board's `ask_whole`.
use Rattle.meaning.proofs.Kit.{to_z-of_z, rules}
use Rattle.panel.proofs.tup_ask_whole.Statement.{statement}
use Rattle.panel.proofs.tup_ask_whole.Tie as tie

returns : tie.Need-returns
returns c =
    rw (← c.board_in.ensures, ← to_z-of_z c.ranges.l, ← c.ask_whole-answer.ensures) c.answer_out.ensures

pub tup_ask_whole_spec : {M : Type 1} → statement M
tup_ask_whole_spec = tie.close (tie.spec (λ c κs. search rules) (λ c κs. search rules) (λ c κs. search rules) returns)
