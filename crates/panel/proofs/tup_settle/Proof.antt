-- `tup_settle` meets its contract: it is the board's `settle`.
use Rattle.meaning.proofs.Kit.{◌∙◌, sym, ap, rules}
use Rattle.board.specs.Faults.{number_in}
use Rattle.board.proofs.Answered.{done_alone}
use Rattle.panel.proofs.tup_settle.Statement.{statement}
use Rattle.panel.proofs.tup_settle.Tie as tie

returns : tie.Need-returns
returns c =
    let board = c.board_in.ensures in
    let number = c.number_of.ensures in
    let told = c.settle-outcome.ensures in
    rw (← board) (
      number ∙ ap number_in told.0,
      (told.1.0, (told.1.1.0, (told.1.1.1.0, λ zero. rw board at (told.1.1.1.1 (done_alone _ (sym number ∙ zero)))))),
    )

pub tup_settle_spec : {M : Type 1} → statement M
tup_settle_spec = tie.close (tie.spec
    (λ c κs. search rules) (λ c κs. search rules) (λ c κs. search rules) (λ c. search rules) (λ c. search rules) (λ c. search rules) returns)
