-- `tup_read_text` meets its contract: it is the `read` of `text`.
use Rattle.meaning.proofs.Kit.{rules}
use Rattle.panel.proofs.tup_read_text.Statement.{statement}
use Rattle.panel.proofs.tup_read_text.Tie as tie

returns : tie.Need-returns
returns c =
    rw (← c.board_in.ensures, ← c.read-spelling.ensures.0) (c.spelling_out.ensures, c.read-spelling.ensures.1)

pub tup_read_text_spec : {M : Type 1} → statement M
tup_read_text_spec = tie.close (tie.spec (λ c κs. search rules) (λ c κs. search rules) (λ c κs. search rules) (λ c. search rules) returns)
