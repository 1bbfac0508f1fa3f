-- `tup_write_dimacs` meets its contract: it is the `write` of `dimacs`.
use Rattle.meaning.proofs.Kit.{rules}
use Rattle.panel.proofs.tup_write_dimacs.Statement.{statement}
use Rattle.panel.proofs.tup_write_dimacs.Tie as tie

returns : tie.Need-returns
returns c =
    rw (← c.board_in.ensures, ← c.write-writing.ensures.0) (c.writing_out.ensures, c.write-writing.ensures.1)

pub tup_write_dimacs_spec : {M : Type 1} → statement M
tup_write_dimacs_spec = tie.close (tie.spec (λ c κs. search rules) (λ c κs. search rules) (λ c κs. search rules) (λ c. search rules) returns)
