-- `tup_read_dimacs` meets its contract: it is the `read` of `dimacs`, whose rows are at most those lent.
use Rattle.meaning.proofs.Kit.{arith, rules}
use Rattle.panel.proofs.Narrow.{narrow_read}
use Rattle.panel.proofs.tup_read_dimacs.Statement.{statement}
use Rattle.panel.proofs.tup_read_dimacs.Tie as tie

reading_out_requires : tie.Need-reading_out-requires
reading_out_requires c κs =
    let given = c.well_formed in
    rw (c.read-reading.ensures.0, c.board_in.ensures)
    (narrow_read _ _ (record { symbols = omega arith; rows = omega arith; rules = omega arith }) _)

returns : tie.Need-returns
returns c =
    rw (← c.board_in.ensures, ← c.read-reading.ensures.0) (c.reading_out.ensures, c.read-reading.ensures.1)

pub tup_read_dimacs_spec : {M : Type 1} → statement M
tup_read_dimacs_spec = tie.close (tie.spec (λ c κs. search rules) (λ c κs. search rules) reading_out_requires (λ c. search rules) returns)
