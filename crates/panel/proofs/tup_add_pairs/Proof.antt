-- `tup_add_pairs` meets its contract: it is `pairs::add_pairs` of `positions`, whose rows and rules fit wholly.
use Rattle.meaning.proofs.Kit.{arith, rules}
use Rattle.panel.proofs.Narrow.{narrow_entered}
use Rattle.panel.proofs.tup_add_pairs.Statement.{statement}
use Rattle.panel.proofs.tup_add_pairs.Tie as tie

addition_out_requires : tie.Need-addition_out-requires
addition_out_requires c κs =
    let given = c.well_formed in
    rw (c.add_pairs-addition.ensures.0, c.board_in.ensures)
    (narrow_entered _ _ (record { symbols = omega arith; rows = omega arith; rules = omega arith }) _)

returns : tie.Need-returns
returns c =
    rw (← c.board_in.ensures, ← c.add_pairs-addition.ensures.0) (c.addition_out.ensures, c.add_pairs-addition.ensures.1)

pub tup_add_pairs_spec : {M : Type 1} → statement M
tup_add_pairs_spec = tie.close (tie.spec (λ c κs. search rules) (λ c κs. search rules) addition_out_requires (λ c. search rules) returns)
