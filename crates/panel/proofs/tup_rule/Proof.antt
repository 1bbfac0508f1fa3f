-- `tup_rule` meets its contract: it is the board's `add_rule`, whose rows are at most those lent.
use Rattle.meaning.proofs.Kit.{arith, rules}
use Rattle.panel.proofs.Narrow.{narrow_ruled}
use Rattle.panel.proofs.tup_rule.Statement.{statement}
use Rattle.panel.proofs.tup_rule.Tie as tie

addition_out_requires : tie.Need-addition_out-requires
addition_out_requires c κs =
    let given = c.well_formed in
    rw (c.add_rule-addition.ensures.0, c.board_in.ensures)
    (narrow_ruled _ _ (record { symbols = omega arith; rows = omega arith; rules = omega arith }) _)

returns : tie.Need-returns
returns c =
    rw (← c.board_in.ensures, ← c.add_rule-addition.ensures.0) (c.addition_out.ensures, c.add_rule-addition.ensures.1)

pub tup_rule_spec : {M : Type 1} → statement M
tup_rule_spec = tie.close (tie.spec (λ c κs. search rules) (λ c κs. search rules) addition_out_requires (λ c. search rules) returns)
