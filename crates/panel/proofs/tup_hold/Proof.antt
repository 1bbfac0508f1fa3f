-- `tup_hold` meets its contract: it is the board's `hold`, whose board is as narrow as the given one.
use Rattle.meaning.proofs.Kit.{arith, to_z-of_z, rules}
use Rattle.panel.proofs.Narrow.{narrow_held}
use Rattle.panel.proofs.tup_hold.Statement.{statement}
use Rattle.panel.proofs.tup_hold.Tie as tie

change_out_requires : tie.Need-change_out-requires
change_out_requires c κs =
    rw (c.hold-change.ensures, c.board_in.ensures)
    (narrow_held _ _ (record { symbols = omega arith; rows = omega arith; rules = omega arith }) _ _)

returns : tie.Need-returns
returns c =
    rw (← c.board_in.ensures, ← to_z-of_z c.ranges.l, ← c.hold-change.ensures) c.change_out.ensures

pub tup_hold_spec : {M : Type 1} → statement M
tup_hold_spec = tie.close (tie.spec (λ c κs. search rules) (λ c κs. search rules) change_out_requires returns)
