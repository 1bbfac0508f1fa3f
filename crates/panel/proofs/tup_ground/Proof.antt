-- `tup_ground` meets its contract: it is the board's `ground`.
use Rattle.meaning.proofs.Kit.{◌∙◌, ap, to_z-of_z, rules}
use Rattle.board.specs.Faults.{number_in}
use Rattle.panel.proofs.tup_ground.Statement.{statement}
use Rattle.panel.proofs.tup_ground.Tie as tie

returns : tie.Need-returns
returns c =
    rw (← c.board_in.ensures, ← to_z-of_z c.ranges.l)
    (c.number_of.ensures ∙ ap number_in c.ground-outcome.ensures.0, c.ground-outcome.ensures.1)

pub tup_ground_spec : {M : Type 1} → statement M
tup_ground_spec = tie.close (tie.spec (λ c κs. search rules) (λ c κs. search rules) (λ c κs. search rules) (λ c. search rules) returns)
