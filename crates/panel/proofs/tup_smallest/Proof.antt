-- `tup_smallest` meets its contract: it is the call of `smallest`.
use Rattle.meaning.proofs.Kit.{◌∙◌, ap, to_z-of_z, rules}
use Rattle.panel.specs.Crossing.{listing_out}
use Rattle.panel.proofs.tup_smallest.Statement.{statement}
use Rattle.panel.proofs.tup_smallest.Tie as tie

returns : tie.Need-returns
returns c =
    rw (← c.board_in.ensures, ← to_z-of_z c.ranges.l) (
      c.listing_out.ensures ∙ ap listing_out c.smallest-listing.ensures.0,
      c.smallest-listing.ensures.1,
    )

pub tup_smallest_spec : {M : Type 1} → statement M
tup_smallest_spec = tie.close (tie.spec (λ c κs. search rules) (λ c κs. search rules) (λ c κs. search rules) (λ c. search rules) returns)
