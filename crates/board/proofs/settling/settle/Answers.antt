-- Its tests are the faults of `settle_faults`, in their order, and what it lends comes back filled.
use Rattle.meaning.proofs.Kit.{◌∙◌, sym, ap₂, ◌*◌, arith, length, drop, take, length-take-le, rules, le-leb, lt-leb}
use Rattle.literals.specs.declared.refusal.Refusal.TheVariants.{BadBoard, TableTooShort, BadFurnace}
use Rattle.findings.specs.Ranks.{labels_from}
use Rattle.board.specs.Furnaces.{held_by}
use Rattle.board.specs.Ranking.{rows_on}
use Rattle.board.specs.Settling.{settle_faults, settle_outcome}
use Rattle.board.proofs.TwoSets.{held_long}
use Rattle.board.proofs.Goodness.{good_is}
use Rattle.board.proofs.Lending.{rows_fit, filled_is, supports_are, all_supports, front_of, places_few}
use Rattle.board.proofs.Settled.{settle_refused, settle_done}
use Rattle.board.proofs.settling.settle.Goals as goal
use Rattle.board.proofs.settling.settle.Goals.{then-labels-symbols-via-then-labels-symbols}
use Rattle.board.proofs.settling.settle.Goals.{then-labels-symbols-via-else-labels-symbols+then-ranks-places}
use Rattle.board.proofs.settling.settle.Goals.{then-labels-symbols-via-else-labels-symbols+else-ranks-places+then-supports-places}

pub returns-then-not-good : goal.returns-then-not-good
unfolding settle_outcome settle_faults
returns-then-not-good c =
    let r = settle_refused _ _ _ _ _ _ BadBoard (rw (sym c.good.ensures ∙ c.if-not-good.true)) in
    record { value = r.0; labels_after = r.1; ranks_after = r.2; supports_after = r.3; ranks_bounded = r.4 }

pub returns-then-not-is_furnace : goal.returns-then-not-is_furnace
unfolding settle_outcome settle_faults
returns-then-not-is_furnace c =
    let r = settle_refused _ _ _ _ _ _ BadFurnace
    (rw (sym c.good.ensures ∙ c.if-not-good.false, sym c.is_furnace.ensures ∙ c.if-not-is_furnace.true)) in
    record { value = r.0; labels_after = r.1; ranks_after = r.2; supports_after = r.3; ranks_bounded = r.4 }

pub overflow_mul-places : goal.overflow_mul-places
overflow_mul-places c = omega (arith, (good_is _ _ (sym c.good.ensures ∙ c.if-not-good.false)).sound.symbols)

pub returns-then-labels-symbols : goal.returns-then-labels-symbols
unfolding settle_outcome settle_faults
returns-then-labels-symbols c =
    let good = sym c.good.ensures ∙ c.if-not-good.false in
    let furnace = sym c.is_furnace.ensures ∙ c.if-not-is_furnace.false in
    let a = c.args in
    let r = settle_refused a.table.now a.board a.furnace a.labels.now a.ranks.now a.supports.now TableTooShort
    (elim c.then-labels-symbols.branch [
      | then-labels-symbols-via-then-labels-symbols w ↦ rw (good, furnace, lt-leb _ _ w.if-labels-symbols.true)
      | then-labels-symbols-via-else-labels-symbols+then-ranks-places w ↦
          rw (good, furnace, le-leb _ _ w.if-labels-symbols.false, lt-leb _ _ w.if-ranks-places.true)
      | then-labels-symbols-via-else-labels-symbols+else-ranks-places+then-supports-places w ↦
          rw (good, furnace, le-leb _ _ w.if-labels-symbols.false, le-leb _ _ w.if-ranks-places.false, lt-leb _ _ w.if-supports-places.true)
    ]) in
    record { value = r.0; labels_after = r.1; ranks_after = r.2; supports_after = r.3; ranks_bounded = r.4 }

pub propagate-requires : goal.propagate-requires
propagate-requires c =
    let a = c.args in
    let good = good_is _ _ (sym c.good.ensures ∙ c.if-not-good.false) in
    let furnace = sym c.is_furnace.ensures ∙ c.if-not-is_furnace.false in
    let flags = held_long a.board a.furnace 400 furnace (search rules) (search rules) c.premises-held.ensures in
    let ranks = length-take-le _ _ c.if-ranks-places.false in
    record {
      fit = rows_fit a.table.now a.board a.ranks.now c.if-ranks-places.false good;
      ranks_in_bounds =
          (omega (arith, ranks, flags, good.sound.symbols), omega (arith, ranks, length-take-le _ _ c.if-supports-places.false));
    }

pub returns : goal.returns
unfolding settle_outcome settle_faults
returns c =
    let a = c.args in
    let b = a.board in
    let table = a.table.now in
    let good = sym c.good.ensures ∙ c.if-not-good.false in
    let furnace = sym c.is_furnace.ensures ∙ c.if-not-is_furnace.false in
    let ranks = filled_is table b a.ranks.now c.if-ranks-places.false a.furnace c.premises-held.ensures c.propagate.ensures.ranks_after in
    let front = front_of (2 * b.symbols) c.propagate.new.ranks (drop (2 * b.symbols) a.ranks.now)
    (c.propagate.auto.ranks ∙ length-take-le _ _ c.if-ranks-places.false) in
    let r = settle_done table b a.furnace a.labels.now a.ranks.now a.supports.now
    (places_few _ _ (good_is _ _ good))
    (rw (good, furnace, le-leb _ _ c.if-labels-symbols.false, le-leb _ _ c.if-ranks-places.false, le-leb _ _ c.if-supports-places.false))
    (c.write_labels.ensures ∙ ap₂ labels_from (length-take-le _ _ c.if-labels-symbols.false) (front.is ∙ ranks))
    ranks
    (all_supports (2 * b.symbols) (rows_on table b) (held_by b a.furnace) (length-take-le _ _ c.if-supports-places.false)
    (supports_are table b a.ranks.now c.if-ranks-places.false a.furnace c.premises-held.ensures
    (length (take (2 * b.symbols) a.supports.now)) 0 c.propagate.ensures.supports_after)) in
    record { value = r.0; labels_after = r.1; ranks_after = r.2; supports_after = r.3; ranks_bounded = r.4 }
