-- `reading::number` meets its contract.
use Rattle.meaning.proofs.Kit.{◌∙◌, ap, ap₂, ℕ, ◌+◌, arith, drop}
use Rattle.chains.proofs.Words.{lead, Blank, Number}
use Rattle.formula.proofs.Parts.{onward, onward_drop, onward_length}
use Rattle.chains.proofs.Runs.{lead_extent}
use Rattle.chains.proofs.reading.number.Goals as goal

pub slice_bounds-run-count : goal.slice_bounds-run-count
slice_bounds-run-count c = omega (arith, c.run-count.ensures, lead_extent Number c.args.body.now)

pub slice_bounds-run-start : goal.slice_bounds-run-start
slice_bounds-run-start c = omega (arith, c.run-count.ensures, lead_extent Number c.args.body.now)

pub overflow_add-result : goal.overflow_add-result
overflow_add-result c =
    let n = c.run-count.result in
    let l = c.args.body.now in
    let blanks = lead_extent Blank (onward n l) in
    omega (arith, c.run-count.ensures, lead_extent Number l, c.run.ensures, blanks, onward_length n l, c.well_formed.0.1)

pub returns : goal.returns
returns c =
    let n = c.run-count.result in
    let l = c.args.body.now in
    ap₂ (λ (a b : ℕ). a + b) c.run-count.ensures
    (c.run.ensures ∙ ap (lead Blank) (onward_drop n l ∙ ap (λ (k : ℕ). drop k l) c.run-count.ensures))
