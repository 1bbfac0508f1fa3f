-- `sitting::take_bytes` meets its contract: a part ends at the next line feed, or with the bytes.
use Rattle.std.proofs.Common.{◌∙◌, refl, ap, ◌+◌, arith}
use Rattle.formula.proofs.Parts.{onward_drop}
use Rattle.desk.specs.Sittings.{after_bytes, line_length}
use Rattle.desk.proofs.Bytes.{bytes_up_to, line_inside, line_is, short}
use Rattle.desk.proofs.Leaving.{leaves_up_to, on_err}
use Rattle.desk.proofs.sitting.take_bytes.Goals as goal

pub loop-at-init : goal.loop-at-init
unfolding after_bytes
loop-at-init g c = (refl, c.requires.3, c.requires.0, c.requires.1, c.requires.2)

pub overflow_add-end : goal.overflow_add-end
overflow_add-end g c =
    let bytes = c.args.bytes.now in
    let next = c.line_length.ensures.value ∙ line_is _ ∙ ap line_length (onward_drop c.loop-at.at bytes) in
    omega (arith, line_inside bytes c.loop-at.at c.line_length.result (omega arith) next)

pub slice_bounds-take_part-end : goal.slice_bounds-take_part-end
slice_bounds-take_part-end g c =
    let bytes = c.args.bytes.now in
    let next = c.line_length.ensures.value ∙ line_is _ ∙ ap line_length (onward_drop c.loop-at.at bytes) in
    omega (arith, line_inside bytes c.loop-at.at c.line_length.result (omega arith) next)

pub returns-in_err-here-clause-failed : goal.returns-in_err-here-clause-failed
returns-in_err-here-clause-failed g c =
    let l = c.loop-at in
    let bytes = c.args.bytes.now in
    let next = c.line_length.ensures.value ∙ line_is _ ∙ ap line_length (onward_drop l.at bytes) in
    let up_to = bytes_up_to _ _ bytes l.at c.line_length.result l.invariant.0 (omega arith) (short l.here.filled l.line l.invariant.1) next in
    on_err _ (leaves_up_to _ bytes (l.at + c.line_length.result + 1) up_to c.in_err-here.ensures.failed)

pub loop-at-preserved : goal.loop-at-preserved
loop-at-preserved g c =
    let l = c.loop-at in
    let bytes = c.args.bytes.now in
    let next = c.line_length.ensures.value ∙ line_is _ ∙ ap line_length (onward_drop l.at bytes) in
    let up_to = bytes_up_to _ _ bytes l.at c.line_length.result l.invariant.0 (omega arith) (short l.here.filled l.line l.invariant.1) next in (
      c.in_ok-here.ensures.line_after ∙ up_to,
      c.in_ok-here.ensures.filled_bound,
      c.take_part.auto.names ∙ l.invariant.2,
      c.take_part.auto.texts ∙ l.invariant.3,
      c.take_part.auto.line ∙ l.invariant.4,
    )
