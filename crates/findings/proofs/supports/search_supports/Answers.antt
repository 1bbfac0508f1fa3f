use Rattle.meaning.proofs.Kit.{◌≡◌, refl, inl, inr, ◌<◌, arith, length-take, get_or, get_or-take, take}
use Rattle.literals.specs.Row.{rows_in}
use Rattle.findings.proofs.Supporting.{searched_none, searched_put, searched_left, searched_all}
use Rattle.findings.proofs.supports.search_supports.Goals as goal
use Rattle.findings.proofs.supports.search_supports.Goals.{then-from-p+then-p-from, else-from-p, else-from-p-via-then-from-p+else-p-from}
use Rattle.findings.proofs.supports.search_supports.Goals.{else-from-p-via-else-from-p}

pub loop-place-init : goal.loop-place-init
loop-place-init c = searched_none c.args.supports.now c.requires.supports_value

pub loop-place-preserved : goal.loop-place-preserved
loop-place-preserved c =
    let at = c.loop-place.place-index in
    let i = c.loop-place.invariant in
    let inside : at < c.args.end = omega (arith, length-take c.args.end c.args.queue.now) in
    let is : get_or (take c.args.end c.args.queue.now) at 0 ≡ get_or c.args.queue.now at 0 = rw get_or-take refl in
    elim c.if-from-p.branch [
      | then-from-p+then-p-from w ↦ rw (w.supports-is, is)
          (searched_put i w.support.result (rw is at w.if-from-p.true) (rw is at w.if-p-from.true) (rw is at w.support.ensures))
      | else-from-p w ↦ rw w.supports-is
          (searched_left i
          (elim w.else-from-p.branch [
            | else-from-p-via-then-from-p+else-p-from z ↦ inr (rw is at z.if-p-from.false)
            | else-from-p-via-else-from-p z ↦ inl (omega (arith, rw is at z.if-from-p.false))
          ]))
    ]

pub returns : goal.returns
returns c =
    let done : c.loop-place.place-index ≡ c.args.end =
    omega (arith, length-take c.args.end c.args.queue.now, c.requires.end_in_bounds) in
    searched_all (rows_in c.args.rows c.args.table.now) c.loop-place.invariant
    (rw done c.requires.all_queued) c.requires.supports_in_bounds
