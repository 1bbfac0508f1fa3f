-- `lines::saying::say_why` meets its contract: by the outcome; the part is a row of at most eight literals.
use Rattle.meaning.proofs.Kit.{◌≡◌, ap, ◌-◌, arith, length, drop, take, length-take, to_z-of_z}
use Rattle.board.specs.Asking.{explain_part}
use Rattle.lines.specs.Commands.{journal_furnace}
use Rattle.lines.proofs.Explaining.{part_most}
use Rattle.lines.proofs.saying.say_why.Goals as goal

pub put_reason-written-requires : goal.put_reason-written-requires
put_reason-written-requires c =
    let a = c.args in
    let table = a.table.now in
    let span = explain_part table a.board journal_furnace a.l in
    let part : c.explain-literals.result.now ≡ take (span.stop - span.start) (drop span.start table) =
    rw (to_z-of_z c.ranges.l) at c.explain-literals.ensures.holds in
    let most = part_most table a.board journal_furnace a.l in
    (c.requires, omega (arith, ap length part, most, length-take (span.stop - span.start) (drop span.start table)))
