-- `lines::saying::say_command` meets its contract: the body is cut short, or whole.
use Rattle.lines.proofs.Bodies.{cut_said, cut_table, whole_said}
use Rattle.lines.proofs.saying.say_command.Goals as goal

pub returns-then-body-body_length-clause-did : goal.returns-then-body-body_length-clause-did
returns-then-body-body_length-clause-did c =
    let h = rw c.body_length.ensures at c.if-body-body_length.true in
    rw (cut_said c.args.board c.args.table.now c.args.body.now c.args.command h) c.refuse.ensures.did

pub returns-then-body-body_length-clause-table_after : goal.returns-then-body-body_length-clause-table_after
returns-then-body-body_length-clause-table_after c =
    let h = rw c.body_length.ensures at c.if-body-body_length.true in
    cut_table c.args.board c.args.table.now c.args.body.now c.args.command h

pub returns-clause-did : goal.returns-clause-did
returns-clause-did c =
    let h = rw c.body_length.ensures at c.if-body-body_length.false in
    rw (whole_said c.args.board c.args.table.now c.args.body.now c.args.command h) c.say_body.ensures.did
