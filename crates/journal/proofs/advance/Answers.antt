-- `journal::advance` meets its contract: one line more in the buffer, and one command less to come.
use Rattle.meaning.proofs.Kit.{arith}
use Rattle.journal.proofs.Telling.{next_runs, next_told}
use Rattle.journal.proofs.advance.Goals as goal

pub overflow_add-result : goal.overflow_add-result
overflow_add-result c =
    let a = c.args in
    let h = c.requires in
    let e = c.step-done.ensures in
    let on = next_runs a.run a.table.now a.input.now a.out.now h.0 h.1 h.2 e.did e.table_after e.written_bound in
    omega (arith, on.1.inside)

pub returns-clause-out_after : goal.returns-clause-out_after
returns-clause-out_after c =
    let a = c.args in
    let h = c.requires in
    let e = c.step-done.ensures in
    next_told a.run a.table.now a.input.now a.out.now h.0 h.1 h.2 e.did e.table_after e.written_bound

pub returns-clause-next_lt_next : goal.returns-clause-next_lt_next
returns-clause-next_lt_next c =
    let a = c.args in
    let h = c.requires in
    let e = c.step-done.ensures in
    next_runs a.run a.table.now a.input.now a.out.now h.0 h.1 h.2 e.did e.table_after e.written_bound
