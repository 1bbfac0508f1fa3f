-- `sorting::insert` meets its contract: the symbol is there, or there is no room for it, or it is put in.
use Rattle.meaning.proofs.Kit.{◌≡◌, ◌<◌, ◌/◌, arith, get_or}
use Rattle.dimacs.proofs.Inserting.{lower_within, insert_full, insert_new, insert_same}
use Rattle.dimacs.proofs.sorting.insert.Goals as goal
use Rattle.dimacs.proofs.sorting.insert.Goals.{then-j-count+else-q-p, else-j-count}

pub returns-then-q-p : goal.returns-then-q-p
returns-then-q-p c =
    insert_same c.args.row.now c.args.count c.requires c.args.p c.lower-j.result c.lower-j.ensures c.if-j-count.true c.if-q-p.true

pub returns-then-count-row : goal.returns-then-count-row
returns-then-count-row c =
    let new : c.lower-j.result < c.args.count → get_or c.args.row.now c.lower-j.result 0 / 2 ≡ c.args.p / 2 → ⊥ =
    elim c.if-j-count.branch [ then-j-count+else-q-p w ↦ λ h e. w.if-q-p.false e | else-j-count w ↦ λ h e. omega arith ] in
    insert_full c.args.row.now c.args.count c.requires c.args.p c.lower-j.result c.lower-j.ensures new c.if-count-row.true

pub put_at-requires : goal.put_at-requires
put_at-requires c = (lower_within c.args.row.now c.args.count c.requires c.args.p c.lower-j.result c.lower-j.ensures, omega arith)

pub returns : goal.returns
returns c =
    let new : c.lower-j.result < c.args.count → get_or c.args.row.now c.lower-j.result 0 / 2 ≡ c.args.p / 2 → ⊥ =
    elim c.if-j-count.branch [ then-j-count+else-q-p w ↦ λ h e. w.if-q-p.false e | else-j-count w ↦ λ h e. omega arith ] in
    insert_new c.args.row.now c.args.count c.requires c.args.p c.lower-j.result c.lower-j.ensures new (omega arith) c.put_at.ensures
