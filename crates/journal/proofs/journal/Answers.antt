-- `journal` meets its contract: what was written and what is left are the whole journal, and where the loop is left nothing is.
use Rattle.std.proofs.Common.{◌∙◌, sym, refl, subst, [], ◌++◌, arith, take}
use Rattle.std.proofs.KnownBytes.{Appends-nil, Appends-trans}
use Rattle.std.specs.Io.KnownBytes.{Appends}
use Rattle.journal.specs.Promises.{nothing, another}
use Rattle.journal.proofs.Whole.{writes_all}
use Rattle.journal.proofs.journal.Goals as goal

pub loop-out-init : goal.loop-out-init
loop-out-init g c =
    ([], rw c.start-run.ensures nothing, Appends-nil _, rw c.start-run.ensures (record { inside = omega arith; counted = omega arith }), refl)

pub loop-out-preserved : goal.loop-out-preserved
loop-out-preserved g c =
    let i = c.loop-out.invariant in
    let f = c.fill-run in
    let handed = i.0 ++ take f.result.filled f.new.out in
    (handed, another f.new.out i.1 f.ensures.out_after, Appends-trans _ _ _ _ _ i.2 c.in_ok-write_all.ensures.bytes, f.ensures.next_lt_next.1, f.auto.out ∙ i.4)

pub returns : goal.returns
returns g c =
    let i = c.loop-out.invariant in
    let whole = writes_all c.args.table.now c.args.input.now c.loop-out.run c.loop-out.table i.0 i.1 (sym c.goes_on.ensures ∙ c.loop-out-test.false) in
    subst (Appends _ _) whole i.2
