-- `serve` meets its contract: where the input has ended, the board, the table and the record are those of the calls that its lines are.
use Rattle.std.proofs.Common.{◌≡◌, ◌∙◌, sym, ap, refl, subst, List, [], ◌++◌, append-nil, ℕ, arith, take}
use Rattle.std.proofs.KnownBytes.{Consumes-nil, Consumes-trans}
use Rattle.orders.specs.States.{State, state_of}
use Rattle.desk.specs.Sittings.{Sat, sat, starting, after_bytes, after_end}
use Rattle.desk.specs.Promises.{IsAfter}
use Rattle.desk.proofs.Along.{is_the_run}
use Rattle.desk.proofs.Bytes.{bytes_both}
use Rattle.desk.proofs.Leaving.{of_all}
use Rattle.desk.proofs.serve.Goals as goal

pub loop-init : goal.loop-init
unfolding after_bytes
loop-init g c =
    ([], rw c.start-sitting.ensures refl, Consumes-nil _, rw c.start-sitting.ensures (omega arith), c.requires.0, c.requires.1, c.requires.2, refl)

pub loop-preserved : goal.loop-preserved
loop-preserved g c =
    let i = c.loop.invariant in
    let a = c.args in
    let read = take c.in-Ok.n c.read.new.buf in
    let before = sat starting a.table.now a.names.now a.line.now in (
      i.0 ++ read,
      c.in_ok-sitting.ensures.line_after ∙ ap (λ (s : Sat). after_bytes s read) i.1 ∙ sym (bytes_both before i.0 read),
      Consumes-trans _ _ _ _ _ i.2 c.in-Ok.ensures.bytes.0,
      c.in_ok-sitting.ensures.filled_bound,
      c.take_bytes.auto.names ∙ i.4,
      c.take_bytes.auto.texts ∙ i.5,
      c.take_bytes.auto.line ∙ i.6,
      c.read.auto.buf ∙ i.7,
    )

pub returns-then-n-eq0 : goal.returns-then-n-eq0
returns-then-n-eq0 g c =
    let i = c.loop.invariant in
    let a = c.args in
    let start = state_of starting.desk a.table.now a.names.now in
    let last = state_of c.in_ok-ended.ended.desk c.end_line.new.table c.end_line.new.names in
    let run : IsAfter start i.0 last =
    ap (λ (s : State). s.world) c.in_ok-ended.ensures.ended
    ∙ ap (λ (s : Sat). (after_end s).world) i.1
    ∙ is_the_run (sat starting a.table.now a.names.now a.line.now) i.0 in
    let same : i.0 ≡ i.0 ++ take c.in-Ok.n c.read.new.buf = rw c.if-n-eq0.true (sym (append-nil i.0)) in
    of_all _ _ _ _ (λ text. IsAfter start text last)
    (Consumes-trans _ _ _ _ _ i.2 c.in-Ok.ensures.bytes.0)
    (λ h. c.in-Ok.ensures.bytes.1 c.if-n-eq0.true (omega (arith, h, c.read.auto.buf, i.7)))
    (subst (λ (text : List ℕ). IsAfter start text last) same run)
