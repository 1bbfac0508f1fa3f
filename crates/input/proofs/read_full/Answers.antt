-- `read_full` meets its contract: what a read gives stands behind what the reads before it gave.
use Rattle.std.proofs.Common.{◌≡◌, ◌∙◌, sym, ap, subst, List, ◌++◌, ◌≤◌, ◌-◌, ℕ, ◌+◌, arith, length, take, length-take-le}
use Rattle.std.specs.Io.KnownBytes.{Consumes}
use Rattle.std.proofs.KnownBytes.{Consumes-trans}
use Rattle.std.proofs.lemmas.List.{take-append-le}
use borrow.Rule.Slice.PartMut.{put_mid, post_of, same_len_mid}
use lib.Seq.{take-append-add}
use Rattle.input.proofs.read_full.Goals as goal

-- the first of a buffer whose part from a place on was written
read_on : (buf part : List ℕ) (done n : ℕ) → done ≤ length buf → n ≤ length part
    → take (done + n) (put_mid done (length buf - done) buf part) ≡ take done buf ++ take n part
read_on buf part done n within few =
    let post = post_of done (length buf - done) buf in
    let long : length (take done buf) ≡ done = length-take-le done buf within in
    sym (ap (λ (k : ℕ). take (k + n) (take done buf ++ (part ++ post))) long)
    ∙ take-append-add (take done buf) (part ++ post) n
    ∙ ap (λ (l : List ℕ). take done buf ++ l) (take-append-le n part post few)

pub loop-done-preserved : goal.loop-done-preserved
loop-done-preserved g c =
    let l = c.loop-done in
    let part = c.read.new.buf in
    let whole = same_len_mid l.done (length l.buf - l.done) l.buf part c.read.auto.buf in
    let both = Consumes-trans _ _ _ _ _ l.invariant.2 c.in_ok-n.ensures.bytes.0 in
    let few : c.in_ok-n.n ≤ length part = omega (arith, c.in_ok-n.ensures.bound) in (
      omega (arith, whole, few),
      whole ∙ l.invariant.1,
      subst (Consumes _ _) (sym (read_on l.buf part l.done c.in_ok-n.n l.invariant.0 few)) both,
    )
