-- The byte of a flag is written.
use Rattle.meaning.proofs.Kit.{◌≡◌, ◌∙◌, sym, refl, map, ◌≤◌, Bool, true, false, length, get_or, length-map, list_get_or_map}
use Rattle.std.specs.Int.{from_bool}
use Rattle.board.specs.Grounds.{byte_of}
use Rattle.literals.proofs.Copying.{copied_more}
use Rattle.board.proofs.grounds.write_marks.Goals as goal

byte_is : (b : Bool) → from_bool b ≡ byte_of b
byte_is true = refl
byte_is false = refl

pub loop-k-preserved : goal.loop-k-preserved
loop-k-preserved c =
    let reached = c.args.reached.now in
    let old = c.args.marks.now in
    let new = map byte_of reached in
    let fits : length new ≤ length old = rw length-map c.requires in
    let byte : c.from.result ≡ get_or new c.loop-k.k 0 = c.from.ensures ∙ byte_is (get_or reached c.loop-k.k false) ∙ sym (list_get_or_map byte_of reached c.loop-k.k false) in
    rw byte (copied_more new old fits 0 c.loop-k.marks c.loop-k.k c.loop-k.invariant (rw length-map c.loop-k-test.true))
