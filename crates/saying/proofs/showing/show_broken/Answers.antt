-- The text of a rule has room, and keeps its length where names are replaced.
use Rattle.meaning.proofs.Kit.{ℕ, List, ◌≡◌, ◌++◌, ◌≤◌, ◌∙◌, sym, ap, arith, length, drop, take, length-take-le}
use Rattle.std.proofs.Math.ListN.{replicate, length-replicate}
use Rattle.std.proofs.Math.Seq.{length_front}
use Rattle.orders.specs.Lines.{most_bytes}
use Rattle.orders.specs.Words.{rest_at}
use Rattle.orders.proofs.Typed.{rest_within}
use Rattle.saying.proofs.showing.show_broken.Goals as goal

-- the text typed is no longer than its line, and so has room
short : (line typed : List ℕ) → typed ≡ rest_at 1 line → length typed ≤ length line
short line typed e = omega (arith, ap length e, rest_within 1 line)

fits : (line typed : List ℕ) → typed ≡ rest_at 1 line → length line ≤ most_bytes → length typed ≤ 500
fits line typed e few = omega (arith, short line typed e, few)

-- the room where the text is put, and where its names are replaced
abbrev room : List ℕ
room = replicate 500 0

typed_long : (put : List ℕ) (n : ℕ) → length put ≡ length (take n room) → length (put ++ drop n room) ≡ 500
typed_long put n e = length_front room put n e ∙ length-replicate {A = ℕ} 500 0

typed_room : (put : List ℕ) (n : ℕ) → n ≤ 500 → length put ≡ length (take n room) → n ≤ length (put ++ drop n room)
typed_room put n few e = omega (arith, few, typed_long put n e)

read_room : (put read : List ℕ) (n : ℕ) → n ≤ 500 → length put ≡ length (take n room) → length read ≡ length (take n (put ++ drop n room))
    → n ≤ length (read ++ drop n (put ++ drop n room))
read_room put read n few e f = omega (arith, few, length_front (put ++ drop n room) read n f, typed_long put n e)

pub slice_bounds-room-end : goal.slice_bounds-room-end
slice_bounds-room-end g c = fits c.args.line.now c.rest-typed.result.now c.rest-typed.ensures c.requires.1

pub slice_bounds-put-end : goal.slice_bounds-put-end
slice_bounds-put-end g c = sym (length-take-le _ _ (fits c.args.line.now c.rest-typed.result.now c.rest-typed.ensures c.requires.1))

pub slice_bounds-room-end-2 : goal.slice_bounds-room-end-2
slice_bounds-room-end-2 g c =
    let typed = c.rest-typed.result.now in
    typed_room c.put.new.slot (length typed) (fits c.args.line.now typed c.rest-typed.ensures c.requires.1) c.put.auto.slot

pub slice_bounds-replace-end : goal.slice_bounds-replace-end
slice_bounds-replace-end g c =
    let typed = c.rest-typed.result.now in
    sym (length-take-le _ _ (typed_room c.put.new.slot (length typed) (fits c.args.line.now typed c.rest-typed.ensures c.requires.1) c.put.auto.slot))

pub overflow_sub-column : goal.overflow_sub-column
overflow_sub-column g c = short c.args.line.now c.rest-typed.result.now c.rest-typed.ensures

pub slice_bounds-room-end-3 : goal.slice_bounds-room-end-3
slice_bounds-room-end-3 g c =
    let typed = c.rest-typed.result.now in
    let few = fits c.args.line.now typed c.rest-typed.ensures c.requires.1 in
    read_room c.put.new.slot c.replace.new.text (length typed) few c.put.auto.slot c.replace.auto.text

pub slice_bounds-say_broken-end : goal.slice_bounds-say_broken-end
slice_bounds-say_broken-end g c =
    let typed = c.rest-typed.result.now in
    let few = fits c.args.line.now typed c.rest-typed.ensures c.requires.1 in
    sym (length-take-le _ _ (read_room c.put.new.slot c.replace.new.text (length typed) few c.put.auto.slot c.replace.auto.text))
