-- `reading::judge_in_room` meets its contract: the bytes that the buffer holds tell what all of them do.
use Rattle.meaning.proofs.Kit.{◌∙◌, ap, List, ℕ}
use Rattle.std.proofs.lemmas.List.{length-replicate}
use Rattle.formula.proofs.Sizes.{front_whole}
use Rattle.chains.proofs.Words.{whole_of, read_of}
use Rattle.text.specs.Reading.{bytes_in}
use Rattle.text.proofs.Rooms.{kept_held}
use Rattle.text.proofs.reading.judge_in_room.Goals as goal

pub returns : goal.returns
returns g c =
    let S = c.args.symbols in
    let text = c.args.text.now in
    let room = c.requires.room in
    let held = kept_held text c.emit-size.ensures (length-replicate g.row.ROOM 0) room.0 room.1 c.min-kept.ensures c.requires.keeps in
    c.read_whole.ensures ∙ ap (λ (l : List ℕ). read_of (whole_of S l)) held ∙ ap read_of (front_whole S (bytes_in text))
