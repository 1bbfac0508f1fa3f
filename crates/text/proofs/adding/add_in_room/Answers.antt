-- `adding::add_in_room` meets its contract: the bytes that the buffer holds tell what all of them do.
use Rattle.meaning.proofs.Kit.{◌∙◌}
use Rattle.std.proofs.lemmas.List.{length-replicate}
use Rattle.text.specs.Reading.{bytes_in}
use Rattle.text.proofs.Rooms.{kept_held}
use Rattle.text.proofs.RuledText.{front_ruled, front_table}
use Rattle.text.proofs.adding.add_in_room.Goals as goal

pub returns : goal.returns
returns g c =
    let a = c.args in
    let text = a.text.now in
    let bytes = bytes_in text in
    let room = c.requires.room in
    let held = kept_held text c.emit-size.ensures (length-replicate g.row.ROOM 0) room.0 room.1 c.min-kept.ensures c.requires.keeps in
    let done = rw held at c.add_rule.ensures in
    record { value = done.value ∙ front_ruled a.table.now a.board bytes; table_after = done.table_after ∙ front_table a.table.now a.board bytes }
