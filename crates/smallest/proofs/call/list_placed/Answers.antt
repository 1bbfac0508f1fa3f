-- `list_placed` meets its contract: the places of the candidates tell whether one is repeated, and what is listed.
use Rattle.meaning.proofs.Kit.{◌∙◌, ap, ◌*◌, arith, ltb, length, length-map}
use Rattle.meaning.specs.Tests.{all}
use Rattle.meaning.proofs.Tests.{both_true}
use Rattle.literals.specs.Literal.{in_range, place_of}
use Rattle.board.proofs.Goodness.{good_is}
use Rattle.candidates.proofs.Places.{places_low, in_range_more}
use Rattle.smallest.proofs.call.list_placed.Goals as goal

pub write_places-requires : goal.write_places-requires
write_places-requires c =
    let a = c.args in
    let g = good_is a.table.now a.board c.requires.board_value.0 in
    let given = both_true (in_range a.board.symbols a.l) (all (in_range a.board.symbols) a.candidates.now) c.requires.board_value.1 in
    (in_range_more a.board.symbols 200 a.candidates.now g.sound.symbols given.1, c.requires.candidates_len_bound.1)

pub list-requires-clause-places_len_bound : goal.list-requires-clause-places_len_bound
list-requires-clause-places_len_bound c =
    let a = c.args in
    let given = both_true (in_range a.board.symbols a.l) (all (in_range a.board.symbols) a.candidates.now) c.requires.board_value.1 in
    let placed = c.write_places.ensures in (
      omega (arith, ap length placed, length-map a.candidates.now place_of, c.requires.candidates_len_bound.0),
      ap (all (λ p. ltb p (2 * a.board.symbols))) placed ∙ places_low a.board.symbols a.candidates.now given.1,
    )
