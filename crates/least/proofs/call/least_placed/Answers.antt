-- `least_placed` meets its contract: the places of the candidates tell whether one is repeated, and whether all are held.
use Rattle.meaning.proofs.Kit.{◌∙◌, ap, ◌*◌, arith, ltb, length, length-map}
use Rattle.meaning.specs.Tests.{all}
use Rattle.literals.specs.Literal.{place_of}
use Rattle.board.proofs.Goodness.{good_is}
use Rattle.candidates.proofs.Places.{places_low, low_more, in_range_more}
use Rattle.least.proofs.call.least_placed.Goals as goal

pub write_places-requires : goal.write_places-requires
write_places-requires c =
    let a = c.args in
    let board = c.requires.board_value in
    let g = good_is a.table.now a.board board.0 in
    (in_range_more a.board.symbols 200 a.candidates.now g.sound.symbols board.2, c.requires.candidates_len_bound.1)

pub held_by-requires : goal.held_by-requires
held_by-requires c =
    let a = c.args in
    let board = c.requires.board_value in
    let g = good_is a.table.now a.board board.0 in
    let low = ap (all (λ p. ltb p (2 * a.board.symbols))) c.write_places.ensures ∙ places_low a.board.symbols a.candidates.now board.2 in
    (board.1, low_more (2 * a.board.symbols) 400 c.write_places.new.places (omega (arith, g.sound.symbols)) low)

pub least_held-requires-clause-places_len_bound : goal.least_held-requires-clause-places_len_bound
least_held-requires-clause-places_len_bound c =
    let a = c.args in
    let placed = c.write_places.ensures in (
      omega (arith, ap length placed, length-map a.candidates.now place_of, c.requires.candidates_len_bound.0),
      ap (all (λ p. ltb p (2 * a.board.symbols))) placed ∙ places_low a.board.symbols a.candidates.now c.requires.board_value.2,
    )
