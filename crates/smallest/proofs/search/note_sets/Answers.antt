-- A set's note is by those of the sets below it, and by how the literal stands with the set held alone.
use Rattle.std.proofs.Common.{◌≡◌, ◌∙◌, ap, cond, ◌*◌, ◌^◌, ℤ, arith, length}
use Rattle.meaning.proofs.Kit.{to_z-of_z}
use Rattle.meaning.proofs.Tables.{filled_more, tabulate_ext}
use Rattle.literals.specs.Literal.{in_range, place_of}
use Rattle.literals.proofs.Signed.{back}
use Rattle.board.specs.Ranking.{rows_on}
use Rattle.board.proofs.Goodness.{good_is}
use Rattle.candidates.proofs.Places.{low_more}
use Rattle.smallest.specs.declared.search.Note.{Note}
use Rattle.smallest.specs.declared.search.Note.TheVariants.{GoesOn, Stops}
use Rattle.smallest.specs.Search.{note_of, notes_of, stops_fewer, standing_note}
use Rattle.smallest.proofs.Holding.{asked_alone}
use Rattle.smallest.proofs.Notes.{note_is}
use Rattle.smallest.proofs.search.note_sets.Goals as goal

pub note_one-requires : goal.note_one-requires
note_one-requires c =
    let a = c.args in
    let high = (good_is a.table.now a.board c.requires.board_value.0).sound.symbols in (
      c.requires.places_len_bound.0,
      low_more (2 * a.board.symbols) 400 a.places.now (omega arith) c.requires.places_len_bound.1,
      omega (arith, c.loop-set.auto.notes),
    )

pub loop-set-preserved : goal.loop-set-preserved
loop-set-preserved c =
    let a = c.args in
    let l = c.loop-set in
    let rows = rows_on a.table.now a.board in
    let p = place_of (back a.l) in
    let range = ap (in_range a.board.symbols) (to_z-of_z c.ranges.l) ∙ c.requires.board_value.1 in
    let stood = asked_alone a.table.now a.board a.places.now l.set c.requires.places_len_bound.1 c.requires.board_value.0 (back a.l) range in
    let noted : c.note_one.result ≡ note_of (2 * a.board.symbols) rows a.places.now p l.set =
    c.note_one.ensures
    ∙ ap (λ (k : Note). cond (stops_fewer l.notes (length a.places.now) l.set) Stops k) (ap standing_note stood)
    ∙ note_is (2 * a.board.symbols) rows a.places.now p l.notes l.set (omega (arith, c.requires.places_len_bound.2)) l.invariant in
    filled_more GoesOn (note_of (2 * a.board.symbols) rows a.places.now p) l.notes l.set _ (omega (arith, l.auto.notes)) l.invariant noted

pub returns : goal.returns
unfolding notes_of
returns c =
    let a = c.args in
    let l = c.loop-set in
    let rows = rows_on a.table.now a.board in
    tabulate_ext GoesOn (2 ^ length a.places.now) (note_of (2 * a.board.symbols) rows a.places.now (place_of (back a.l))) l.notes
    (l.auto.notes ∙ c.requires.places_len_bound.2) (λ m h. l.invariant m (omega (arith, c.requires.places_len_bound.2)))
    ∙ ap (λ (z : ℤ). notes_of (2 * a.board.symbols) rows a.places.now (place_of z)) (to_z-of_z c.ranges.l)
