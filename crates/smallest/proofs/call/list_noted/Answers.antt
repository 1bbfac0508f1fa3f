-- What the notes list is counted, and written where it fits.
use Rattle.std.proofs.Common.{◌∙◌, ap, ℕ, ℤ, ◌*◌, arith, length}
use Rattle.meaning.proofs.Kit.{sets, to_z-of_z}
use Rattle.literals.specs.Literal.{place_of}
use Rattle.board.specs.Ranking.{rows_on}
use Rattle.std.specs.Prelude.{Ok}
use Rattle.smallest.specs.Listing.{smallest_at}
use Rattle.smallest.specs.Search.{notes_of}
use Rattle.smallest.proofs.Answers.{told_short, told_list, as_many, the_list}
use Rattle.smallest.proofs.call.list_noted.Goals as goal

pub returns-then-sets-count : goal.returns-then-sets-count
returns-then-sets-count c =
    let a = c.args in
    let noted = c.note_sets.ensures
    ∙ ap (λ (z : ℤ). notes_of (2 * a.board.symbols) (rows_on a.table.now a.board) a.places.now (place_of z)) (to_z-of_z c.ranges.l) in
    let count = c.count_listed-count.ensures ∙ as_many a.table.now a.board a.places.now a.l noted in
    let t = told_short (smallest_at a.table.now a.board a.places.now a.l) a.sets.now (omega (arith, count, c.if-sets-count.true)) in
    record { value = c.refused.ensures ∙ t.answered; sets_after = t.written }

pub write_listed-requires-clause-room : goal.write_listed-requires-clause-room
write_listed-requires-clause-room c =
    let a = c.args in
    let noted = c.note_sets.ensures
    ∙ ap (λ (z : ℤ). notes_of (2 * a.board.symbols) (rows_on a.table.now a.board) a.places.now (place_of z)) (to_z-of_z c.ranges.l) in
    let count = c.count_listed-count.ensures ∙ as_many a.table.now a.board a.places.now a.l noted in
    omega (arith, count, c.if-sets-count.false, ap length (the_list a.table.now a.board a.places.now a.l noted))

pub returns : goal.returns
returns c =
    let a = c.args in
    let noted = c.note_sets.ensures
    ∙ ap (λ (z : ℤ). notes_of (2 * a.board.symbols) (rows_on a.table.now a.board) a.places.now (place_of z)) (to_z-of_z c.ranges.l) in
    let count = c.count_listed-count.ensures ∙ as_many a.table.now a.board a.places.now a.l noted in
    let t = told_list (smallest_at a.table.now a.board a.places.now a.l) a.sets.now (omega (arith, count, c.if-sets-count.false)) in
    record {
      value = ap (λ (k : ℕ). record { outcome = (Ok tt); count = k }) count ∙ t.answered;
      sets_after = c.write_listed.ensures ∙ ap (sets a.sets.now 0) (the_list a.table.now a.board a.places.now a.l noted) ∙ t.written;
    }
