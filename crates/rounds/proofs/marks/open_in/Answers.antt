use Rattle.meaning.proofs.Kit.{◌≡◌, refl, inl, inr, [], arith, to_z-of_z}
use mir.Facts.{of_z-to_z}
use Rattle.literals.proofs.Scanning.{left, left_all}
use Rattle.index.proofs.Reading.{read_is, reading, read_end, read_last, read_literal, read_opposite_allowed, read_opposite_place_allowed, read_opposite_is}
use Rattle.findings.proofs.Knowing.{known_yes, known_no}
use Rattle.rounds.proofs.OpenLiterals.{found_none, found_known, found_one, found_two, one_allowed, found_some, found_nothing}
use Rattle.rounds.proofs.marks.open_in.Goals as goal
use Rattle.rounds.proofs.marks.open_in.Goals.{then-ranks-place+else-one-ne0, else-one-ne0-via-then-one-ne0+else-one-l, else-one-ne0-via-else-one-ne0}
use Rattle.rounds.proofs.marks.open_in.Goals.{else-ranks-place}
use Rattle.rounds.proofs.marks.open_in.Goals.{else-loop-l-test, then-loop-l-test+then-l-eq0}

pub loop-l-init : goal.loop-l-init
loop-l-init c = rw (left_all c.args.table.now c.args.row) found_none

pub opposite-requires : goal.opposite-requires
opposite-requires c = read_opposite_allowed (reading c.args.row c.requires c.loop-l.l-index c.loop-l-test.true) c.if-l-eq0.false

pub place-requires : goal.place-requires
place-requires c =
    read_opposite_place_allowed (reading c.args.row c.requires c.loop-l.l-index c.loop-l-test.true) c.if-l-eq0.false c.opposite.ensures

-- the opposite's place is one of the ranks
pub offset_bounds-ranks-place : goal.offset_bounds-ranks-place
offset_bounds-ranks-place c =
    let here = reading c.args.row c.requires c.loop-l.l-index c.loop-l-test.true in
    let other = read_opposite_is here c.if-l-eq0.false c.opposite.ensures c.place.ensures refl in
    omega (arith, other, (read_literal here c.if-l-eq0.false refl).opposite, c.requires.1, c.requires.2.symbols)

pub bounds-ranks-place : goal.bounds-ranks-place
bounds-ranks-place c =
    let here = reading c.args.row c.requires c.loop-l.l-index c.loop-l-test.true in
    let other = read_opposite_is here c.if-l-eq0.false c.opposite.ensures c.place.ensures refl in
    omega (arith, other, (read_literal here c.if-l-eq0.false refl).opposite)

pub returns-then-one-l : goal.returns-then-one-l
returns-then-one-l c =
    let here = reading c.args.row c.requires c.loop-l.l-index c.loop-l-test.true in
    let l = read_literal here c.if-l-eq0.false refl in
    let other = read_opposite_is here c.if-l-eq0.false c.opposite.ensures c.place.ensures refl in
    let no = known_no c.args.ranks.now c.args.k l other c.if-ranks-place.true in
    found_two (rw (l.first, of_z-to_z c.loop-l.auto.one-fits) at c.loop-l.invariant) l no c.if-one-ne0.true (rw (read_is here) at c.if-one-l.true)

pub loop-l-preserved : goal.loop-l-preserved
loop-l-preserved c =
    let here = reading c.args.row c.requires c.loop-l.l-index c.loop-l-test.true in
    let l = read_literal here c.if-l-eq0.false refl in
    let other = read_opposite_is here c.if-l-eq0.false c.opposite.ensures c.place.ensures refl in
    let found = rw l.first at c.loop-l.invariant in
    let bits = rw (of_z-to_z c.loop-l.auto.one-fits) at found in
    elim c.if-ranks-place.branch [
      | then-ranks-place+else-one-ne0 w ↦ rw (w.one-is-bits, read_is here, to_z-of_z l.fits)
          (found_one bits l (known_no c.args.ranks.now c.args.k l other w.if-ranks-place.true)
          (elim w.else-one-ne0.branch [
            | else-one-ne0-via-then-one-ne0+else-one-l z ↦ inr (rw (read_is here) at z.if-one-l.false)
            | else-one-ne0-via-else-one-ne0 z ↦ inl z.if-one-ne0.false
          ]))
      | else-ranks-place w ↦ rw w.one-is-bits (found_known found (known_yes c.args.ranks.now c.args.k l other w.if-ranks-place.false))
    ]

-- nothing is left, whether the row ended at a 0 or has eight literals
pub returns-then-one-eq0 : goal.returns-then-one-eq0
returns-then-one-eq0 c =
    let end : left c.args.table.now c.args.row c.loop-l.l-index ≡ [] =
    elim c.loop-l-test.branch [
      | else-loop-l-test w ↦ read_last c.args.row c.requires c.loop-l.l-index w.loop-l-test.false
      | then-loop-l-test+then-l-eq0 w ↦ read_end (reading c.args.row c.requires c.loop-l.l-index w.loop-l-test.true) w.if-l-eq0.true
    ] in
    found_nothing (rw (end, of_z-to_z c.loop-l.auto.one-fits) at c.loop-l.invariant) c.if-one-eq0.true

pub place-requires-2 : goal.place-requires-2
place-requires-2 c = one_allowed (rw (of_z-to_z c.loop-l.auto.one-fits) at c.loop-l.invariant) c.if-one-eq0.false

pub returns : goal.returns
returns c =
    let end : left c.args.table.now c.args.row c.loop-l.l-index ≡ [] =
    elim c.loop-l-test.branch [
      | else-loop-l-test w ↦ read_last c.args.row c.requires c.loop-l.l-index w.loop-l-test.false
      | then-loop-l-test+then-l-eq0 w ↦ read_end (reading c.args.row c.requires c.loop-l.l-index w.loop-l-test.true) w.if-l-eq0.true
    ] in
    found_some (rw (end, of_z-to_z c.loop-l.auto.one-fits) at c.loop-l.invariant) c.if-one-eq0.false c.place-2.ensures
