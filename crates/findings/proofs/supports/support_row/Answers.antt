use Rattle.meaning.proofs.Kit.{◌≡◌, [], List, ℕ, ◌<◌, ◌+◌, ◌*◌, ◌/◌, arith, ℤ, length}
use Rattle.literals.specs.Row.{most_literals, Fit}
use Rattle.literals.proofs.Scanning.{fit_row, left, left_all, Here}
use Rattle.index.specs.Index.{Index}
use Rattle.index.proofs.Following.{Along, heads_long, along_head, along_row, along_contains, along_rises, along_linked}
use Rattle.index.proofs.Reading.{slice, reading, read_end, read_last, read_allowed, read_literal, read_opposite_allowed, read_opposite_place_allowed, read_opposite_is}
use Rattle.findings.proofs.Knowing.{known_yes, known_no}
use Rattle.findings.proofs.Givers.{seen_none, seen_same, seen_other, seen_fails, seen_all, missed_all, missed_found, missed_more}
use Rattle.findings.proofs.supports.support_row.Goals as goal
use Rattle.findings.proofs.supports.support_row.Goals.{else-place-p-via-then-place-p+else-ranks-place, else-place-p-via-else-place-p}
use Rattle.findings.proofs.supports.support_row.Goals.{else-loop-l-test, then-loop-l-test+then-l-eq0}

-- the cell in hand is one of a sound row in use, and the loop is at one of the row's numbers
module _ {places used : ℕ} {table : List ℤ} {heads links : List ℕ} (fit : Fit places used table)
    (index : Index places used table heads links) {p cell : ℕ} {P : ℕ → Type 0} (w : Along used table p cell P)
    (inside : cell < most_literals * used) where
  row_fit : Fit places (cell / most_literals + 1) table
  row_fit = fit_row places used table fit (cell / most_literals) (along_row fit index w inside)

  here : (j : ℕ) → j < length (slice table (cell / most_literals)) → Here places table (cell / most_literals) j
  here j h = reading (cell / most_literals) row_fit j h

pub bounds-heads-p : goal.bounds-heads-p
bounds-heads-p c = omega (arith, heads_long c.requires.index, c.requires.p_in_bounds)

pub rows-init : goal.rows-init
rows-init c = along_head c.requires.fit c.requires.index c.requires.p_in_bounds

pub bounds-links-cell : goal.bounds-links-cell
bounds-links-cell c = along_linked c.requires.fit c.requires.index c.rows.invariant c.if-cell-cells.false

pub loop-l-init : goal.loop-l-init
loop-l-init c =
    rw (left_all c.args.table.now (c.rows.cell / 8))
    (seen_none (along_contains c.requires.fit c.requires.index c.rows.invariant c.if-cell-cells.false))

pub place-requires : goal.place-requires
place-requires c =
    read_allowed (here c.requires.fit c.requires.index c.rows.invariant c.if-cell-cells.false c.loop-l.l-index c.loop-l-test.true) c.if-l-eq0.false

pub opposite-requires : goal.opposite-requires
opposite-requires c =
    let h = here c.requires.fit c.requires.index c.rows.invariant c.if-cell-cells.false c.loop-l.l-index c.loop-l-test.true in
    read_opposite_allowed h c.if-l-eq0.false

pub place-requires-then-place-p : goal.place-requires-then-place-p
place-requires-then-place-p c =
    let h = here c.requires.fit c.requires.index c.rows.invariant c.if-cell-cells.false c.loop-l.l-index c.loop-l-test.true in
    read_opposite_place_allowed h c.if-l-eq0.false c.opposite.ensures

-- the opposite's place is one of the ranks
pub offset_bounds-ranks-place : goal.offset_bounds-ranks-place
offset_bounds-ranks-place c =
    let h = here c.requires.fit c.requires.index c.rows.invariant c.if-cell-cells.false c.loop-l.l-index c.loop-l-test.true in
    let other = read_opposite_is h c.if-l-eq0.false c.opposite.ensures c.place-then-place-p.ensures c.place.ensures in
    omega (arith, other, (read_literal h c.if-l-eq0.false c.place.ensures).opposite, c.requires.fit.1, c.requires.fit.2.symbols)

pub bounds-ranks-place : goal.bounds-ranks-place
bounds-ranks-place c =
    let h = here c.requires.fit c.requires.index c.rows.invariant c.if-cell-cells.false c.loop-l.l-index c.loop-l-test.true in
    let other = read_opposite_is h c.if-l-eq0.false c.opposite.ensures c.place-then-place-p.ensures c.place.ensures in
    omega (arith, other, (read_literal h c.if-l-eq0.false c.place.ensures).opposite)

pub rows-smaller : goal.rows-smaller
rows-smaller c =
    let inside = c.if-cell-cells.false in
    omega (arith, along_rises c.requires.fit c.requires.index c.rows.invariant inside, inside, c.requires.fit.2.rows)

pub rows-preserved : goal.rows-preserved
rows-preserved c =
    let h = here c.requires.fit c.requires.index c.rows.invariant c.if-cell-cells.false c.loop-l.l-index c.loop-l-test.true in
    let l = read_literal h c.if-l-eq0.false c.place.ensures in
    let other = read_opposite_is h c.if-l-eq0.false c.opposite.ensures c.place-then-place-p.ensures c.place.ensures in
    missed_more _ c.requires.fit c.requires.index c.rows.invariant c.if-cell-cells.false
    (seen_fails (rw l.first at c.loop-l.invariant) c.if-place-p.true (known_no c.args.ranks.now c.args.k l other c.if-ranks-place.true))

pub loop-l-preserved : goal.loop-l-preserved
loop-l-preserved c =
    let h = here c.requires.fit c.requires.index c.rows.invariant c.if-cell-cells.false c.loop-l.l-index c.loop-l-test.true in
    let l = read_literal h c.if-l-eq0.false c.place.ensures in
    let seen = rw l.first at c.loop-l.invariant in
    elim c.else-place-p.branch [
      | else-place-p-via-then-place-p+else-ranks-place w ↦ let other =
          read_opposite_is h c.if-l-eq0.false w.opposite.ensures w.place-then-place-p.ensures c.place.ensures in
          seen_other seen w.if-place-p.true (known_yes c.args.ranks.now c.args.k l other w.if-ranks-place.false)
      | else-place-p-via-else-place-p w ↦ seen_same seen w.if-place-p.false
    ]

pub returns-then-cell-cells : goal.returns-then-cell-cells
returns-then-cell-cells c = missed_all _ c.requires.fit c.requires.index c.rows.invariant c.if-cell-cells.true

-- the row in hand gives p, whether it ended at a 0 or has eight literals
pub returns-after-loop-l : goal.returns-after-loop-l
returns-after-loop-l c =
    let inside = c.if-cell-cells.false in
    let table = c.args.table.now in
    let r = c.rows.cell / 8 in
    let end : left table r c.loop-l.l-index ≡ [] =
    elim c.loop-l-test.branch [
      | else-loop-l-test w ↦ read_last r (row_fit c.requires.fit c.requires.index c.rows.invariant inside) c.loop-l.l-index w.loop-l-test.false
      | then-loop-l-test+then-l-eq0 w ↦ read_end
          (here c.requires.fit c.requires.index c.rows.invariant inside c.loop-l.l-index w.loop-l-test.true) w.if-l-eq0.true
    ] in
    missed_found _ c.requires.fit c.requires.index c.rows.invariant inside (seen_all (rw end at c.loop-l.invariant))
