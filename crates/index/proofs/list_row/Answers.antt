use Rattle.meaning.proofs.Kit.{◌≡◌, ◌∙◌, ap, subst, ℕ, ◌+◌, ◌*◌, arith, length}
use Rattle.literals.specs.Row.{most_literals}
use Rattle.literals.proofs.Scanning.{left_all}
use Rattle.index.proofs.Reading.{slice_long, reading, read_end, read_last, read_allowed, read_literal}
use Rattle.index.specs.Listing.{Listed}
use Rattle.index.proofs.Listing.{listed_none, listed_more}
use Rattle.index.proofs.list_row.Goals as goal

pub loop-j-init : goal.loop-j-init
loop-j-init c = (omega (arith, ap length (left_all c.args.table.now c.args.row)), listed_none)

pub returns-then-l-eq0-clause-value : goal.returns-then-l-eq0-clause-value
returns-then-l-eq0-clause-value c =
    let here = reading c.args.row c.requires.fit c.loop-j.j c.loop-j-test.true in
    omega (arith, c.loop-j.invariant.0, ap length (read_end here c.if-l-eq0.true))

pub place-p-requires : goal.place-p-requires
place-p-requires c = read_allowed (reading c.args.row c.requires.fit c.loop-j.j c.loop-j-test.true) c.if-l-eq0.false

-- the literal's place is one of the heads
pub offset_bounds-heads-p : goal.offset_bounds-heads-p
offset_bounds-heads-p c =
    let l = read_literal (reading c.args.row c.requires.fit c.loop-j.j c.loop-j-test.true) c.if-l-eq0.false c.place-p.ensures in
    omega (arith, l.inside, c.requires.fit.1, c.requires.fit.2.symbols)

pub bounds-heads-p : goal.bounds-heads-p
bounds-heads-p c =
    let l = read_literal (reading c.args.row c.requires.fit c.loop-j.j c.loop-j-test.true) c.if-l-eq0.false c.place-p.ensures in
    omega (arith, l.inside, c.loop-j.auto.heads)

pub offset_bounds-heads-p-in-loop-j : goal.offset_bounds-heads-p-in-loop-j
offset_bounds-heads-p-in-loop-j c =
    let l = read_literal (reading c.args.row c.requires.fit c.loop-j.j c.loop-j-test.true) c.if-l-eq0.false c.place-p.ensures in
    omega (arith, l.inside, c.requires.fit.1, c.requires.fit.2.symbols)

pub bounds-heads-p-in-loop-j : goal.bounds-heads-p-in-loop-j
bounds-heads-p-in-loop-j c =
    let l = read_literal (reading c.args.row c.requires.fit c.loop-j.j c.loop-j-test.true) c.if-l-eq0.false c.place-p.ensures in
    omega (arith, l.inside, c.loop-j.auto.heads)

pub loop-j-preserved : goal.loop-j-preserved
loop-j-preserved c =
    let here = reading c.args.row c.requires.fit c.loop-j.j c.loop-j-test.true in
    let i = c.loop-j.invariant in
    let l = read_literal here c.if-l-eq0.false c.place-p.ensures in (
      i.0 ∙ ap (λ t. c.loop-j.j + length t) l.first ∙ omega arith,
      listed_more c.requires.fit here.inside l i.1 (omega (arith, here.inside, c.requires.row_in_bounds, i.1.long_links))
          (omega (arith, l.inside, i.1.long_heads)),
    )

-- past its eight numbers the row has nothing left
pub returns-clause-value : goal.returns-clause-value
returns-clause-value c =
    omega (
      arith,
      c.loop-j.invariant.0,
      ap length (read_last c.args.row c.requires.fit c.loop-j.j c.loop-j-test.false),
      slice_long c.args.row c.requires.fit,
    )

pub returns-clause-listed : goal.returns-clause-listed
returns-clause-listed c =
    let all : c.loop-j.j ≡ most_literals = omega (arith, slice_long c.args.row c.requires.fit) in
    let So : ℕ → Type 0 = λ n. Listed c.args.table.now (most_literals * c.args.row) n c.args.heads.now c.args.links.now c.loop-j.heads c.loop-j.links in
    subst So all c.loop-j.invariant.1
