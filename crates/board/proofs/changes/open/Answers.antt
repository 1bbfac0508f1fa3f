-- Its two tests are the two halves of the one fault.
use Rattle.meaning.proofs.Kit.{le-leb, lt-leb}
use Rattle.board.specs.Changes.{open_faults, opened}
use Rattle.board.proofs.changes.open.Goals as goal

pub returns-then-symbols-lt1 : goal.returns-then-symbols-lt1
unfolding opened open_faults
returns-then-symbols-lt1 c = rw (lt-leb 1 c.args.symbols c.if-symbols-lt1.true) (rw c.empty.ensures at c.refused.ensures)

pub returns-then-symbols-gt200 : goal.returns-then-symbols-gt200
unfolding opened open_faults
returns-then-symbols-gt200 c =
    let S = c.args.symbols in
    rw (le-leb 1 S c.if-symbols-lt1.false, lt-leb S 200 c.if-symbols-gt200.true)
    (rw c.empty-then-symbols-gt200.ensures at c.refused-then-symbols-gt200.ensures)

pub returns : goal.returns
unfolding opened open_faults
returns c =
    let S = c.args.symbols in
    rw (le-leb 1 S c.if-symbols-lt1.false, le-leb S 200 c.if-symbols-gt200.false, c.empty-2.ensures)
