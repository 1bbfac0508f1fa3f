-- `pairs::judge` meets its contract: what it tests are 2, 19 and 8, in their order.
use Rattle.meaning.proofs.Kit.{◌∙◌, sym}
use Rattle.positions.specs.Positions.{symbols_fit, well_formed, possible}
use Rattle.positions.proofs.pairs.judge.Goals as goal

pub returns-then-not-on_board : goal.returns-then-not-on_board
unfolding symbols_fit
returns-then-not-on_board c = let off = sym c.on_board.ensures ∙ c.if-not-on_board.true in rw off

pub returns-then-not-on_board-2 : goal.returns-then-not-on_board-2
unfolding symbols_fit
returns-then-not-on_board-2 c =
    let one = sym c.on_board.ensures ∙ c.if-not-on_board.false in
    let off = sym c.on_board-2.ensures ∙ c.if-not-on_board-2.true in
    rw (one, off)

pub returns-then-not-has_count : goal.returns-then-not-has_count
unfolding symbols_fit well_formed
returns-then-not-has_count c =
    let one = sym c.on_board.ensures ∙ c.if-not-on_board.false in
    let two = sym c.on_board-2.ensures ∙ c.if-not-on_board-2.false in
    let few = sym c.has_count.ensures ∙ c.if-not-has_count.true in
    rw (one, two, few)

pub returns-then-not-has_count-2 : goal.returns-then-not-has_count-2
unfolding symbols_fit well_formed
returns-then-not-has_count-2 c =
    let one = sym c.on_board.ensures ∙ c.if-not-on_board.false in
    let two = sym c.on_board-2.ensures ∙ c.if-not-on_board-2.false in
    let counted = sym c.has_count.ensures ∙ c.if-not-has_count.false in
    let few = sym c.has_count-2.ensures ∙ c.if-not-has_count-2.true in
    rw (one, two, counted, few)

pub returns-then-overlap : goal.returns-then-overlap
unfolding symbols_fit well_formed
returns-then-overlap c =
    let one = sym c.on_board.ensures ∙ c.if-not-on_board.false in
    let two = sym c.on_board-2.ensures ∙ c.if-not-on_board-2.false in
    let counted = sym c.has_count.ensures ∙ c.if-not-has_count.false in
    let others = sym c.has_count-2.ensures ∙ c.if-not-has_count-2.false in
    let meet = sym c.overlap.ensures ∙ c.if-overlap.true in
    rw (one, two, counted, others, meet)

pub returns-then-not-allows_some : goal.returns-then-not-allows_some
unfolding symbols_fit well_formed possible
returns-then-not-allows_some c =
    let one = sym c.on_board.ensures ∙ c.if-not-on_board.false in
    let two = sym c.on_board-2.ensures ∙ c.if-not-on_board-2.false in
    let counted = sym c.has_count.ensures ∙ c.if-not-has_count.false in
    let others = sym c.has_count-2.ensures ∙ c.if-not-has_count-2.false in
    let apart = sym c.overlap.ensures ∙ c.if-overlap.false in
    let none = sym (rw c.seen_from.ensures at c.allows_some.ensures) ∙ c.if-not-allows_some.true in
    rw (one, two, counted, others, apart, none)

pub returns : goal.returns
unfolding symbols_fit well_formed possible
returns c =
    let one = sym c.on_board.ensures ∙ c.if-not-on_board.false in
    let two = sym c.on_board-2.ensures ∙ c.if-not-on_board-2.false in
    let counted = sym c.has_count.ensures ∙ c.if-not-has_count.false in
    let others = sym c.has_count-2.ensures ∙ c.if-not-has_count-2.false in
    let apart = sym c.overlap.ensures ∙ c.if-overlap.false in
    let some = sym (rw c.seen_from.ensures at c.allows_some.ensures) ∙ c.if-not-allows_some.false in
    rw (one, two, counted, others, apart, some)
