-- Its tests are those of `good_board`, in its order.
use Rattle.meaning.proofs.Kit.{◌∙◌, sym, ap, not, arith}
use Rattle.board.specs.Faults.{premises_fit}
use Rattle.board.proofs.Goodness.{no_low, no_high, no_number, no_rows, by_rows_lem}
use Rattle.board.proofs.testing.good.Goals as goal

pub returns-then-board-lt1 : goal.returns-then-board-lt1
returns-then-board-lt1 c = sym (no_low _ _ c.if-board-lt1.true)

pub returns-then-board-gt200 : goal.returns-then-board-gt200
returns-then-board-gt200 c = sym (no_high _ _ c.if-board-lt1.false c.if-board-gt200.true)

pub returns-then-board-gt-MOST_RULES : goal.returns-then-board-gt-MOST_RULES
returns-then-board-gt-MOST_RULES c = sym (no_number _ _ c.if-board-lt1.false c.if-board-gt200.false c.if-board-gt-MOST_RULES.true)

pub returns-then-rows_lent-board : goal.returns-then-rows_lent-board
returns-then-rows_lent-board c =
    sym (no_rows _ _ c.if-board-lt1.false c.if-board-gt200.false c.if-board-gt-MOST_RULES.false
    (omega (arith, c.if-rows_lent-board.true, c.rows_lent.ensures)))

-- from here on the rows decide, and then the premises
pub returns-then-not-rows_sound : goal.returns-then-not-rows_sound
returns-then-not-rows_sound c =
    rw (
      by_rows_lem c.args.table.now c.args.board c.if-board-lt1.false c.if-board-gt200.false c.if-board-gt-MOST_RULES.false
          (omega (arith, c.if-rows_lent-board.false, c.rows_lent.ensures)),
      sym c.rows_sound.ensures ∙ c.if-not-rows_sound.true,
    )

pub returns-then-held_beyond : goal.returns-then-held_beyond
unfolding premises_fit
returns-then-held_beyond c =
    rw (
      by_rows_lem c.args.table.now c.args.board c.if-board-lt1.false c.if-board-gt200.false c.if-board-gt-MOST_RULES.false
          (omega (arith, c.if-rows_lent-board.false, c.rows_lent.ensures)),
      sym c.rows_sound.ensures ∙ c.if-not-rows_sound.false,
      sym c.held_beyond.ensures ∙ c.if-held_beyond.true,
    )

pub returns : goal.returns
unfolding premises_fit
returns c =
    rw (
      by_rows_lem c.args.table.now c.args.board c.if-board-lt1.false c.if-board-gt200.false c.if-board-gt-MOST_RULES.false
          (omega (arith, c.if-rows_lent-board.false, c.rows_lent.ensures)),
      sym c.rows_sound.ensures ∙ c.if-not-rows_sound.false,
      sym c.held_beyond.ensures ∙ c.if-held_beyond.false,
    ) (ap not c.held_beyond-2.ensures)
