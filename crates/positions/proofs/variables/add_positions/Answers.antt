-- `variables::add_positions` meets its contract: what it tests are the first cases of `entry_faults`, in their order.
use Rattle.meaning.proofs.Kit.{◌∙◌, sym}
use Rattle.positions.specs.Positions.{symbols_fit, well_formed, possible}
use Rattle.literals.specs.declared.refusal.Refusal.TheVariants.{BadLiteral, BadPositions}
use Rattle.board.proofs.Goodness.{good_is}
use Rattle.positions.specs.Entering.{variable_of}
use Rattle.positions.proofs.Answers.{told_spoilt, told_own}
use Rattle.positions.proofs.variables.add_positions.Goals as goal

pub returns-then-not-good : goal.returns-then-not-good
returns-then-not-good c =
    let a = c.args in
    let told = told_spoilt a.table.now a.board (variable_of a.first a.count) (sym c.good.ensures ∙ c.if-not-good.true) in
    record { value = c.refused.ensures ∙ told.answer_is; table_after = told.table_is }

pub on_board-requires : goal.on_board-requires
on_board-requires c = (good_is c.args.table.now c.args.board (sym c.good.ensures ∙ c.if-not-good.false)).sound.symbols

pub returns-then-not-on_board : goal.returns-then-not-on_board
unfolding symbols_fit
returns-then-not-on_board c =
    let a = c.args in
    let good = sym c.good.ensures ∙ c.if-not-good.false in
    let off = sym c.on_board.ensures ∙ c.if-not-on_board.true in
    let told = told_own a.table.now a.board (variable_of a.first a.count) good BadLiteral (rw off) in
    record { value = c.refused-then-not-on_board.ensures ∙ told.answer_is; table_after = told.table_is }

pub returns-then-not-has_count : goal.returns-then-not-has_count
unfolding symbols_fit well_formed
returns-then-not-has_count c =
    let a = c.args in
    let good = sym c.good.ensures ∙ c.if-not-good.false in
    let on = sym c.on_board.ensures ∙ c.if-not-on_board.false in
    let few = sym c.has_count.ensures ∙ c.if-not-has_count.true in
    let told = told_own a.table.now a.board (variable_of a.first a.count) good BadPositions (rw (on, few)) in
    record { value = c.refused-then-not-has_count.ensures ∙ told.answer_is; table_after = told.table_is }

pub enter-requires : goal.enter-requires
unfolding symbols_fit well_formed possible
enter-requires c =
    let on = sym c.on_board.ensures ∙ c.if-not-on_board.false in
    let right = sym c.has_count.ensures ∙ c.if-not-has_count.false in
    (sym c.good.ensures ∙ c.if-not-good.false, rw (on, right))
