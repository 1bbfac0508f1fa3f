-- `pairs::add_pairs` meets its contract.
use Rattle.meaning.proofs.Kit.{◌∙◌, sym}
use Rattle.board.proofs.Goodness.{good_is}
use Rattle.positions.specs.Entering.{pairs_of}
use Rattle.positions.proofs.Answers.{told_spoilt, told_own}
use Rattle.positions.proofs.pairs.add_pairs.Goals as goal

pub returns-then-not-good : goal.returns-then-not-good
returns-then-not-good c =
    let a = c.args in
    let told = told_spoilt a.table.now a.board (pairs_of a.first a.count a.other a.others a.pairs) (sym c.good.ensures ∙ c.if-not-good.true) in
    record { value = c.refused.ensures ∙ told.answer_is; table_after = told.table_is }

pub judge-requires : goal.judge-requires
judge-requires c = (good_is c.args.table.now c.args.board (sym c.good.ensures ∙ c.if-not-good.false)).sound.symbols

pub returns-in-Err : goal.returns-in-Err
returns-in-Err c =
    let a = c.args in
    let it = pairs_of a.first a.count a.other a.others a.pairs in
    let told = told_own a.table.now a.board it (sym c.good.ensures ∙ c.if-not-good.false) c.in-Err.why (sym c.in-Err.ensures) in
    record { value = c.refused-in-Err.ensures ∙ told.answer_is; table_after = told.table_is }
