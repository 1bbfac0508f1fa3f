-- `adding::add_text` meets its contract: its tests are those of `ruled_text`, the board's last.
use Rattle.meaning.proofs.Kit.{◌∙◌, sym}
use Rattle.chains.proofs.Words.{whole_text}
use Rattle.formula.proofs.Parsing.{answer_bad}
use Rattle.text.proofs.ReadText.{read_good}
use Rattle.text.proofs.RuledText.{text_bytes, text_table, text_broken, board_spoilt}
use Rattle.text.proofs.adding.add_text.Goals as goal

pub returns-in-Ok : goal.returns-in-Ok
returns-in-Ok c =
    let a = c.args in
    let keeps = read_good (whole_text a.text.now) c.in-Ok.ensures in record {
      value = c.add_formula.ensures.value ∙ sym (text_bytes a.table.now a.board a.text.now keeps);
      table_after = c.add_formula.ensures.table_after ∙ sym (text_table a.table.now a.board a.text.now keeps);
    }

pub returns-then-good : goal.returns-then-good
returns-then-good c =
    let a = c.args in
    let all = text_broken a.table.now a.board a.text.now (answer_bad (whole_text a.text.now) (sym c.in-Err.ensures)) (sym c.if-good.ensures) in
    record { value = c.refused.ensures ∙ all.0; table_after = all.1 }

pub returns-else-good : goal.returns-else-good
returns-else-good c =
    let all = board_spoilt c.args.table.now c.args.board c.args.text.now (sym c.if-good.ensures) in
    record { value = c.refused-in-Err.ensures ∙ all.0; table_after = all.1 }
