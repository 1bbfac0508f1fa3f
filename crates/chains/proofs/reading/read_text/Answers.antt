-- `reading::read_text` meets its contract.
use Rattle.meaning.proofs.Kit.{◌∙◌}
use Rattle.std.proofs.lemmas.Result.{err_from_is_err_and}
use Rattle.chains.proofs.Whole.{whole_used, whole_more, whole_bad}
use Rattle.chains.proofs.reading.read_text.Goals as goal

pub returns-in_err-count : goal.returns-in_err-count
returns-in_err-count c =
    let p = err_from_is_err_and c.from_residual.result c.from_residual.ensures.1 in
    rw (p.1, p.2) (whole_bad c.args.text.now c.chain.ensures c.in_err-count.was)

pub returns-then-count-text : goal.returns-then-count-text
returns-then-count-text c = c.breaks.ensures ∙ whole_more c.args.text.now c.chain.ensures c.in_ok-count.was c.if-count-text.true

pub returns : goal.returns
returns c = whole_used c.args.text.now c.chain.ensures c.in_ok-count.was c.if-count-text.false
