-- `reading::read_whole` meets its contract.
use Rattle.meaning.proofs.Kit.{◌∙◌, ap, arith}
use Rattle.std.proofs.lemmas.Result.{err_from_is_err_and}
use Rattle.formula.proofs.Words.{extent, levels}
use Rattle.formula.proofs.Extents.{parse_extent}
use Rattle.formula.proofs.Parsing.{whole_used, whole_more, whole_bad}
use Rattle.formula.proofs.reading.read_whole.Goals as goal

pub returns-in_err-count : goal.returns-in_err-count
returns-in_err-count c =
    let p = err_from_is_err_and c.from_residual.result c.from_residual.ensures.1 in
    rw (p.1, p.2) (whole_bad c.args.symbols c.args.bytes.now c.read.ensures c.in_err-count.was)

pub returns-then-count-bytes : goal.returns-then-count-bytes
returns-then-count-bytes c = c.breaks.ensures ∙ whole_more c.args.symbols c.args.bytes.now c.read.ensures c.in_ok-count.was c.if-count-bytes.true

pub returns : goal.returns
returns c = whole_used c.args.symbols c.args.bytes.now c.read.ensures c.in_ok-count.was
    (omega (arith, c.if-count-bytes.false, ap extent c.in_ok-count.was, ap extent c.read.ensures, parse_extent c.args.symbols levels c.args.bytes.now))
