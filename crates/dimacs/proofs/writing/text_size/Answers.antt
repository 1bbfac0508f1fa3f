-- `writing::text_size` meets its contract.
use Rattle.meaning.proofs.Kit.{◌≡◌, ap, arith, length}
use Rattle.spelling.proofs.Pieces.{natural_most}
use Rattle.dimacs.proofs.TextLines.{counts_size, lines_none, lines_size, text_size}
use Rattle.dimacs.proofs.writing.text_size.Goals as goal

pub overflow_add-size : goal.overflow_add-size
overflow_add-size c = omega (arith, c.natural_size.ensures, natural_most 19 c.args.symbols (omega arith))

pub overflow_add-size-2 : goal.overflow_add-size-2
overflow_add-size-2 c =
    omega (arith, c.natural_size.ensures, natural_most 19 c.args.symbols (omega arith), c.natural_size-2.ensures, natural_most 19 c.args.used (omega arith))

pub loop-row-init : goal.loop-row-init
loop-row-init c =
    let a = c.args in
    let header = counts_size a.symbols a.used in
    let none = ap length (lines_none a.table.now) in (
      omega (arith, c.natural_size.ensures, c.natural_size-2.ensures, header, none),
      omega (arith, c.natural_size.ensures, natural_most 19 a.symbols (omega arith), c.natural_size-2.ensures, natural_most 19 a.used (omega arith)),
    )

pub loop-row-preserved : goal.loop-row-preserved
loop-row-preserved c =
    let l = c.loop-row in
    let e = c.row_size-size.ensures in
    (omega (arith, l.invariant.0, e.0, lines_size c.args.table.now l.row), omega (arith, l.invariant.1, e.1))

pub returns : goal.returns
returns c =
    let a = c.args in
    let l = c.loop-row in
    let all : l.row ≡ a.used = omega arith in
    omega (arith, rw all at l.invariant.0, text_size a.table.now a.symbols a.used)
