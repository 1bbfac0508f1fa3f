-- `reading::read_symbol` meets its contract: at each return the tests that led there pick the case of `symbol_at`.
use Rattle.meaning.proofs.Kit.{◌∙◌, sym, ap, ⊎_elim, arith}
use Rattle.formula.specs.Answers.{read_of}
use Rattle.formula.proofs.Parsing.{symbol_none, symbol_zero, symbol_beyond, symbol_good}
use Rattle.formula.proofs.reading.read_symbol.Goals as goal

pub returns-then-body-eq0 : goal.returns-then-body-eq0
returns-then-body-eq0 c = c.breaks.ensures ∙ sym (ap read_of (symbol_none c.args.symbols c.args.body.now c.if-body-eq0.true))

pub returns-then-number-eq0 : goal.returns-then-number-eq0
returns-then-number-eq0 c =
    let a = c.args in
    c.breaks-then-number-eq0.ensures
    ∙ sym (ap read_of (⊎_elim
    (λ w. symbol_zero a.symbols a.body.now (omega arith) w.if-number-eq0.true)
    (λ w. symbol_beyond a.symbols a.body.now (omega arith) w.if-symbols-number.true) c.then-number-eq0.branch-raw))

pub returns : goal.returns
returns c = sym (ap read_of (symbol_good c.args.symbols c.args.body.now (omega arith) (omega arith) (omega arith)))
