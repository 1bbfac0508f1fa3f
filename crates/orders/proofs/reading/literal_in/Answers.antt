-- By the first byte, and by what the symbol's word says.
use Rattle.std.proofs.Common.{◌≡◌, ◌∙◌, ℕ, List, drop, sym, ap, arith, Result}
use Rattle.std.proofs.lemmas.Result.{err_from_is_err_and}
use Rattle.formula.proofs.Parts.{onward, onward_drop}
use Rattle.orders.specs.Reading.{affirmed, denied, symbol_in}
use Rattle.orders.specs.declared.Slip.{Slip}
use Rattle.orders.proofs.Literals.{number_fits, opposite_fits, narrow_number, affirmed_is, denied_is, symbol_narrow, literal_of_none, literal_denied}
use Rattle.orders.proofs.Literals.{literal_affirmed}
use Rattle.orders.proofs.reading.literal_in.Goals as goal

-- what is said of the word behind the first byte
behind : (names word : List ℕ) {found said : Result ℕ Slip} → found ≡ symbol_in names (onward 1 word) → found ≡ said → symbol_in names (drop 1 word) ≡ said
behind names word e was = sym (e ∙ ap (symbol_in names) (onward_drop 1 word)) ∙ was

pub returns-then-word-eq0 : goal.returns-then-word-eq0
returns-then-word-eq0 c = literal_of_none _ _ c.if-word-eq0.true

pub returns-in_err-opposite : goal.returns-in_err-opposite
returns-in_err-opposite c =
    let a = c.args in
    let e = behind a.names.now a.word.now c.symbol_in.ensures c.in_err-opposite.was in
    let p = err_from_is_err_and c.from_residual.result c.from_residual.ensures.1 in
    rw (p.1, p.2) (ap denied (sym e) ∙ literal_denied a.names.now a.word.now (omega arith) c.if-word-eq45.true)

pub overflow_cast-result : goal.overflow_cast-result
overflow_cast-result c =
    let a = c.args in
    let e = behind a.names.now a.word.now c.symbol_in.ensures c.in_ok-opposite.was in
    number_fits c.in_ok-opposite.opposite (narrow_number e (symbol_narrow a.names.now (drop 1 a.word.now)))

pub overflow_sub-result : goal.overflow_sub-result
overflow_sub-result c =
    let a = c.args in
    let e = behind a.names.now a.word.now c.symbol_in.ensures c.in_ok-opposite.was in
    opposite_fits c.in_ok-opposite.opposite (narrow_number e (symbol_narrow a.names.now (drop 1 a.word.now)))

pub returns-then-word-eq45 : goal.returns-then-word-eq45
returns-then-word-eq45 c =
    let a = c.args in
    let e = behind a.names.now a.word.now c.symbol_in.ensures c.in_ok-opposite.was in
    denied_is e (symbol_narrow a.names.now (drop 1 a.word.now)) ∙ literal_denied a.names.now a.word.now (omega arith) c.if-word-eq45.true

pub returns-in_err-symbol : goal.returns-in_err-symbol
returns-in_err-symbol c =
    let a = c.args in
    let e = sym c.symbol_in-2.ensures ∙ c.in_err-symbol.was in
    let p = err_from_is_err_and c.from_residual-in_err-symbol.result c.from_residual-in_err-symbol.ensures.1 in
    rw (p.1, p.2) (ap affirmed (sym e) ∙ literal_affirmed a.names.now a.word.now (omega arith) c.if-word-eq45.false)

pub overflow_cast-result-2 : goal.overflow_cast-result-2
overflow_cast-result-2 c =
    let a = c.args in
    let e = sym c.symbol_in-2.ensures ∙ c.in_ok-symbol.was in
    number_fits c.in_ok-symbol.symbol (narrow_number e (symbol_narrow a.names.now a.word.now))

pub returns : goal.returns
returns c =
    let a = c.args in
    let e = sym c.symbol_in-2.ensures ∙ c.in_ok-symbol.was in
    affirmed_is e (symbol_narrow a.names.now a.word.now) ∙ literal_affirmed a.names.now a.word.now (omega arith) c.if-word-eq45.false
