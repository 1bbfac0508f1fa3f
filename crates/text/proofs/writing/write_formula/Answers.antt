-- `writing::write_formula` meets its contract: what an empty buffer counts is the text's length.
use Rattle.meaning.proofs.Kit.{◌≡◌, ◌∙◌, sym, ap, refl, true, List, ℕ, arith, length}
use Rattle.chains.proofs.Words.{levels, parse, whole_of, is_good, formula_of, spelled}
use Rattle.board.proofs.Adding.{whole_is}
use Rattle.text.specs.Writing.{text_in}
use Rattle.text.proofs.WrittenText.{too_short, fitting}
use Rattle.text.proofs.writing.write_formula.Goals as goal

-- the formula from the front is the whole
spelt : (S : ℕ) (bytes : List ℕ) → is_good (whole_of S bytes) ≡ true → spelled (formula_of (parse S levels bytes)) ≡ text_in S bytes
spelt S bytes e = ap (λ p. spelled (formula_of p)) (sym (whole_is S bytes e))

reads : (S : ℕ) (bytes : List ℕ) → is_good (whole_of S bytes) ≡ true → is_good (parse S levels bytes) ≡ true
reads S bytes e = ap is_good (sym (whole_is S bytes e)) ∙ e

pub spell-size-requires-clause-bytes_value : goal.spell-size-requires-clause-bytes_value
spell-size-requires-clause-bytes_value c = reads c.args.symbols c.args.bytes.now c.requires.1

pub returns-then-out-size : goal.returns-then-out-size
returns-then-out-size c =
    let bytes = c.args.bytes.now in
    let same = ap length (spelt c.args.symbols bytes c.requires.1) in
    let all = too_short c.args.symbols bytes c.args.out.now (omega (arith, same)) c.refused.ensures in
    record { value = all.0; out_after = all.1 }

pub spell-requires-clause-bytes_value : goal.spell-requires-clause-bytes_value
spell-requires-clause-bytes_value c = reads c.args.symbols c.args.bytes.now c.requires.1

pub returns : goal.returns
returns c =
    let bytes = c.args.bytes.now in
    let same = spelt c.args.symbols bytes c.requires.1 in
    let all = fitting c.args.symbols bytes c.args.out.now (omega (arith, ap length same)) (rw same at c.spell.ensures) refl in
    record { value = all.0; out_after = all.1 }
