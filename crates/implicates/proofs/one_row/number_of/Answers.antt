-- `one_row::number_of` meets its contract.
use Rattle.meaning.proofs.Kit.{◌∙◌, sym, ap, arith, take, length-take-le, get_or-take, w16, to_z-of_z, sfits_of}
use Rattle.literals.specs.Literal.{literal_at}
use Rattle.implicates.proofs.Encoded.{encode_literal, encode_zero}
use Rattle.implicates.proofs.one_row.number_of.Goals as goal

pub returns-then-k-count : goal.returns-then-k-count
returns-then-k-count c =
    let a = c.args in
    let long = length-take-le a.count a.row.now c.requires.0 in
    to_z-of_z (sfits_of {w = w16} {z = c.literal_for.result} c.literal_for.type_inv)
    ∙ c.literal_for.ensures
    ∙ ap literal_at (sym (get_or-take a.count a.row.now a.k 0 c.if-k-count.true))
    ∙ sym (encode_literal (take a.count a.row.now) a.k c.requires.2 (omega (arith, long, c.if-k-count.true)))

pub returns : goal.returns
returns c =
    let a = c.args in
    let long = length-take-le a.count a.row.now c.requires.0 in
    sym (encode_zero (take a.count a.row.now) a.k c.requires.2 (omega (arith, long, c.if-k-count.false)))
