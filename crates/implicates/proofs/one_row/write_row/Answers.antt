-- `one_row::write_row` meets its contract.
use Rattle.meaning.proofs.Kit.{◌∙◌, arith, pos, take, w16, to_z-of_z, sfits_of}
use Rattle.literals.specs.Row.{encode}
use Rattle.literals.proofs.Encoding.{length_encode}
use Rattle.literals.proofs.Copying.{copied_all, copied_more}
use Rattle.implicates.proofs.Encoded.{encode_all_lem}
use Rattle.implicates.proofs.one_row.write_row.Goals as goal

pub loop-k-preserved : goal.loop-k-preserved
loop-k-preserved c =
    let new = encode (take c.args.count c.args.row.now) in
    let long = length_encode (take c.args.count c.args.row.now) in
    let l = c.loop-k in
    let n = c.number_of in
    rw (to_z-of_z (sfits_of {w = w16} {z = n.result} n.type_inv) ∙ n.ensures)
    (copied_more new c.args.part.now (omega (arith, long, c.requires.0)) (pos 0) l.part l.k l.invariant (omega (arith, long, c.requires.0)))

pub returns : goal.returns
returns c =
    let new = encode (take c.args.count c.args.row.now) in
    let long = length_encode (take c.args.count c.args.row.now) in
    let l = c.loop-k in
    copied_all new c.args.part.now (omega (arith, long, c.requires.0)) l.part l.k l.invariant (omega (arith, long, c.requires.0))
    ∙ encode_all_lem (take c.args.count c.args.row.now) c.args.part.now c.requires.0
