-- `put_literals` meets its contract.
use Rattle.meaning.proofs.Kit.{◌≡◌, ◌∙◌, sym, ap, arith, length, take, length-take, take_all, w16, to_z-of_z}
use Rattle.meaning.proofs.Kit.{sfits_of}
use Rattle.meaning.specs.Clauses.{size}
use Rattle.meaning.proofs.Clauses.{size_le}
use Rattle.implicates.specs.Numbers.{clause_at}
use Rattle.implicates.proofs.Numbers.{length_clause_at}
use Rattle.implicates.proofs.Digits.{Turn, number_first, next_rest}
use Rattle.implicates.proofs.Putting.{put_from, put_first, put_done, count_literal, count_out, put_literal, put_out, length_put_from, symbol_pos}
use Rattle.implicates.proofs.rows.put_literals.Goals.{then-digit-lt2, else-digit-lt2}
use Rattle.implicates.proofs.rows.put_literals.Goals as goal

pub loop-k-init : goal.loop-k-init
loop-k-init c =
    let n = c.args.n in
    let v = clause_at n c.args.c in
    let whole : take n v ≡ v = take_all n v (omega (arith, length_clause_at n c.args.c)) in
    record {
      left = number_first n c.args.c c.requires.4;
      ahead = c.requires.5 ∙ ap size (sym whole);
      put = c.requires.0 ∙ put_first c.args.symbols.now n c.args.c c.requires.2 c.requires.1 c.requires.4;
    }

pub overflow_sub-at : goal.overflow_sub-at
overflow_sub-at c =
    let t : Turn c.args.n c.args.c c.loop-k.rest c.loop-k.k
    = record { known = c.requires.4; some = omega arith; low = omega arith; left = c.loop-k.invariant.left } in
    omega (arith, c.loop-k.invariant.ahead, count_literal t c.if-digit-lt2.true)

pub literal-requires : goal.literal-requires
literal-requires c = symbol_pos c.args.symbols.now _ c.requires.3 (omega arith)

pub bounds-row-at : goal.bounds-row-at
bounds-row-at c =
    let v = clause_at c.args.n c.args.c in
    let k = c.loop-k.k in
    let long = ap length c.loop-k.invariant.put ∙ length_put_from c.args.symbols.now c.args.n c.args.c c.requires.2 c.requires.1 k in
    let t : Turn c.args.n c.args.c c.loop-k.rest k
    = record { known = c.requires.4; some = omega arith; low = omega arith; left = c.loop-k.invariant.left } in
    omega (arith, long, c.loop-k.invariant.ahead, size_le (take k v), length-take k v, count_literal t c.if-digit-lt2.true)

pub loop-k-preserved : goal.loop-k-preserved
loop-k-preserved c =
    let ss = c.args.symbols.now in
    let i = c.loop-k.invariant in
    let t : Turn c.args.n c.args.c c.loop-k.rest c.loop-k.k
    = record { known = c.requires.4; some = omega arith; low = omega arith; left = i.left } in
    elim c.if-digit-lt2.branch [
      | then-digit-lt2 w ↦
          (let put = to_z-of_z (sfits_of {w = w16} {z = w.literal.result} w.literal.type_inv) ∙ w.literal.ensures in
          record {
            left = next_rest t;
            ahead = omega (arith, w.at-is, i.ahead, count_literal t w.if-digit-lt2.true);
            put = w.row-is ∙ put_literal t ss c.requires.2 i.put i.ahead w.if-digit-lt2.true put;
          })
      | else-digit-lt2 w ↦
          record {
            left = next_rest t;
            ahead = w.at-is ∙ i.ahead ∙ count_out t w.if-digit-lt2.false;
            put = w.row-is ∙ i.put ∙ put_out t ss c.requires.2 w.if-digit-lt2.false;
          }
    ]

pub returns : goal.returns
returns c =
    let ss = c.args.symbols.now in
    let none : c.loop-k.k ≡ 0 = omega arith in
    c.loop-k.invariant.put ∙ ap (put_from ss (clause_at c.args.n c.args.c)) none ∙ put_done ss c.args.n c.args.c c.requires.2 c.requires.1
