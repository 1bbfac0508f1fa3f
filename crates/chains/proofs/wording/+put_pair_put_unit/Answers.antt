-- `wording::put_unit` and `wording::put_pair` call each other, and meet their contracts.
use Rattle.meaning.proofs.Kit.{◌≡◌, ◌∙◌, sym, ap, refl, true, List, ℕ, arith, length, get_or}
use Rattle.chains.proofs.Words.{is_good, parse, Kind, Two}
use Rattle.formula.proofs.Words.{kind_of}
use Rattle.formula.proofs.Parts.{onward_length}
use Rattle.formula.proofs.Walk.{Walk, deep, long, number_there, no_unknown, not_well, first_well, second_well, first_within, both_within}
use Rattle.chains.proofs.Texts.{symbol_text, not_text, bracket_length, pair_length, told_symbol, told_not, told_bracket, told_pair}
use Rattle.chains.proofs.wording.+put_pair_put_unit.Goals as goal

-- the kind is known
walk : {depth : ℕ} {bytes : List ℕ} {told kind : Kind} → is_good (parse 255 depth bytes) ≡ true → told ≡ kind_of (get_or bytes 0 0)
    → told ≡ kind → Walk depth bytes kind
walk well e is = record { well = well; says = sym e ∙ is }

-- ---- two operands and the mark between them

pub put_pair-overflow_sub-depth : goal.put_pair-overflow_sub-depth
put_pair-overflow_sub-depth t c = omega (arith, deep c.args.depth c.args.bytes.now c.requires.bytes_value)

pub put_pair-put_unit-first-requires : goal.put_pair-put_unit-first-requires
put_pair-put_unit-first-requires t c =
    let w : Walk c.args.depth c.args.bytes.now (Two c.args.join) = record { well = c.requires.bytes_value; says = c.requires.bytes_value_2 } in
    let some = deep c.args.depth c.args.bytes.now c.requires.bytes_value in
    (omega (arith, some), (first_well w, omega (arith, pair_length w refl, c.requires.bytes_bound)))

pub put_pair-slice_bounds-put_unit-count : goal.put_pair-slice_bounds-put_unit-count
put_pair-slice_bounds-put_unit-count t c =
    let w : Walk c.args.depth c.args.bytes.now (Two c.args.join) = record { well = c.requires.bytes_value; says = c.requires.bytes_value_2 } in
    omega (arith, first_within w c.put_unit-first.ensures.used_value, onward_length 1 c.args.bytes.now)

pub put_pair-slice_bounds-put_unit-start : goal.put_pair-slice_bounds-put_unit-start
put_pair-slice_bounds-put_unit-start t c =
    let w : Walk c.args.depth c.args.bytes.now (Two c.args.join) = record { well = c.requires.bytes_value; says = c.requires.bytes_value_2 } in
    omega (arith, first_within w c.put_unit-first.ensures.used_value, onward_length 1 c.args.bytes.now)

pub put_pair-overflow_sub-depth-2 : goal.put_pair-overflow_sub-depth-2
put_pair-overflow_sub-depth-2 t c = omega (arith, deep c.args.depth c.args.bytes.now c.requires.bytes_value)

-- there is room for the mark and the second operand
pub put_pair-overflow_add-first : goal.put_pair-overflow_add-first
put_pair-overflow_add-first t c =
    let w : Walk c.args.depth c.args.bytes.now (Two c.args.join) = record { well = c.requires.bytes_value; says = c.requires.bytes_value_2 } in
    let e = c.put_unit-first.ensures in
    omega (arith, pair_length w e.used_value, c.requires.bytes_bound, e.put.ends)

pub put_pair-put_unit-second-requires : goal.put_pair-put_unit-second-requires
put_pair-put_unit-second-requires t c =
    let w : Walk c.args.depth c.args.bytes.now (Two c.args.join) = record { well = c.requires.bytes_value; says = c.requires.bytes_value_2 } in
    let e = c.put_unit-first.ensures in
    let some = deep c.args.depth c.args.bytes.now c.requires.bytes_value in
    (omega (arith, some), (second_well w e.used_value, omega (arith, pair_length w e.used_value, c.requires.bytes_bound, e.put.ends)))

pub put_pair-overflow_add-result : goal.put_pair-overflow_add-result
put_pair-overflow_add-result t c =
    let w : Walk c.args.depth c.args.bytes.now (Two c.args.join) = record { well = c.requires.bytes_value; says = c.requires.bytes_value_2 } in
    omega (arith, first_within w c.put_unit-first.ensures.used_value, c.well_formed.0.1)

pub put_pair-overflow_add-result-2 : goal.put_pair-overflow_add-result-2
put_pair-overflow_add-result-2 t c =
    let w : Walk c.args.depth c.args.bytes.now (Two c.args.join) = record { well = c.requires.bytes_value; says = c.requires.bytes_value_2 } in
    omega (arith, both_within w c.put_unit-first.ensures.used_value c.put_unit-second.ensures.used_value, c.well_formed.0.1)

pub put_pair-returns-clause-used_value : goal.put_pair-returns-clause-used_value
put_pair-returns-clause-used_value t c =
    let w : Walk c.args.depth c.args.bytes.now (Two c.args.join) = record { well = c.requires.bytes_value; says = c.requires.bytes_value_2 } in
    let e = c.put_unit-first.ensures in
    let f = c.put_unit-second.ensures in
    (told_pair w (e.used_value, e.put) c.mark_of.ensures c.put.ensures (f.used_value, f.put)).0

pub put_pair-returns-clause-put : goal.put_pair-returns-clause-put
put_pair-returns-clause-put t c =
    let w : Walk c.args.depth c.args.bytes.now (Two c.args.join) = record { well = c.requires.bytes_value; says = c.requires.bytes_value_2 } in
    let e = c.put_unit-first.ensures in
    let f = c.put_unit-second.ensures in
    (told_pair w (e.used_value, e.put) c.mark_of.ensures c.put.ensures (f.used_value, f.put)).1

-- ---- a unit

pub put_unit-slice_bounds-body-count : goal.put_unit-slice_bounds-body-count
put_unit-slice_bounds-body-count t c = omega (arith, long c.args.depth c.args.bytes.now c.requires.bytes_value)

pub put_unit-slice_bounds-body-start : goal.put_unit-slice_bounds-body-start
put_unit-slice_bounds-body-start t c = omega (arith, long c.args.depth c.args.bytes.now c.requires.bytes_value)

pub put_unit-bounds-bytes-0 : goal.put_unit-bounds-bytes-0
put_unit-bounds-bytes-0 t c = omega (arith, long c.args.depth c.args.bytes.now c.requires.bytes_value)

-- ---- a symbol

pub put_unit-bounds-body-0 : goal.put_unit-bounds-body-0
put_unit-bounds-body-0 t c = number_there (walk c.requires.bytes_value c.kind_of.ensures c.in-Symbol.is)

pub put_unit-put_number-next-requires : goal.put_unit-put_number-next-requires
put_unit-put_number-next-requires t c =
    let w = walk c.requires.bytes_value c.kind_of.ensures c.in-Symbol.is in
    omega (arith, ap length (symbol_text w), c.requires.bytes_bound)

pub put_unit-returns-in-Symbol-clause-used_value : goal.put_unit-returns-in-Symbol-clause-used_value
put_unit-returns-in-Symbol-clause-used_value t c =
    (told_symbol (walk c.requires.bytes_value c.kind_of.ensures c.in-Symbol.is) c.put_number-next.ensures).0

pub put_unit-returns-in-Symbol-clause-put : goal.put_unit-returns-in-Symbol-clause-put
put_unit-returns-in-Symbol-clause-put t c =
    (told_symbol (walk c.requires.bytes_value c.kind_of.ensures c.in-Symbol.is) c.put_number-next.ensures).1

-- ---- a negation

pub put_unit-overflow_sub-depth : goal.put_unit-overflow_sub-depth
put_unit-overflow_sub-depth t c = omega (arith, deep c.args.depth c.args.bytes.now c.requires.bytes_value)

-- there is room for the sign and the operand
pub put_unit-overflow_add-at : goal.put_unit-overflow_add-at
put_unit-overflow_add-at t c =
    let w = walk c.requires.bytes_value c.kind_of.ensures c.in-Not.is in
    omega (arith, ap length (not_text w), c.requires.bytes_bound)

pub put_unit-put_unit-inner-requires : goal.put_unit-put_unit-inner-requires
put_unit-put_unit-inner-requires t c =
    let w = walk c.requires.bytes_value c.kind_of.ensures c.in-Not.is in
    let some = deep c.args.depth c.args.bytes.now c.requires.bytes_value in
    (omega (arith, some), (not_well w, omega (arith, ap length (not_text w), c.requires.bytes_bound)))

pub put_unit-overflow_add-result : goal.put_unit-overflow_add-result
put_unit-overflow_add-result t c =
    let w = walk c.requires.bytes_value c.kind_of.ensures c.in-Not.is in
    omega (arith, first_within w c.put_unit-inner.ensures.used_value, c.well_formed.0.1)

pub put_unit-returns-in-Not-clause-used_value : goal.put_unit-returns-in-Not-clause-used_value
put_unit-returns-in-Not-clause-used_value t c =
    let e = c.put_unit-inner.ensures in
    (told_not (walk c.requires.bytes_value c.kind_of.ensures c.in-Not.is) c.put.ensures (e.used_value, e.put)).0

pub put_unit-returns-in-Not-clause-put : goal.put_unit-returns-in-Not-clause-put
put_unit-returns-in-Not-clause-put t c =
    let e = c.put_unit-inner.ensures in
    (told_not (walk c.requires.bytes_value c.kind_of.ensures c.in-Not.is) c.put.ensures (e.used_value, e.put)).1

-- ---- a bracket

-- there is room for the brackets and what stands between them
pub put_unit-overflow_add-at-in-Two : goal.put_unit-overflow_add-at-in-Two
put_unit-overflow_add-at-in-Two t c =
    let w = walk c.requires.bytes_value c.kind_of.ensures c.in-Two.is in
    omega (arith, bracket_length w, c.requires.bytes_bound)

pub put_unit-put_pair-both-requires : goal.put_unit-put_pair-both-requires
put_unit-put_pair-both-requires t c =
    let w = walk c.requires.bytes_value c.kind_of.ensures c.in-Two.is in
    (omega arith, (c.requires.bytes_value, (w.says, omega (arith, bracket_length w, c.requires.bytes_bound))))

pub put_unit-overflow_add-result-in-Two : goal.put_unit-overflow_add-result-in-Two
put_unit-overflow_add-result-in-Two t c =
    let w = walk c.requires.bytes_value c.kind_of.ensures c.in-Two.is in
    omega (arith, bracket_length w, c.requires.bytes_bound, c.put_pair-both.ensures.put.ends)

pub put_unit-returns-in-Two-clause-put : goal.put_unit-returns-in-Two-clause-put
put_unit-returns-in-Two-clause-put t c =
    let e = c.put_pair-both.ensures in
    let w = walk c.requires.bytes_value c.kind_of.ensures c.in-Two.is in
    (told_bracket w c.put-in-Two.ensures (e.used_value, e.put) c.put-in-Two-2.ensures).1

pub put_unit-returns-in-Unknown-clause-used_value : goal.put_unit-returns-in-Unknown-clause-used_value
put_unit-returns-in-Unknown-clause-used_value t c = no_unknown (walk c.requires.bytes_value c.kind_of.ensures c.in-Unknown.is)

pub put_unit-returns-in-Unknown-clause-put : goal.put_unit-returns-in-Unknown-clause-put
put_unit-returns-in-Unknown-clause-put t c = no_unknown (walk c.requires.bytes_value c.kind_of.ensures c.in-Unknown.is)
