-- `naming::mark` meets its contract.
use Rattle.meaning.proofs.Kit.{◌≡◌, ◌∙◌, sym, true, List, ℕ, arith, get_or}
use Rattle.formula.proofs.Words.{Kind, kind_of, is_good, parse}
use Rattle.formula.proofs.Marking.{leaves_symbol, leaves_not, leaves_two}
use Rattle.formula.proofs.Parts.{onward_length}
use Rattle.formula.proofs.Walk.{Walk, deep, long, number_there, no_unknown, not_well, first_well, second_well, first_within, both_within}
use Rattle.formula.proofs.naming.+mark.Goals as goal

-- the kind is known
walk : {depth : ℕ} {bytes : List ℕ} {told kind : Kind} → is_good (parse 255 depth bytes) ≡ true → told ≡ kind_of (get_or bytes 0 0)
    → told ≡ kind → Walk depth bytes kind
walk well e is = record { well = well; says = sym e ∙ is }

pub slice_bounds-body-count : goal.slice_bounds-body-count
slice_bounds-body-count t c = omega (arith, long c.args.depth c.args.bytes.now c.requires)

pub slice_bounds-body-start : goal.slice_bounds-body-start
slice_bounds-body-start t c = omega (arith, long c.args.depth c.args.bytes.now c.requires)

pub bounds-bytes-0 : goal.bounds-bytes-0
bounds-bytes-0 t c = omega (arith, long c.args.depth c.args.bytes.now c.requires)

pub bounds-body-0 : goal.bounds-body-0
bounds-body-0 t c = number_there (walk c.requires c.kind_of.ensures c.in-Symbol.is)

pub overflow_sub-depth : goal.overflow_sub-depth
overflow_sub-depth t c = omega (arith, deep c.args.depth c.args.bytes.now c.requires)

pub mark-requires : goal.mark-requires
mark-requires t c =
    (omega (arith, deep c.args.depth c.args.bytes.now c.requires), not_well (walk c.requires c.kind_of.ensures c.in-Not.is))

pub overflow_add-result : goal.overflow_add-result
overflow_add-result t c =
    omega (arith, first_within (walk c.requires c.kind_of.ensures c.in-Not.is) c.mark.ensures.0, c.well_formed.0.1)

pub overflow_sub-depth-in-Two : goal.overflow_sub-depth-in-Two
overflow_sub-depth-in-Two t c = omega (arith, deep c.args.depth c.args.bytes.now c.requires)

pub mark-first-requires : goal.mark-first-requires
mark-first-requires t c =
    (omega (arith, deep c.args.depth c.args.bytes.now c.requires), first_well (walk c.requires c.kind_of.ensures c.in-Two.is))

pub slice_bounds-mark-count : goal.slice_bounds-mark-count
slice_bounds-mark-count t c =
    let w = walk c.requires c.kind_of.ensures c.in-Two.is in
    omega (arith, first_within w c.mark-first.ensures.0, onward_length 1 c.args.bytes.now)

pub slice_bounds-mark-start : goal.slice_bounds-mark-start
slice_bounds-mark-start t c =
    let w = walk c.requires c.kind_of.ensures c.in-Two.is in
    omega (arith, first_within w c.mark-first.ensures.0, onward_length 1 c.args.bytes.now)

pub overflow_sub-depth-in-Two-2 : goal.overflow_sub-depth-in-Two-2
overflow_sub-depth-in-Two-2 t c = omega (arith, deep c.args.depth c.args.bytes.now c.requires)

pub mark-second-requires : goal.mark-second-requires
mark-second-requires t c =
    let w = walk c.requires c.kind_of.ensures c.in-Two.is in
    (omega (arith, deep c.args.depth c.args.bytes.now c.requires), second_well w c.mark-first.ensures.0)

pub overflow_add-result-in-Two : goal.overflow_add-result-in-Two
overflow_add-result-in-Two t c =
    omega (arith, first_within (walk c.requires c.kind_of.ensures c.in-Two.is) c.mark-first.ensures.0, c.well_formed.0.1)

pub overflow_add-result-in-Two-2 : goal.overflow_add-result-in-Two-2
overflow_add-result-in-Two-2 t c =
    let w = walk c.requires c.kind_of.ensures c.in-Two.is in
    omega (arith, both_within w c.mark-first.ensures.0 c.mark-second.ensures.0, c.well_formed.0.1)

pub returns-in-Symbol : goal.returns-in-Symbol
returns-in-Symbol t c = leaves_symbol c.args.marks.now (walk c.requires c.kind_of.ensures c.in-Symbol.is)

pub returns-in-Not : goal.returns-in-Not
returns-in-Not t c = leaves_not c.args.marks.now c.mark.ensures (walk c.requires c.kind_of.ensures c.in-Not.is)

pub returns-in-Two : goal.returns-in-Two
returns-in-Two t c =
    leaves_two c.args.marks.now c.mark-first.ensures (walk c.requires c.kind_of.ensures c.in-Two.is) c.mark-second.ensures

pub returns-in-Unknown : goal.returns-in-Unknown
returns-in-Unknown t c = no_unknown (walk c.requires c.kind_of.ensures c.in-Unknown.is)
