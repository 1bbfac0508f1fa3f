-- `truth::evaluate` meets its contract.
use Rattle.meaning.proofs.Kit.{◌≡◌, ◌∙◌, sym, ap, true, Bool, List, ℕ, ◌+◌, arith, length, get_or}
use Rattle.formula.proofs.Words.{Kind, Valued, kind_of, is_good, parse, look, bits}
use Rattle.formula.proofs.Parts.{onward_length}
use Rattle.formula.proofs.Values.{means_symbol, means_not, means_two}
use Rattle.formula.proofs.Walk.{Walk, deep, long, number_there, no_unknown, not_well, first_well, second_well, first_within, both_within}
use Rattle.formula.proofs.truth.+evaluate.Goals as goal

-- the kind is known
walk : {depth : ℕ} {bytes : List ℕ} {told kind : Kind} → is_good (parse 255 depth bytes) ≡ true → told ≡ kind_of (get_or bytes 0 0)
    → told ≡ kind → Walk depth bytes kind
walk well e is = record { well = well; says = sym e ∙ is }

-- the bytes that an operand takes
abbrev used : Valued → ℕ
used v = v.used

-- the assignment that `evaluate` is given
abbrev assigned : List ℕ → ℕ → ℕ → Bool
assigned names assignment = look names (bits (length names) assignment)

pub slice_bounds-body-count : goal.slice_bounds-body-count
slice_bounds-body-count t c = omega (arith, long c.args.depth c.args.bytes.now c.requires.bytes_value)

pub slice_bounds-body-start : goal.slice_bounds-body-start
slice_bounds-body-start t c = omega (arith, long c.args.depth c.args.bytes.now c.requires.bytes_value)

pub bounds-bytes-0 : goal.bounds-bytes-0
bounds-bytes-0 t c = omega (arith, long c.args.depth c.args.bytes.now c.requires.bytes_value)

pub bounds-body-0 : goal.bounds-body-0
bounds-body-0 t c = number_there (walk c.requires.bytes_value c.kind_of.ensures c.in-Symbol.is)

pub overflow_sub-depth : goal.overflow_sub-depth
overflow_sub-depth t c = omega (arith, deep c.args.depth c.args.bytes.now c.requires.bytes_value)

pub evaluate-operand-requires : goal.evaluate-operand-requires
evaluate-operand-requires t c =
    let w = walk c.requires.bytes_value c.kind_of.ensures c.in-Not.is in
    (omega (arith, deep c.args.depth c.args.bytes.now c.requires.bytes_value), (not_well w, c.requires.names_len_bound))

pub overflow_add-result : goal.overflow_add-result
overflow_add-result t c =
    let w = walk c.requires.bytes_value c.kind_of.ensures c.in-Not.is in
    omega (arith, first_within w (ap used c.evaluate-operand.ensures), c.well_formed.0.1)

pub overflow_sub-depth-in-Two : goal.overflow_sub-depth-in-Two
overflow_sub-depth-in-Two t c = omega (arith, deep c.args.depth c.args.bytes.now c.requires.bytes_value)

pub evaluate-first-requires : goal.evaluate-first-requires
evaluate-first-requires t c =
    let w = walk c.requires.bytes_value c.kind_of.ensures c.in-Two.is in
    (omega (arith, deep c.args.depth c.args.bytes.now c.requires.bytes_value), (first_well w, c.requires.names_len_bound))

pub slice_bounds-evaluate-count : goal.slice_bounds-evaluate-count
slice_bounds-evaluate-count t c =
    let w = walk c.requires.bytes_value c.kind_of.ensures c.in-Two.is in
    omega (arith, first_within w (ap used c.evaluate-first.ensures), onward_length 1 c.args.bytes.now)

pub slice_bounds-evaluate-start : goal.slice_bounds-evaluate-start
slice_bounds-evaluate-start t c =
    let w = walk c.requires.bytes_value c.kind_of.ensures c.in-Two.is in
    omega (arith, first_within w (ap used c.evaluate-first.ensures), onward_length 1 c.args.bytes.now)

pub overflow_sub-depth-in-Two-2 : goal.overflow_sub-depth-in-Two-2
overflow_sub-depth-in-Two-2 t c = omega (arith, deep c.args.depth c.args.bytes.now c.requires.bytes_value)

pub evaluate-second-requires : goal.evaluate-second-requires
evaluate-second-requires t c =
    let w = walk c.requires.bytes_value c.kind_of.ensures c.in-Two.is in
    let second = second_well w (ap used c.evaluate-first.ensures) in
    (omega (arith, deep c.args.depth c.args.bytes.now c.requires.bytes_value), (second, c.requires.names_len_bound))

pub overflow_add-result-in-Two : goal.overflow_add-result-in-Two
overflow_add-result-in-Two t c =
    let w = walk c.requires.bytes_value c.kind_of.ensures c.in-Two.is in
    omega (arith, first_within w (ap used c.evaluate-first.ensures), c.well_formed.0.1)

pub overflow_add-result-in-Two-2 : goal.overflow_add-result-in-Two-2
overflow_add-result-in-Two-2 t c =
    let w = walk c.requires.bytes_value c.kind_of.ensures c.in-Two.is in
    omega (arith, both_within w (ap used c.evaluate-first.ensures) (ap used c.evaluate-second.ensures), c.well_formed.0.1)

pub returns-in-Symbol : goal.returns-in-Symbol
returns-in-Symbol t c =
    let w = walk c.requires.bytes_value c.kind_of.ensures c.in-Symbol.is in
    ap (λ (b : Bool). record { holds = b; used = 2 }) c.given.ensures ∙ means_symbol (assigned c.args.names.now c.args.assignment) w

pub returns-in-Not : goal.returns-in-Not
returns-in-Not t c =
    let w = walk c.requires.bytes_value c.kind_of.ensures c.in-Not.is in
    means_not (assigned c.args.names.now c.args.assignment) w c.evaluate-operand.ensures

pub returns-in-Two : goal.returns-in-Two
returns-in-Two t c =
    let w = walk c.requires.bytes_value c.kind_of.ensures c.in-Two.is in
    ap (λ (b : Bool). record { holds = b; used = 1 + c.evaluate-first.result.used + c.evaluate-second.result.used }) c.join_values.ensures
    ∙ means_two (assigned c.args.names.now c.args.assignment) w c.evaluate-first.ensures c.evaluate-second.ensures

pub returns-in-Unknown : goal.returns-in-Unknown
returns-in-Unknown t c = no_unknown (walk c.requires.bytes_value c.kind_of.ensures c.in-Unknown.is)
