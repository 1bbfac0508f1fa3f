-- `reading::read` meets its contract.
use Rattle.meaning.proofs.Kit.{◌≡◌, ◌∙◌, sym, ap, List, ℕ, ◌≤◌, arith, length, get_or}
use Rattle.formula.proofs.Words.{read_of, extent, Kind, kind_of}
use Rattle.formula.proofs.Parsing.{At, parse_deep, parse_short, by_symbol, by_unknown, reads_not, reads_first, reads_second}
use Rattle.std.proofs.lemmas.Result.{err_from_is_err_and}
use Rattle.formula.proofs.Extents.{first_extent, past_extent, rest_extent}
use Rattle.formula.proofs.reading.+read.Goals as goal

-- the kind is known
known : {depth : ℕ} {bytes : List ℕ} {told kind : Kind} → (depth ≡ 0 → ⊥) → (length bytes ≡ 0 → ⊥) → told ≡ kind_of (get_or bytes 0 0)
    → told ≡ kind → At depth bytes kind
known d l e is = record { deep = omega arith; long = omega arith; says = sym e ∙ is }

pub returns-then-depth-eq0 : goal.returns-then-depth-eq0
returns-then-depth-eq0 t c = c.breaks.ensures ∙ sym (ap read_of (parse_deep c.args.symbols c.args.depth c.args.bytes.now c.if-depth-eq0.true))

pub returns-then-bytes-eq0 : goal.returns-then-bytes-eq0
returns-then-bytes-eq0 t c =
    c.breaks-then-bytes-eq0.ensures ∙ sym (ap read_of (parse_short c.args.symbols c.args.depth c.args.bytes.now (omega arith) c.if-bytes-eq0.true))

pub past_by-requires : goal.past_by-requires
past_by-requires t c =
    let k = known c.if-depth-eq0.false c.if-bytes-eq0.false c.kind_of.ensures c.in-Not.is in
    omega (arith, ap extent c.read.ensures, first_extent c.args.symbols k, c.well_formed.0.1)

pub past_by-requires-in-Two : goal.past_by-requires-in-Two
past_by-requires-in-Two t c =
    let k = known c.if-depth-eq0.false c.if-bytes-eq0.false c.kind_of.ensures c.in-Two.is in
    omega (arith, ap extent c.read-in-Two.ensures, first_extent c.args.symbols k, c.well_formed.0.1)

pub slice_bounds-read-count : goal.slice_bounds-read-count
slice_bounds-read-count t c =
    let k = known c.if-depth-eq0.false c.if-bytes-eq0.false c.kind_of.ensures c.in-Two.is in
    omega (
      arith,
      ap extent c.in_ok-count-in-Two.was,
      ap extent c.past_by-in-Two.ensures,
      past_extent 1 c.read-in-Two.result,
      ap extent c.read-in-Two.ensures,
      first_extent c.args.symbols k,
    )

pub slice_bounds-read-start : goal.slice_bounds-read-start
slice_bounds-read-start t c =
    let k = known c.if-depth-eq0.false c.if-bytes-eq0.false c.kind_of.ensures c.in-Two.is in
    omega (
      arith,
      ap extent c.in_ok-count-in-Two.was,
      ap extent c.past_by-in-Two.ensures,
      past_extent 1 c.read-in-Two.result,
      ap extent c.read-in-Two.ensures,
      first_extent c.args.symbols k,
    )

pub past_by-requires-in-Two-2 : goal.past_by-requires-in-Two-2
past_by-requires-in-Two-2 t c =
    let k = known c.if-depth-eq0.false c.if-bytes-eq0.false c.kind_of.ensures c.in-Two.is in
    let within : c.in_ok-count-in-Two.count ≤ length c.args.bytes.now =
    omega (
      arith,
      ap extent c.in_ok-count-in-Two.was,
      ap extent c.past_by-in-Two.ensures,
      past_extent 1 c.read-in-Two.result,
      ap extent c.read-in-Two.ensures,
      first_extent c.args.symbols k,
    ) in
    omega (arith, ap extent c.read-in-Two-2.ensures, rest_extent c.args.symbols c.args.depth c.args.bytes.now c.in_ok-count-in-Two.count within, c.well_formed.0.1)

pub returns-in-Symbol : goal.returns-in-Symbol
returns-in-Symbol t c =
    let k = known c.if-depth-eq0.false c.if-bytes-eq0.false c.kind_of.ensures c.in-Symbol.is in
    c.read_symbol.ensures ∙ sym (ap read_of (by_symbol c.args.symbols k))

pub returns-in-Not : goal.returns-in-Not
returns-in-Not t c =
    let k = known c.if-depth-eq0.false c.if-bytes-eq0.false c.kind_of.ensures c.in-Not.is in
    c.past_by.ensures ∙ reads_not c.args.symbols k c.read.ensures

pub returns-in_err-count-in-Two : goal.returns-in_err-count-in-Two
returns-in_err-count-in-Two t c =
    let k = known c.if-depth-eq0.false c.if-bytes-eq0.false c.kind_of.ensures c.in-Two.is in
    let p = err_from_is_err_and c.from_residual.result c.from_residual.ensures.1 in
    rw (p.1, p.2) (reads_first c.args.symbols k c.read-in-Two.ensures (sym c.past_by-in-Two.ensures ∙ c.in_err-count-in-Two.was))

pub returns-in_ok-count-in-Two : goal.returns-in_ok-count-in-Two
returns-in_ok-count-in-Two t c =
    let k = known c.if-depth-eq0.false c.if-bytes-eq0.false c.kind_of.ensures c.in-Two.is in
    c.past_by-in-Two-2.ensures
    ∙ reads_second c.args.symbols k c.read-in-Two.ensures (sym c.past_by-in-Two.ensures ∙ c.in_ok-count-in-Two.was) c.read-in-Two-2.ensures

pub returns-in-Unknown : goal.returns-in-Unknown
returns-in-Unknown t c =
    let k = known c.if-depth-eq0.false c.if-bytes-eq0.false c.kind_of.ensures c.in-Unknown.is in
    c.breaks-in-Unknown.ensures ∙ sym (ap read_of (by_unknown c.args.symbols k))
