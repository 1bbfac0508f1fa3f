-- `wording::spell` meets its contract: a formula of the board's symbols is the same where every byte but 0 is a symbol's number.
use Rattle.meaning.proofs.Kit.{◌≡◌, sym, ap, refl, true, List, ◌≤◌, ℕ, arith, length}
use Rattle.chains.proofs.Words.{is_good, Parsed, good, bad, parse, levels, Join, Kind, Symbol, Not, Two, Unknown, spelled}
use Rattle.formula.proofs.Walk.{Walk, long, never, made_symbol, made_not, no_unknown}
use Rattle.formula.proofs.Widening.{wide, wide_well}
use Rattle.chains.proofs.Bounds.{spelled_bound}
use Rattle.chains.proofs.Texts.{unit_text_of, spelled_of}
use Rattle.chains.proofs.wording.spell.Goals as goal

-- but for the two-operand forms, the whole is a unit
whole_unit : (kind : Kind) {depth : ℕ} {bytes : List ℕ} → Walk depth bytes kind → ((join : Join) → kind ≡ Two join → ⊥)
    → spelled_of (parse 255 depth bytes) ≡ unit_text_of (parse 255 depth bytes)
unfolding spelled
whole_unit Symbol w k = rw (made_symbol w)
whole_unit Not w k = rw (made_not w).whole
whole_unit (Two join) w k = absurd (k join refl)
whole_unit Unknown w k = no_unknown w

module _ (S : ℕ) (h : S ≤ 200) (bytes : List ℕ) (well : is_good (parse S levels bytes) ≡ true) where
  room : length (spelled_of (parse 255 levels bytes)) ≤ 196603
  room = rw (wide S h levels bytes well) at (go (parse S levels bytes) refl well)
    where
      go : (p : Parsed) → parse S levels bytes ≡ p → is_good p ≡ true → length (spelled_of p) ≤ 196603
      go (good f used) e g = spelled_bound S bytes f used h e
      go (bad why place) e g = never g

pub bounds-bytes-0 : goal.bounds-bytes-0
bounds-bytes-0 c = long levels c.args.bytes.now (wide_well c.args.symbols c.requires.symbols_bound levels c.args.bytes.now c.requires.bytes_value)

pub put_pair-pair-requires-clause-bytes_value : goal.put_pair-pair-requires-clause-bytes_value
put_pair-pair-requires-clause-bytes_value c =
    wide_well c.args.symbols c.requires.symbols_bound levels c.args.bytes.now c.requires.bytes_value

pub put_pair-pair-requires-clause-bytes_bound : goal.put_pair-pair-requires-clause-bytes_bound
put_pair-pair-requires-clause-bytes_bound c =
    omega (arith, room c.args.symbols c.requires.symbols_bound c.args.bytes.now c.requires.bytes_value)

-- where the arm for all other kinds is taken
pub put_unit-unit-requires : goal.put_unit-unit-requires
put_unit-unit-requires c =
    let bytes = c.args.bytes.now in
    let S = c.args.symbols in
    let well = wide_well S c.requires.symbols_bound levels bytes c.requires.bytes_value in
    let whole = whole_unit c.kind_of.result {depth = levels} {bytes = bytes} (record { well = well; says = sym c.kind_of.ensures }) c.in_default.not-Two in
    record {
      bytes_value = well;
      bytes_bound = omega (arith, room S c.requires.symbols_bound bytes c.requires.bytes_value, ap length whole);
    }

pub returns-in-Two : goal.returns-in-Two
returns-in-Two c =
    rw (wide c.args.symbols c.requires.symbols_bound levels c.args.bytes.now c.requires.bytes_value) c.put_pair-pair.ensures.put

pub returns-in_default : goal.returns-in_default
returns-in_default c =
    let bytes = c.args.bytes.now in
    let S = c.args.symbols in
    let well = wide_well S c.requires.symbols_bound levels bytes c.requires.bytes_value in
    let whole = whole_unit c.kind_of.result {depth = levels} {bytes = bytes} (record { well = well; says = sym c.kind_of.ensures }) c.in_default.not-Two in
    rw (wide S c.requires.symbols_bound levels bytes c.requires.bytes_value, whole) c.put_unit-unit.ensures.put
