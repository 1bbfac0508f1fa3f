-- It asks for one literal, for the two of a symbol, or for none.
use Rattle.meaning.proofs.Kit.{◌≡◌, ◌∙◌, sym, ap, refl, List, ℕ, ◌<◌, ◌+◌, ◌*◌, arith, ℤ, Bool, length, get_or}
use Rattle.std.specs.Prelude.{Some}
use Rattle.meaning.specs.Tests.{none}
use Rattle.meaning.specs.Rounds.{ranks_of}
use Rattle.literals.specs.Row.{rows_in, Fit}
use Rattle.literals.proofs.Scanning.{few_places, few_rows}
use Rattle.findings.specs.Ranks.{earliest_in, found}
use Rattle.findings.proofs.RankTables.{length_ranks_of}
use Rattle.findings.proofs.Searching.{found_at, found_not}
use Rattle.findings.proofs.Reaching.{asked_literal, asked_unranked, symbol_below, asked_symbol, asked_nothing}
use Rattle.findings.proofs.reach.reach_asked.Goals as goal

-- the places are few, and there is a rank for each; the symbol that is found is one of theirs
module _ {places used : ℕ} {table : List ℤ} {ranks : List ℕ} (held : List Bool) (fit : Fit places used table)
    (is : ranks ≡ ranks_of places (rows_in used table) held) where
  small : places < none
  small = omega (arith, few_places fit)

  long : length ranks ≡ places
  long = ap length is ∙ length_ranks_of places (rows_in used table) held

  below : {s : ℕ} → Some s ≡ found (earliest_in ranks) → 2 * s + 1 < places
  below {s} e =
      let f : (s ≡ earliest_in ranks) × (s ≡ none → ⊥) = found_at e in
      omega (arith, symbol_below places (rows_in used table) held small is f.0 f.1)

pub bounds-ranks-p : goal.bounds-ranks-p
bounds-ranks-p c = omega (arith, c.if-p-marks.true, long c.args.held.now c.requires.fit c.requires.ranks_value)

pub returns-then-ranks-p : goal.returns-then-ranks-p
returns-then-ranks-p c =
    let q = c.requires in
    let unranked = ap (λ l. get_or l c.args.p 0) (sym q.ranks_value) ∙ c.if-ranks-p.true in
    q.marks_value ∙ asked_unranked _ (rows_in c.args.rows c.args.table.now) _ (small c.args.held.now q.fit q.ranks_value) (few_rows q.fit) c.if-p-marks.true unranked

pub returns-then-p-marks : goal.returns-then-p-marks
returns-then-p-marks c = c.reach.ensures ∙ asked_literal _ _ _ c.if-p-marks.true

pub earliest_clash-requires : goal.earliest_clash-requires
earliest_clash-requires c =
    omega (arith, long c.args.held.now c.requires.fit c.requires.ranks_value, small c.args.held.now c.requires.fit c.requires.ranks_value)

-- the symbol's two literals are among the places
pub overflow_mul-s : goal.overflow_mul-s
overflow_mul-s c =
    omega (arith, below c.args.held.now c.requires.fit c.requires.ranks_value c.in-Some.ensures, small c.args.held.now c.requires.fit c.requires.ranks_value)

pub overflow_mul-s-in-Some : goal.overflow_mul-s-in-Some
overflow_mul-s-in-Some c =
    omega (arith, below c.args.held.now c.requires.fit c.requires.ranks_value c.in-Some.ensures, small c.args.held.now c.requires.fit c.requires.ranks_value)

pub overflow_add-s : goal.overflow_add-s
overflow_add-s c =
    omega (arith, below c.args.held.now c.requires.fit c.requires.ranks_value c.in-Some.ensures, small c.args.held.now c.requires.fit c.requires.ranks_value)

pub reach-requires-in-Some-clause-marks_in_bounds : goal.reach-requires-in-Some-clause-marks_in_bounds
reach-requires-in-Some-clause-marks_in_bounds c =
    let b = below c.args.held.now c.requires.fit c.requires.ranks_value c.in-Some.ensures in
    (c.requires.marks_in_bounds, omega (arith, b), b)

pub returns-in-Some : goal.returns-in-Some
returns-in-Some c =
    let f = found_at c.in-Some.ensures in
    let q = c.requires in
    c.reach-in-Some.ensures
    ∙ asked_symbol _ (rows_in c.args.rows c.args.table.now) _ (small c.args.held.now q.fit q.ranks_value) q.ranks_value f.0 c.if-p-marks.false f.1

pub returns-in_default : goal.returns-in_default
returns-in_default c =
    let q = c.requires in
    q.marks_value
    ∙ asked_nothing _ (rows_in c.args.rows c.args.table.now) _ (small c.args.held.now q.fit q.ranks_value) q.ranks_value refl c.if-p-marks.false (found_not c.in_default.ensures)
