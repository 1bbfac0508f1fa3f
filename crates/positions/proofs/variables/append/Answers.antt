-- `variables::append` meets its contract: the symbols and the truth table come back at the fronts of their arrays.
use Rattle.meaning.proofs.Kit.{◌≡◌, ◌∙◌, sym, ap, true, false, List, Bool, ◌++◌, ◌≤◌, ℕ, ◌*◌, ◌^◌, ◌%◌, arith, leb, pow_mono, length, drop, take, replicate}
use Rattle.meaning.proofs.Kit.{length-append, length-replicate, length-take-le, take_at, le-leb}
use Rattle.meaning.specs.Tests.{all, from}
use Rattle.meaning.proofs.BySize.{length_from}
use Rattle.meaning.proofs.Tests.{all_of, from_in}
use Rattle.board.proofs.Adding.{shifted}
use Rattle.positions.specs.Writing.{only_one}
use Rattle.positions.proofs.OneTruth.{length_only}
use Rattle.positions.proofs.Turns.{take_same}
use Rattle.positions.proofs.variables.append.Goals as goal

-- places for the symbols
abbrev places : List ℕ
places = replicate 7 0

-- how many values the truth table has
abbrev values : ℕ → ℕ
values count = 1 * 2 ^ count % 2 ^ 64

module _ (count : ℕ) (few : count ≤ 7) where
  values_is : values count ≡ 2 ^ count
  values_is = shifted count (omega (arith, few))

  -- nothing but false at the front
  falses : take (values count) (replicate 128 false) ≡ replicate (values count) false
  falses = take_same (values count) 128 false (omega (arith, values_is, pow_mono {j = 7} few))

  -- the truth table, where it comes back
  module _ {truth : List Bool} (e : truth ≡ only_one count) where
    table_long : length truth ≡ values count
    table_long = ap length e ∙ length_only count ∙ sym values_is

    table : take (values count) (truth ++ drop (values count) (replicate 128 false)) ≡ only_one count
    table = take_at truth (drop (values count) (replicate 128 false)) (values count) table_long ∙ e

  -- the symbols, where they come back
  listed : (first : ℕ) {names : List ℕ} → names ≡ from first (length (take count places))
      → take count (names ++ drop count places) ≡ from first count
  listed first {names} e =
      let is = e ∙ ap (from first) (length-take-le count places (rw length-replicate few)) in
      take_at names (drop count places) count (ap length is ∙ length_from first count) ∙ is

-- every symbol is 1 at least
positive : (first count : ℕ) → 1 ≤ first → all (leb 1) (from first count) ≡ true
positive first count h = all_of (leb 1) (from first count) (λ t m. le-leb 1 t (omega (arith, h, (from_in first count t m).0)))

pub mark_single-requires : goal.mark_single-requires
mark_single-requires c =
    let count = c.args.count in
    (c.requires.2, falses count c.requires.2 ∙ ap (λ (n : ℕ). replicate n false) (values_is count c.requires.2))

pub slice_bounds-truth-end-2 : goal.slice_bounds-truth-end-2
slice_bounds-truth-end-2 c =
    let count = c.args.count in
    let truth = c.mark_single.new.truth in
    omega (arith, table_long count c.requires.2 c.mark_single.ensures, length-append truth (drop (values count) (replicate 128 false)))

pub slice_bounds-append_rule-end-2 : goal.slice_bounds-append_rule-end-2
slice_bounds-append_rule-end-2 c =
    let count = c.args.count in
    sym (ap length (table count c.requires.2 c.mark_single.ensures) ∙ length_only count ∙ sym (values_is count c.requires.2))

pub append_rule-requires-clause-symbols_len_bound : goal.append_rule-requires-clause-symbols_len_bound
append_rule-requires-clause-symbols_len_bound c =
    let a = c.args in
    let few = c.requires.2 in
    let names = listed a.count few a.first c.list_symbols.ensures in
    let long = length_from a.first a.count in (
      omega (arith, ap length names ∙ long, few),
      rw names (positive a.first a.count c.requires.0),
      ap length (table a.count few c.mark_single.ensures) ∙ length_only a.count ∙ ap (λ (n : ℕ). 2 ^ n) (sym (ap length names ∙ long)),
    )
