-- The truth table comes back at the front of the array, and it tells the rule.
use Rattle.meaning.proofs.Kit.{◌≡◌, ◌∙◌, sym, ap, false, Bool, List, ◌++◌, ◌≤◌, ℕ, ◌*◌, ◌^◌, ◌%◌, arith, length, drop, take, replicate}
use Rattle.meaning.proofs.Kit.{length-append, length-replicate, length-take-le, take_at}
use Rattle.formula.specs.Answers.{is_good}
use Rattle.board.proofs.Adding.{few_assignments, shifted, whole_is, symbols_positive, answer_is, append_is}
use Rattle.board.proofs.rules.append.Goals as goal

-- where the names are counted: how many values the truth table has, and that the array has room for them
module _ (names : List ℕ) (few : length names ≤ 8) where
  abbrev values : ℕ
  values = 1 * 2 ^ length names % 2 ^ 64

  part : length (take values (replicate 256 false)) ≡ values
  part = length-take-le values (replicate 256 false) (rw length-replicate (omega (arith, shifted (length names) few, few_assignments (length names) few)))

  -- the truth table, where it comes back
  module _ (table : List Bool) (kept : length table ≡ length (take values (replicate 256 false))) where
    front : take values (table ++ drop values (replicate 256 false)) ≡ table
    front = take_at table (drop values (replicate 256 false)) values (kept ∙ part)

    front_long : length (take values (table ++ drop values (replicate 256 false))) ≡ values
    front_long = ap length front ∙ kept ∙ part

pub fill_truth-requires-clause-bytes_value : goal.fill_truth-requires-clause-bytes_value
fill_truth-requires-clause-bytes_value c =
    let read = c.requires.symbols_bound.3 in ap is_good (sym (whole_is c.args.symbols c.args.bytes.now read)) ∙ read

pub slice_bounds-truth-end-2 : goal.slice_bounds-truth-end-2
slice_bounds-truth-end-2 c =
    let names = c.args.names.now in
    let few = c.requires.names_len_bound.0 in
    omega (arith, c.fill_truth.auto.table, part names few, length-append c.fill_truth.new.table (drop (values names few) (replicate 256 false)))

pub slice_bounds-append_rule-end : goal.slice_bounds-append_rule-end
slice_bounds-append_rule-end c = sym (front_long c.args.names.now c.requires.names_len_bound.0 c.fill_truth.new.table c.fill_truth.auto.table)

pub append_rule-requires-clause-symbols_len_bound : goal.append_rule-requires-clause-symbols_len_bound
append_rule-requires-clause-symbols_len_bound c =
    let names = c.requires.names_len_bound in (
      names.0,
      rw names.1 (symbols_positive c.args.symbols _),
      front_long c.args.names.now names.0 c.fill_truth.new.table c.fill_truth.auto.table ∙ shifted (length c.args.names.now) names.0,
    )

pub returns : goal.returns
returns c =
    let a = c.args in
    let read = c.requires.symbols_bound.3 in
    let names = c.requires.names_len_bound in
    let filled = front a.names.now names.0 c.fill_truth.new.table c.fill_truth.auto.table ∙ c.fill_truth.ensures in
    let lent = c.rows_lent-lent.ensures in
    record {
      value = answer_is a.symbols a.bytes.now a.names.now _ read names.1 filled a.rows a.rules lent c.append_rule.ensures.value;
      table_after = append_is a.symbols a.bytes.now a.names.now _ read names.1 filled a.rows a.rules a.table.now lent c.append_rule.ensures.table_after;
    }
