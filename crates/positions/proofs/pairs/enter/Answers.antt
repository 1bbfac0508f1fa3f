-- `pairs::enter` meets its contract: there are as many rows, and as many rules, as both variables have positions.
use Rattle.meaning.proofs.Kit.{◌≡◌, ◌∙◌, sym, ap, ap₂, true, false, ◌&&◌, and-false, ◌≤◌, ℕ, ◌+◌, suc, arith, leb, le-leb, lt-leb}
use Rattle.positions.specs.Positions.{PairTable, pairs, suits}
use Rattle.positions.proofs.PositionRules.{suits_pairs}
use Rattle.literals.specs.Row.{most_rules, rows_lent}
use Rattle.implicates.specs.Appending.{appended}
use Rattle.board.specs.declared.Board.{Board}
use Rattle.board.proofs.Goodness.{good_is}
use Rattle.positions.specs.Entering.{pair_table, fits_wholly}
use Rattle.positions.proofs.PairTables.{table_rules, table_rows, table_formulae}
use Rattle.positions.proofs.Answers.{told_full, told_done}
use Rattle.positions.proofs.pairs.enter.Goals as goal

-- whether all fit, by the number of clauses
fits_is : (b : Board) (lent : ℕ) (t : PairTable) → suits b.symbols (pairs t) ≡ true → let clauses = t.one.count + t.other.count in
    fits_wholly b.symbols b.rows b.rules lent (pairs t) ≡ (leb (b.rows + clauses) lent && leb (b.rules + clauses) most_rules)
fits_is b lent t h =
    ap₂ (λ (r f : ℕ). leb (b.rows + r) lent && leb (b.rules + f) most_rules) (table_rows b.symbols t h) (table_formulae b.symbols t h)

pub overflow_add-clauses : goal.overflow_add-clauses
overflow_add-clauses c =
    let a = c.args in
    let f = suits_pairs a.board.symbols (pair_table a.first a.count a.other a.others a.pairs) c.requires.1 in
    omega (arith, f.0.3, f.1.3)

pub overflow_sub-rows_lent : goal.overflow_sub-rows_lent
overflow_sub-rows_lent c = omega (arith, c.rows_lent.ensures, (good_is c.args.table.now c.args.board c.requires.0).lent)

pub returns-then-rows_lent-board : goal.returns-then-rows_lent-board
returns-then-rows_lent-board c =
    let a = c.args in
    let b = a.board in
    let t = pair_table a.first a.count a.other a.others a.pairs in
    let lent = rows_lent a.table.now in
    let good = good_is a.table.now b c.requires.0 in
    let short = lt-leb (b.rows + (a.count + a.others)) lent (omega (arith, c.rows_lent.ensures, c.if-rows_lent-board.true, good.lent)) in
    let all = told_full a.table.now b (pairs t) c.requires.0 c.requires.1 (fits_is b lent t c.requires.1 ∙ rw short) in
    record { value = c.refused.ensures ∙ all.answer_is; table_after = all.table_is }

pub overflow_sub-board : goal.overflow_sub-board
overflow_sub-board c = omega (arith, (good_is c.args.table.now c.args.board c.requires.0).few)

pub returns-then-board-clauses : goal.returns-then-board-clauses
returns-then-board-clauses c =
    let a = c.args in
    let b = a.board in
    let t = pair_table a.first a.count a.other a.others a.pairs in
    let lent = rows_lent a.table.now in
    let clauses = a.count + a.others in
    let good = good_is a.table.now b c.requires.0 in
    let few = lt-leb (b.rules + clauses) most_rules (omega (arith, c.if-board-clauses.true, good.few)) in
    let full : fits_wholly b.symbols b.rows b.rules lent (pairs t) ≡ false =
    fits_is b lent t c.requires.1 ∙ rw few (and-false (leb (b.rows + clauses) lent)) in
    let all = told_full a.table.now b (pairs t) c.requires.0 c.requires.1 full in
    record { value = c.refused-then-board-clauses.ensures ∙ all.answer_is; table_after = all.table_is }

pub append_both-requires : goal.append_both-requires
append_both-requires c =
    let a = c.args in
    let f = suits_pairs a.board.symbols (pair_table a.first a.count a.other a.others a.pairs) c.requires.1 in
    let good = good_is a.table.now a.board c.requires.0 in
    let top = good.sound.symbols in
    let rows : a.board.rows + (a.count + a.others) ≤ rows_lent a.table.now =
    omega (arith, c.if-rows_lent-board.false, c.rows_lent.ensures, good.lent) in
    record {
      le_first = (f.0.0, f.1.0, f.0.3, f.1.3, omega (arith, f.0.1, top), omega (arith, f.1.1, top));
      others_bound = (omega (arith, c.if-board-clauses.false, good.few), omega (arith, rows));
    }

pub done-requires : goal.done-requires
done-requires c =
    let good = good_is c.args.table.now c.args.board c.requires.0 in
    (omega (arith, c.if-rows_lent-board.false, c.rows_lent.ensures, good.lent), omega (arith, c.if-board-clauses.false, good.few))

pub returns : goal.returns
returns c =
    let a = c.args in
    let b = a.board in
    let t = pair_table a.first a.count a.other a.others a.pairs in
    let lent = rows_lent a.table.now in
    let clauses = a.count + a.others in
    let good = good_is a.table.now b c.requires.0 in
    let rows : b.rows + clauses ≤ lent = omega (arith, c.if-rows_lent-board.false, c.rows_lent.ensures, good.lent) in
    let rules : b.rules + clauses ≤ most_rules = omega (arith, c.if-board-clauses.false, good.few) in
    let room : fits_wholly b.symbols b.rows b.rules lent (pairs t) ≡ true =
    fits_is b lent t c.requires.1 ∙ rw (le-leb (b.rows + clauses) lent rows, le-leb (b.rules + clauses) most_rules rules) in
    let all = told_done a.table.now b (pairs t) c.requires.0 c.requires.1 room in
    record {
      value = c.done.ensures ∙ rw (table_rows b.symbols t c.requires.1, table_formulae b.symbols t c.requires.1) at all.answer_is;
      table_after =
          c.append_both.ensures ∙ ap (appended a.table.now b.rows) (sym (table_rules b.symbols t c.requires.1 (suc b.rules))) ∙ all.table_is;
    }
