-- `variables::enter` meets its contract: what appending tells is whether the rule fits, since a variable's rule is satisfiable.
use Rattle.meaning.proofs.Kit.{◌≡◌, ◌∙◌, sym, ap, append-nil, true, List, ℕ, ℤ, ◌-◌, suc, arith, length, ⊎_elim}
use Rattle.std.specs.Prelude.{Result, Ok, Err}
use Rattle.meaning.specs.Formulae.{Rule, rule_of}
use Rattle.meaning.specs.Clauses.{rows_of}
use Rattle.positions.specs.Positions.{Variable, exactly_one, positions, formulae_of, suits}
use Rattle.meaning.proofs.Tests.{clash}
use Rattle.positions.proofs.PositionRules.{suits_variable, variable_satisfiable}
use Rattle.literals.specs.Row.{rows_lent}
use Rattle.literals.specs.declared.refusal.Refusal.{Refusal}
use Rattle.literals.proofs.RuledRows.{of_one_rule}
use Rattle.implicates.specs.Appending.{answer_of, appended, table_of}
use Rattle.implicates.proofs.Rules.{told_full as table_full, told_rows, fits_facts}
use Rattle.board.specs.Faults.{good_board}
use Rattle.board.specs.Rules.{no_place, with_rules}
use Rattle.board.specs.declared.Board.{Board}
use Rattle.board.proofs.Goodness.{Good, good_is}
use Rattle.board.proofs.Adding.{because}
use Rattle.positions.specs.Entering.{rows_of_entry, entered, entered_table}
use Rattle.positions.proofs.VariableRule.{rule_answer, rule_table, one_rule_fits}
use Rattle.positions.proofs.Answers.{told_full, told_done}
use Rattle.positions.proofs.variables.enter.Goals as goal

module _ (table : List ℤ) (b : Board) (x : Variable) (board_good : good_board table b ≡ true) (suited : suits b.symbols (positions x) ≡ true) where
  good : Good table b
  good = good_is _ _ board_good

  abbrev rule : Rule
  rule = rule_of b.symbols (exactly_one x.first (x.count - 1))

  abbrev lent : ℕ
  lent = rows_lent table

  -- the rows of the entry are those of its one rule
  rows : rows_of_entry b.symbols (positions x) ≡ rows_of rule
  unfolding formulae_of
  rows = append-nil (rows_of rule)

  -- what appending answers, and the table that it leaves
  module _ {answer : Result ℕ Refusal} {next : List ℤ} (told : answer_of rule b.rows b.rules lent ≡ answer)
      (left : next ≡ table_of rule b.rows b.rules lent table) where
    refuses : {why : Refusal} → answer ≡ Err why
        → (record { outcome = Err why; place = no_place; added = 0; board = b } ≡ entered table b (positions x))
        × (next ≡ entered_table table b (positions x))
    refuses e =
        ⊎_elim (λ u. clash (variable_satisfiable b.symbols x suited) u.1)
        (λ f.
        let all = told_full table b (positions x) board_good suited (one_rule_fits b.symbols b.rows b.rules lent x good.few ∙ f.2) in
        (rw f.0 all.answer_is, left ∙ sym (table_full rule b.rows b.rules lent table f.1 f.2).1 ∙ all.table_is))
        (because rule b.rows b.rules lent (told ∙ e))

    adds : {n : ℕ} → answer ≡ Ok n
        → (record { outcome = Ok tt; place = no_place; added = n; board = with_rules b n 1 } ≡ entered table b (positions x))
        × (next ≡ entered_table table b (positions x))
    unfolding formulae_of
    adds e =
        let r = because rule b.rows b.rules lent (told ∙ e) in
        let room = one_rule_fits b.symbols b.rows b.rules lent x good.few ∙ r.1 in
        let all = told_done table b (positions x) board_good suited room in (
          rw (r.2 ∙ sym (ap length rows)) all.answer_is,
          left
              ∙ sym (told_rows rule b.rows b.rules lent table r.0 r.1).1
              ∙ ap (appended table b.rows) (sym (of_one_rule (suc b.rules) rule))
              ∙ all.table_is,
        )

pub append-requires : goal.append-requires
append-requires c =
    let g = good_is _ _ c.requires.0 in
    let f = suits_variable c.args.board.symbols (record { first = c.args.first; count = c.args.count }) c.requires.1 in
    (f.0, omega (arith, f.1, g.sound.symbols), f.3, g.lent, g.few)

pub done-requires : goal.done-requires
done-requires c =
    let b = c.args.board in
    let x : Variable = (record { first = c.args.first; count = c.args.count }) in
    let rule = rule_of b.symbols (exactly_one x.first (x.count - 1)) in
    let lent = rows_lent c.args.table.now in
    let r = because rule b.rows b.rules lent (sym (c.append.ensures.value ∙ rule_answer b.symbols x c.requires.1 b.rows b.rules lent) ∙ c.in-Ok.is) in
    let f = fits_facts b.rows b.rules lent (rows_of rule) r.1 in
    (omega (arith, r.2, f.0), omega (arith, f.1, (good_is _ _ c.requires.0).few))

pub returns-in-Err : goal.returns-in-Err
returns-in-Err c =
    let b = c.args.board in
    let table = c.args.table.now in
    let x : Variable = (record { first = c.args.first; count = c.args.count }) in
    let told = sym (c.append.ensures.value ∙ rule_answer b.symbols x c.requires.1 b.rows b.rules (rows_lent table)) in
    let left = c.append.ensures.table_after ∙ rule_table b.symbols x c.requires.1 b.rows b.rules (rows_lent table) table in
    let all = refuses table b x c.requires.0 c.requires.1 told left c.in-Err.is in
    record { value = c.refused.ensures ∙ all.0; table_after = all.1 }

pub returns-in-Ok : goal.returns-in-Ok
returns-in-Ok c =
    let b = c.args.board in
    let table = c.args.table.now in
    let x : Variable = (record { first = c.args.first; count = c.args.count }) in
    let told = sym (c.append.ensures.value ∙ rule_answer b.symbols x c.requires.1 b.rows b.rules (rows_lent table)) in
    let left = c.append.ensures.table_after ∙ rule_table b.symbols x c.requires.1 b.rows b.rules (rows_lent table) table in
    let all = adds table b x c.requires.0 c.requires.1 told left c.in-Ok.is in
    record { value = c.done.ensures ∙ all.0; table_after = all.1 }
