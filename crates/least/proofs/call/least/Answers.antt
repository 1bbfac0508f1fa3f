-- `least` meets its contract: its tests are the faults of `least_faults`, in their order.
use Rattle.meaning.proofs.Kit.{◌∙◌, sym, arith}
use Rattle.least.proofs.Answers.{bad_board, bad_furnace, bad_literal, too_many_lem, not_many}
use Rattle.least.proofs.call.least.Goals as goal

pub returns-then-not-good : goal.returns-then-not-good
returns-then-not-good c =
    let a = c.args in
    c.refused.ensures ∙ bad_board a.table.now a.board a.furnace a.candidates.now (sym c.good.ensures ∙ c.if-not-good.true)

pub returns-then-not-is_furnace : goal.returns-then-not-is_furnace
returns-then-not-is_furnace c =
    let a = c.args in
    let good = sym c.good.ensures ∙ c.if-not-good.false in
    c.refused-then-not-is_furnace.ensures
    ∙ bad_furnace a.table.now a.board a.furnace a.candidates.now good (sym c.is_furnace.ensures ∙ c.if-not-is_furnace.true)

pub returns-then-not-all_literals : goal.returns-then-not-all_literals
returns-then-not-all_literals c =
    let a = c.args in
    let good = sym c.good.ensures ∙ c.if-not-good.false in
    let named = sym c.is_furnace.ensures ∙ c.if-not-is_furnace.false in
    c.refused-then-not-all_literals.ensures
    ∙ bad_literal a.table.now a.board a.furnace a.candidates.now good named (sym c.all_literals.ensures ∙ c.if-not-all_literals.true)

pub returns-then-n-gt-MOST_CANDIDATES : goal.returns-then-n-gt-MOST_CANDIDATES
returns-then-n-gt-MOST_CANDIDATES c =
    let a = c.args in
    let good = sym c.good.ensures ∙ c.if-not-good.false in
    let named = sym c.is_furnace.ensures ∙ c.if-not-is_furnace.false in
    let ranged = sym c.all_literals.ensures ∙ c.if-not-all_literals.false in
    c.refused-then-n-gt-MOST_CANDIDATES.ensures
    ∙ too_many_lem a.table.now a.board a.furnace a.candidates.now good named ranged c.if-n-gt-MOST_CANDIDATES.true

pub returns : goal.returns
returns c =
    let a = c.args in
    let good = sym c.good.ensures ∙ c.if-not-good.false in
    let named = sym c.is_furnace.ensures ∙ c.if-not-is_furnace.false in
    let ranged = sym c.all_literals.ensures ∙ c.if-not-all_literals.false in
    let few = c.if-n-gt-MOST_CANDIDATES.false in
    c.least_placed.ensures ∙ not_many a.table.now a.board a.furnace a.candidates.now good named ranged (omega (arith, few))
