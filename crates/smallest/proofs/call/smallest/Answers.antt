-- `smallest` meets its contract: its tests are the faults of `smallest_faults`, in their order.
use Rattle.meaning.proofs.Kit.{◌∙◌, sym, ap, Bool, ◌&&◌, ℤ, length, to_z-of_z}
use Rattle.meaning.specs.Tests.{all}
use Rattle.literals.specs.Literal.{in_range}
use Rattle.literals.proofs.Arguments.{range_is}
use Rattle.board.specs.Faults.{first_fault}
use Rattle.board.specs.Faults.{Outcome}
use Rattle.candidates.specs.Given.{too_many}
use Rattle.smallest.specs.Listing.{smallest_on, candidate_faults}
use Rattle.smallest.proofs.Answers.{told_as, told_refused, bad_board, bad_literal, literals_given, contract}
use Rattle.smallest.proofs.call.smallest.Goals as goal

pub returns-then-not-good : goal.returns-then-not-good
returns-then-not-good c =
    let a = c.args in
    let bad = bad_board a.table.now a.board a.candidates.now a.l a.sets.now (sym c.good.ensures ∙ c.if-not-good.true) in
    let w = contract a.table.now a.board a.candidates.now a.l a.sets.now (told_refused _ _ _ bad) in
    record { value = c.refused.ensures ∙ w.0; sets_after = w.1 }

pub returns-then-not-in_range : goal.returns-then-not-in_range
returns-then-not-in_range c =
    let a = c.args in
    let rest = all (in_range a.board.symbols) a.candidates.now in
    let wrong = ap (λ (b : Bool). b && rest) (range_is c.ranges.l a.board.symbols c.in_range.result c.in_range.ensures ∙ c.if-not-in_range.true) in
    let bad = bad_literal a.table.now a.board a.candidates.now a.l a.sets.now (sym c.good.ensures ∙ c.if-not-good.false) wrong in
    let w = contract a.table.now a.board a.candidates.now a.l a.sets.now (told_refused _ _ _ bad) in
    record { value = c.refused-then-not-in_range.ensures ∙ w.0; sets_after = w.1 }

pub returns-then-not-all_literals : goal.returns-then-not-all_literals
returns-then-not-all_literals c =
    let a = c.args in
    let rest = all (in_range a.board.symbols) a.candidates.now in
    let literal = range_is c.ranges.l a.board.symbols c.in_range.result c.in_range.ensures ∙ c.if-not-in_range.false in
    let wrong = ap (λ (b : Bool). b && rest) literal ∙ sym c.all_literals.ensures ∙ c.if-not-all_literals.true in
    let bad = bad_literal a.table.now a.board a.candidates.now a.l a.sets.now (sym c.good.ensures ∙ c.if-not-good.false) wrong in
    let w = contract a.table.now a.board a.candidates.now a.l a.sets.now (told_refused _ _ _ bad) in
    record { value = c.refused-then-not-all_literals.ensures ∙ w.0; sets_after = w.1 }

pub returns : goal.returns
returns c =
    let a = c.args in
    let rest = all (in_range a.board.symbols) a.candidates.now in
    let read = to_z-of_z c.ranges.l in
    let literal = range_is c.ranges.l a.board.symbols c.in_range.result c.in_range.ensures ∙ c.if-not-in_range.false in
    let given = ap (λ (b : Bool). b && rest) literal ∙ sym c.all_literals.ensures ∙ c.if-not-all_literals.false in
    let by = literals_given a.table.now a.board a.candidates.now a.l a.sets.now (sym c.good.ensures ∙ c.if-not-good.false) given in
    let first : ℤ → Outcome = λ z.
    first_fault (candidate_faults (too_many a.candidates.now) a.table.now a.board a.candidates.now z (length a.sets.now)) in
    let w = contract a.table.now a.board a.candidates.now a.l a.sets.now
    (told_as (ap first read ∙ sym by) (ap (smallest_on a.table.now a.board a.candidates.now) read)
    record { answered = c.list_given.ensures.value; written = c.list_given.ensures.sets_after }) in
    record { value = w.0; sets_after = w.1 }
