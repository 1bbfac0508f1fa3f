-- 02, Ticket 1: a rule that is refused for its formula is told where it breaks, and no other answer has a place.
use Rattle.meaning.proofs.Kit.{◌≡◌, ◌∙◌, sym, ap, refl, inl, inr, ◌⊎◌, true, false, Bool, List, ◌≤◌, ℕ, ◌<◌, arith, drop, le-leb, lt-leb}
use Rattle.literals.specs.Refusals.{number_of}
use Rattle.literals.specs.declared.refusal.Refusal.{Refusal}
use Rattle.formula.specs.Parse.{Parsed, good, bad, whole_of}
use Rattle.formula.proofs.Breaking.{first_fault_lem}
use Rattle.board.specs.Faults.{Fault, first_fault, good_board, number_in}
use Rattle.board.specs.Rules.{no_place, place_told, rule_faults}
use Rattle.board.specs.Faults.{Outcome}
use Rattle.std.specs.Prelude.{Err}
use Rattle.board.proofs.Goodness.{good_is}
use Rattle.board.proofs.Adding.{place_told_lem}
use Rattle.board.proofs.Answered.{Without, never_answered, rule_place}
use Rattle.promises.specs.Calls.{adds, World, front, faults, answer, outcome}
use Rattle.promises.specs.Demands.{RuleBreaks, NoPlaceElse}
use Rattle.promises.proofs.Refusals.{cases}

-- a refusal of the numbers 2 to 6 is the formula's, on a good board: the tests after the formula's are of other numbers
module _ (w : World) (lent : ℕ) (bytes : List ℕ) (why : Refusal) (e : outcome w (adds lent bytes) ≡ Err why)
    (low : 2 ≤ number_of why) (high : number_of why ≤ 6) where
  abbrev tests : List Fault
  tests = rule_faults (front w lent) w.board bytes

  abbrev Broken : Type 0
  Broken = (good_board (front w lent) w.board ≡ true) × (at : ℕ) × (whole_of w.board.symbols bytes ≡ bad why at)

  first : first_fault tests ≡ Err why
  unfolding faults
  first = cases w (adds lent bytes) e

  not_later : first_fault tests ≡ first_fault (drop 2 tests) → ⊥
  unfolding rule_faults
  not_later same =
      let none : Without (number_of why) (drop 2 tests) = (λ g is. omega arith, (λ g is. omega arith, (λ g is. omega arith, tt))) in
      never_answered (number_of why) (drop 2 tests) (omega arith) none (ap number_in (sym same ∙ first))

  of_formula : Broken
  unfolding rule_faults
  of_formula = go (good_board (front w lent) w.board) (whole_of w.board.symbols bytes) refl refl
    where
      go : (g : Bool) (p : Parsed) → good_board (front w lent) w.board ≡ g → whole_of w.board.symbols bytes ≡ p → Broken
      go false p is read = absurd (omega (arith, ap number_in (rw is at first)))
      go true (good f used) is read = absurd (not_later (rw (is, read)))
      go true (bad which at) is read =
          let told = rw (is, read) at first in
          let same : which ≡ why = cc in
          (is, at, read ∙ ap (λ (r : Refusal). bad r at) same)

pub rule_breaks : RuleBreaks
unfolding answer outcome
rule_breaks w lent bytes why e low high =
    let f = of_formula w lent bytes why e low high in
    let S = w.board.symbols in
    let place = rule_place (front w lent) w.board bytes ∙ ap (λ (o : Outcome). place_told o (whole_of S bytes)) e ∙ place_told_lem S bytes f.2 in
    rw place (first_fault_lem S bytes why f.1 (good_is (front w lent) w.board f.0).some f.2)

pub none_told : (o : Outcome) (p : Parsed) → (number_in o < 2) ⊎ (6 < number_in o) → place_told o p ≡ no_place
none_told o p (inl low) = rw (lt-leb 2 (number_in o) low)
none_told o p (inr high) = rw (le-leb 2 (number_in o) (omega arith), lt-leb (number_in o) 6 high)

pub no_place_else : NoPlaceElse
unfolding answer outcome
no_place_else w lent bytes h =
    rule_place (front w lent) w.board bytes ∙ none_told (outcome w (adds lent bytes)) (whole_of w.board.symbols bytes) h
