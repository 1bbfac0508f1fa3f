-- Where the body of a rule command breaks, the rule is refused there, since all of the body is tried; and its line says so.
use Rattle.meaning.proofs.Kit.{◌≡◌, sym, ap, true, List, ℕ, arith, ℤ, length, take-length, le-leb, le-ltb}
use Rattle.literals.specs.Refusals.{number_of}
use Rattle.literals.specs.declared.refusal.Refusal.{Refusal}
use Rattle.formula.specs.Parse.{bad, levels, parse, whole_of}
use Rattle.formula.proofs.Faults.{parse_faults}
use Rattle.board.specs.Faults.{first_fault, good_board}
use Rattle.board.specs.Rules.{rule_faults, ruled}
use Rattle.board.specs.declared.Board.{Board}
use Rattle.std.specs.Prelude.{Err}
use Rattle.board.specs.declared.rules.Addition.{Addition}
use Rattle.board.proofs.Adding.{place_told_lem, rule_refused}
use Rattle.lines.specs.Commands.{command_said, formula_bytes, formula_length, said}
use Rattle.lines.specs.Promises.{BreakSaid}

module _ (table : List ℤ) (b : Board) (body : List ℕ) (why : Refusal) (at : ℕ) (sound : good_board table b ≡ true)
    (e : parse b.symbols levels body ≡ bad why at) where
  refused_there : ((ruled table b (formula_bytes b body)).outcome ≡ Err why) × ((ruled table b (formula_bytes b body)).place ≡ at)
  unfolding formula_length whole_of rule_faults
  refused_there =
      let bytes = formula_bytes b body in
      let read : whole_of b.symbols bytes ≡ bad why at = rw (e, take-length body, e) in
      let first : first_fault (rule_faults table b bytes) ≡ Err why = rw (sound, read) in
      let a = (rule_refused table b bytes why first (place_told_lem b.symbols bytes read)).0 in
      (sym (ap (λ (x : Addition). x.outcome) a), sym (ap (λ (x : Addition). x.place) a))

pub break_said : BreakSaid
unfolding said command_said
break_said ordinal table b body why at sound e =
    let there = refused_there table b body why at sound e in
    let numbers = rw e at (parse_faults b.symbols levels body) in
    let low = le-leb 2 (number_of why) numbers.0 in
    let high = le-leb (number_of why) 6 (omega (arith, numbers.1)) in
    rw (le-ltb (length body) 0 (omega arith), there.0, there.1, low, high)
