-- The set of all is tried first.
use Rattle.std.proofs.Common.{◌≡◌, ◌∙◌, List, ℕ, ℤ, None, sym, ap, ◌-◌, ◌^◌, false, arith, length}
use Rattle.std.specs.Prelude.{Option}
use Rattle.std.specs.Option.{unwrap_or}
use Rattle.meaning.specs.Tests.{none}
use Rattle.meaning.proofs.Kit.{one-le-pow}
use Rattle.findings.specs.Ranks.{found}
use Rattle.candidates.specs.Sets.{chosen}
use Rattle.board.specs.declared.Board.{Board}
use Rattle.least.specs.Withdrawing.{leaves_conflict, least_at}
use Rattle.least.specs.Effects.{effect_of}
use Rattle.least.proofs.Answers.{all_chosen, found_or_none, least_few, stays, ended}
use Rattle.least.proofs.Cores.{effect_ends, effect_leaves}
use Rattle.least.proofs.call.least_held.Goals as goal

module _ (table : List ℤ) (b : Board) (furnace : ℕ) (places : List ℕ) (sets : ℕ) (e : sets ≡ 2 ^ length places) where
  -- withdrawing the set that is tried first is withdrawing all of the candidates
  same : leaves_conflict table b furnace (chosen places (sets - 1)) ≡ leaves_conflict table b furnace places
  same =
      let some = one-le-pow (length places) 2 (omega arith) in
      ap (leaves_conflict table b furnace) (all_chosen places (sets - 1) (omega (arith, some, e)))

  -- where it ends the conflict none is left
  quiet : None ≡ effect_of table b furnace places (sets - 1) → leaves_conflict table b furnace places ≡ false
  quiet ended = sym same ∙ effect_ends table b furnace places (sets - 1) ended

-- the number of the set that the search gives
the_set : (table : List ℤ) (b : Board) (furnace : ℕ) (places : List ℕ) {n : ℕ} {o : Option ℕ} → n ≡ unwrap_or o none
    → o ≡ found (least_at table b furnace places) → n ≡ least_at table b furnace places
the_set table b furnace places is so = is ∙ ap (λ o. unwrap_or o none) so ∙ found_or_none (least_at table b furnace places)

pub returns-in-Some : goal.returns-in-Some
returns-in-Some c =
    let a = c.args in
    let l = effect_leaves a.table.now a.board a.furnace a.places.now (c.power-sets.result - 1) c.in-Some.ensures in
    let all = same a.table.now a.board a.furnace a.places.now c.power-sets.result c.power-sets.ensures in
    c.refused.ensures ∙ stays a.table.now a.board a.furnace a.places.now (sym all ∙ l.0)

pub overflow_cast-result : goal.overflow_cast-result
overflow_cast-result c =
    let a = c.args in
    let none_left = quiet a.table.now a.board a.furnace a.places.now c.power-sets.result c.power-sets.ensures c.in-None.ensures in
    let few = least_few a.table.now a.board a.furnace a.places.now c.requires.places_len_bound.0 none_left in
    omega (arith, the_set a.table.now a.board a.furnace a.places.now c.unwrap_or.ensures c.search-found.ensures, few)

pub returns-in-None : goal.returns-in-None
returns-in-None c =
    let a = c.args in
    let none_left = quiet a.table.now a.board a.furnace a.places.now c.power-sets.result c.power-sets.ensures c.in-None.ensures in
    let is = the_set a.table.now a.board a.furnace a.places.now c.unwrap_or.ensures c.search-found.ensures in
    ended a.table.now a.board a.furnace a.places.now none_left is
