-- The effect of withdrawing the set tells whether it is the one, or what the conflict that it leaves stands on.
use Rattle.std.proofs.Common.{◌∙◌, sym, ap, refl, subst, inl, inr, Bool, not, List, ℕ, suc, ◌*◌, arith, length, set, Some}
use Rattle.candidates.specs.Sets.{size}
use Rattle.least.specs.Least.{ends}
use Rattle.board.specs.Furnaces.{held_by}
use Rattle.board.specs.Ranking.{rows_on}
use Rattle.least.specs.Search.{Searched}
use Rattle.least.proofs.Answers.{sets_few, first_found}
use Rattle.least.proofs.Cores.{core_missed, ends_by, effect_ends, effect_leaves, core_few}
use Rattle.least.proofs.Turns.{core_found}
use Rattle.least.proofs.search.try_set.Goals as goal

pub keep-requires : goal.keep-requires
keep-requires c =
    let a = c.args in
    let left = effect_leaves a.table.now a.board a.furnace a.places.now a.set c.in-Some.ensures in
    (omega (arith, left.1, core_few a.table.now a.board a.furnace a.places.now a.set c.requires.places_len_bound.0), c.requires.searched.room)

pub returns-in-None : goal.returns-in-None
returns-in-None c =
    let a = c.args in
    let quiet = effect_ends a.table.now a.board a.furnace a.places.now a.set c.in-None.ensures in
    let e = ends_by a.table.now a.board a.furnace a.places.now a.set ∙ ap not quiet in
    let r = c.requires.places_len_bound in
    let is = first_found a.table.now a.board a.furnace a.places.now c.requires.searched r.2 e in
    inr (ap (λ (m : ℕ). Some m) is, omega (arith, is, r.2, sets_few (length a.places.now) r.0))

pub returns-in-Some : goal.returns-in-Some
returns-in-Some c =
    let a = c.args in
    let n = length a.places.now in
    let left = effect_leaves a.table.now a.board a.furnace a.places.now a.set c.in-Some.ensures in
    let e = ends_by a.table.now a.board a.furnace a.places.now a.set ∙ ap not left.0 in
    let missed = core_missed a.table.now a.board a.furnace a.places.now a.set c.requires.board_value.0 left.0 in
    let test : ℕ → Bool = ends (2 * a.board.symbols) (rows_on a.table.now a.board) (held_by a.board a.furnace) a.places.now in
    let core = c.in-Some.core in
    let more = core_found test n (size n a.set) a.set a.known a.cores.now c.requires.searched core e (λ x z. missed x (rw (← left.1) z)) in
    let so : ℕ → List ℕ → Type 0 = λ j cs. Searched test n (size n a.set) (suc a.set) j cs in
    inl (
      refl,
      subst (so c.keep.result) (sym c.keep.ensures.cores_after)
          (subst (λ (j : ℕ). so j (set a.cores.now a.known core)) (sym c.keep.ensures.value) more),
    )
