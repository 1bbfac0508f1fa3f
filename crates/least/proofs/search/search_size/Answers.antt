-- The sets of k candidates are tried from the lowest to the highest.
use Rattle.std.proofs.Common.{◌∙◌, sym, ap, refl, subst, inl, Bool, not, ◌≤◌, ℕ, ◌<◌, ◌-◌, ◌*◌, ◌^◌, arith, eqb, length, take}
use Rattle.meaning.proofs.Kit.{⊎_elim, pow_mono, eqb-true}
use Rattle.candidates.specs.Sets.{size}
use Rattle.least.specs.Least.{ends}
use Rattle.meaning.proofs.Tests.{both_true}
use Rattle.board.specs.Furnaces.{held_by}
use Rattle.board.specs.Ranking.{rows_on}
use Rattle.least.specs.Search.{misses_one, Searched}
use Rattle.least.proofs.Turns.{passed_over, size_begun, size_searched, searched_as, found_or_not}
use Rattle.least.proofs.search.search_size.Goals as goal
use Rattle.least.proofs.search.search_size.Goals.{then-worth_trying+else-is_some, else-worth_trying}

pub overflow_sub-last : goal.overflow_sub-last
overflow_sub-last c =
    let n = length c.args.places.now in
    let less : n - c.args.k ≤ n = omega arith in
    let fewer : 2 ^ (n - c.args.k) ≤ 2 ^ n = pow_mono less in
    omega (arith, c.power-2.ensures, c.power.ensures, fewer)

pub loop-set-init : goal.loop-set-init
loop-set-init c =
    let a = c.args in
    let n = length a.places.now in
    let test : ℕ → Bool = ends (2 * a.board.symbols) (rows_on a.table.now a.board) (held_by a.board a.furnace) a.places.now in (
      refl,
      subst (λ (j : ℕ). Searched test n a.k (j - 1) a.known a.cores.now) (sym c.power-first.ensures)
          (size_begun test n a.k a.known a.cores.now c.requires.searched),
    )

pub loop-set-preserved : goal.loop-set-preserved
loop-set-preserved c =
    let a = c.args in
    let l = c.loop-set in
    let n = length a.places.now in
    let test : ℕ → Bool = ends (2 * a.board.symbols) (rows_on a.table.now a.board) (held_by a.board a.furnace) a.places.now in
    elim c.if-worth_trying.branch [
      | then-worth_trying+else-is_some w ↦
          (let has_k = eqb-true (size n l.set) a.k
          (both_true (eqb (size n l.set) a.k) (not (misses_one (take l.kept l.cores) l.set)) (sym c.worth_trying.ensures ∙ w.if-worth_trying.true)).0 in (
            ap length w.cores-is ∙ w.try_set-tried.auto.cores ∙ l.invariant.0,
            searched_as has_k w.cores-is w.kept-is
                (⊎_elim (λ x. x.1) (λ x. found_or_not w.is_some.ensures x.0 w.if-is_some.false) w.try_set-tried.ensures),
          ))
      | else-worth_trying w ↦ (
        ap length w.cores-is ∙ l.invariant.0,
        searched_as refl w.cores-is w.kept-is
            (passed_over test n a.k l.set l.kept l.cores l.invariant.1 (sym c.worth_trying.ensures ∙ w.if-worth_trying.false)),
      )
    ]

pub returns : goal.returns
returns c =
    let a = c.args in
    let l = c.loop-set in
    let n = length a.places.now in
    let test : ℕ → Bool = ends (2 * a.board.symbols) (rows_on a.table.now a.board) (held_by a.board a.furnace) a.places.now in
    let past : 2 ^ n - 2 ^ (n - a.k) < l.set = omega (arith, c.loop-set-test.false, c.power.ensures, c.power-2.ensures) in
    inl (refl, size_searched test n a.k l.kept l.cores l.set past l.invariant.1)
