-- The part's contents and address are the borrow checker's own, so each field is `refl`.
use Rattle.meaning.proofs.Kit.{◌≡◌, ◌∙◌, sym, ap, refl, ◌≤◌, ◌<◌, ◌+◌, ◌*◌, ℕ, ℤ, List, arith, length, to_z-of_z}
use Rattle.literals.specs.Row.{width, numbers_at}
use Rattle.std.specs.Prelude.{Ok}
use Rattle.board.specs.Asking.{explain_numbers}
use Rattle.board.specs.declared.Board.{Board}
use Rattle.board.specs.declared.asking.Reason.{Reason}
use Rattle.literals.proofs.Counting.{count_few}
use Rattle.board.proofs.Explaining.{nothing_shown, row_used, row_shown}
use Rattle.board.proofs.asking.explain.Goals as goal

-- the row that is told is in the table
inside : (table : List ℤ) (b : Board) (furnace : ℕ) (l : ℤ) {told : Reason} → told ≡ explain_numbers table b furnace l → told.outcome ≡ Ok tt
    → (told.row < 2048) × (width * told.row + width ≤ length table)
inside table b furnace l is done =
    let u = row_used table b furnace l (ap (λ (r : Reason). r.outcome) (sym is) ∙ done) in
    let row = ap (λ (r : Reason). r.row) is in
    (omega (arith, row, u.0, u.1), omega (arith, row, u.0, u.2))

pub literal_count-requires : goal.literal_count-requires
literal_count-requires c =
    let a = c.args in
    omega (arith, (inside a.table.now a.board a.furnace a.l (rw (to_z-of_z c.ranges.l) at c.explain_numbers-reason.ensures) c.in-Ok.is).1)

pub overflow_add-stop : goal.overflow_add-stop
overflow_add-stop c =
    let a = c.args in
    let few = count_few a.table.now (width * c.explain_numbers-reason.result.row) in
    omega (
      arith,
      c.literal_count.ensures,
      few,
      (inside a.table.now a.board a.furnace a.l (rw (to_z-of_z c.ranges.l) at c.explain_numbers-reason.ensures) c.in-Ok.is).0,
    )

pub slice_bounds-result-end-in-Ok : goal.slice_bounds-result-end-in-Ok
slice_bounds-result-end-in-Ok c =
    let a = c.args in
    let few = count_few a.table.now (width * c.explain_numbers-reason.result.row) in
    omega (
      arith,
      c.literal_count.ensures,
      few,
      (inside a.table.now a.board a.furnace a.l (rw (to_z-of_z c.ranges.l) at c.explain_numbers-reason.ensures) c.in-Ok.is).1,
    )

pub returns-in-Err : goal.returns-in-Err
returns-in-Err c =
    let is = rw (to_z-of_z c.ranges.l) at c.explain_numbers-reason.ensures in
    rw (nothing_shown _ _ _ _ (ap (λ (r : Reason). r.outcome) (sym is) ∙ c.in-Err.is))
    (record { holds = refl; block = refl; offset = refl })

pub returns-in-Ok : goal.returns-in-Ok
unfolding numbers_at
returns-in-Ok c =
    let is = rw (to_z-of_z c.ranges.l) at c.explain_numbers-reason.ensures in
    rw (row_shown _ _ _ _ (ap (λ (r : Reason). r.outcome) (sym is) ∙ c.in-Ok.is), ← is, ← c.literal_count.ensures)
    (record { holds = refl; block = refl; offset = refl })
