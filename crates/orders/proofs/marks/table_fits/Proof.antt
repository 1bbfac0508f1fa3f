-- `marks::table_fits` meets its contract: each test settles a case of it.
use Rattle.meaning.proofs.Kit.{◌≡◌, ◌∙◌, sym, true, ◌≤◌, arith, not-false, not-true}
use Rattle.orders.specs.Marks.{has_count}
use Rattle.orders.specs.Marks.{table_fits}
use Rattle.orders.proofs.Rows.{count_few}
use Rattle.orders.proofs.marks.table_fits.Statement.{statement}
use Rattle.orders.proofs.marks.table_fits.Tie as tie

returns : tie.Need-returns-then-not-has_count
unfolding table_fits
returns c = rw (sym c.has_count.ensures ∙ not-true _ c.if-not-has_count.true-raw)

-- the first valve has a right number of positions
rows_right : (c : tie.Else-not-has_count) → has_count c.args.rows ≡ true
rows_right c = sym c.has_count.ensures ∙ not-false _ c.if-not-has_count.false-raw

returns_2 : tie.Need-returns-then-not-has_count-2
unfolding table_fits
returns_2 c = rw (rows_right c.before.before, sym c.has_count-2.ensures ∙ not-true _ c.if-not-has_count-2.true-raw)

-- and the second
count_right : (c : tie.Else-not-has_count-2) → has_count c.args.count ≡ true
count_right c = sym c.has_count-2.ensures ∙ not-false _ c.if-not-has_count-2.false-raw

few : (c : tie.Else-not-has_count) → c.args.rows ≤ 7
few c = count_few c.args.rows (rows_right c)

returns_3 : tie.Need-returns-then-not-ends_at
unfolding table_fits
returns_3 c =
    rw (rows_right c.before.before.before.before, count_right c.before.before, sym c.ends_at.ensures ∙ not-true _ c.if-not-ends_at.true-raw)

returns_4 : tie.Need-returns
unfolding table_fits
returns_4 c =
    c.are_rows.ensures ∙ rw (rows_right c.before.before.before.before.before, count_right c.before.before.before, sym c.ends_at.ensures ∙ not-false _ c.if-not-ends_at.false-raw)

pub table_fits_spec : {M : Type 1} → statement M
table_fits_spec = tie.close (tie.spec
    (λ c κs. tt) returns (λ c κs. tt) returns_2 (λ c. omega (arith, few c.before.before)) (λ c κs. tt) returns_3
    (λ c κs. (few c.before.before.before.before, omega arith)) returns_4)
