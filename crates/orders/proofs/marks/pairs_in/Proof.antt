-- `marks::pairs_in` meets its contract: each test settles a case of it.
use Rattle.meaning.proofs.Kit.{◌≡◌, ◌∙◌, sym, true, ◌+◌, arith, not-false, not-true}
use Rattle.orders.specs.Words.{ends_at}
use Rattle.meaning.proofs.Tests.{both_true}
use Rattle.orders.specs.Marks.{has_count}
use Rattle.orders.specs.Marks.{pairs_in, table_fits}
use Rattle.orders.proofs.Rows.{count_few}
use Rattle.orders.proofs.marks.pairs_in.Statement.{statement}
use Rattle.orders.proofs.marks.pairs_in.Tie as tie

returns : tie.Need-returns-then-not-has_count
unfolding pairs_in
returns c = rw (sym c.has_count.ensures ∙ not-true _ c.if-not-has_count.true-raw)

-- the first valve has a right number of positions
rows_right : (c : tie.Else-not-has_count) → has_count c.args.rows ≡ true
rows_right c = sym c.has_count.ensures ∙ not-false _ c.if-not-has_count.false-raw

returns_2 : tie.Need-returns-then-not-has_count-2
unfolding pairs_in
returns_2 c = rw (rows_right c.before.before, sym c.has_count-2.ensures ∙ not-true _ c.if-not-has_count-2.true-raw)

-- and the second
count_right : (c : tie.Else-not-has_count-2) → has_count c.args.count ≡ true
count_right c = sym c.has_count-2.ensures ∙ not-false _ c.if-not-has_count-2.false-raw

rows_marked_requires : tie.Need-rows_marked-requires
unfolding table_fits
rows_marked_requires c κs =
    let rows = rows_right c.before.before in
    let a = c.args in
    let fit = both_true (ends_at (5 + a.rows) a.line.now) _ (rw (rows, count_right c) at c.requires) in
    (count_few a.rows rows, count_few a.count (count_right c), omega arith, fit.1)

returns_3 : tie.Need-returns
unfolding pairs_in
returns_3 c = c.rows_marked.ensures ∙ rw (rows_right c.before.before.before, count_right c.before)

pub pairs_in_spec : {M : Type 1} → statement M
pairs_in_spec = tie.close (tie.spec (λ c κs. tt) returns (λ c κs. tt) returns_2 rows_marked_requires returns_3)
