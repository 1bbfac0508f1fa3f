use Rattle.meaning.proofs.Kit.{◌≡◌, ◌∙◌, ◌-◌, suc, ◌*◌, arith}
use Rattle.literals.specs.Row.{width, numbers_at}
use Rattle.literals.proofs.Counting.{count_few}
use Rattle.index.proofs.Listing.{since_none, since_more, all_heads, all_links, all_counts}
use Rattle.index.proofs.fill.Goals as goal

pub loop-row-init : goal.loop-row-init
loop-row-init c = since_none c.requires.fit c.requires.heads_value

pub overflow_cast-counts : goal.overflow_cast-counts
unfolding numbers_at
overflow_cast-counts c = omega (arith, c.list_row.ensures.value, count_few c.args.table.now (width * (c.loop-row.row - 1)))

pub loop-row-preserved : goal.loop-row-preserved
loop-row-preserved c =
    let l = c.loop-row in
    let is : l.row ≡ suc (l.row - 1) = omega (arith, c.loop-row-test.true) in
    let before = rw is at l.invariant in
    since_more c.requires.fit (omega (arith, c.loop-row-test.true, l.auto.row)) before c.list_row.ensures.value c.list_row.ensures.listed
    (omega (arith, c.loop-row-test.true, l.auto.row, l.auto.counts, c.requires.links_len.1))

-- at row 0 all are
pub returns-clause-heads_after : goal.returns-clause-heads_after
returns-clause-heads_after c =
    let done : c.loop-row.row ≡ 0 = omega arith in
    all_heads c.requires.fit (rw done at c.loop-row.invariant) c.loop-row.auto.heads

pub returns-clause-links_after : goal.returns-clause-links_after
returns-clause-links_after c =
    let done : c.loop-row.row ≡ 0 = omega arith in
    all_links c.requires.fit (rw done at c.loop-row.invariant) (c.loop-row.auto.links ∙ c.requires.links_len.0)

pub returns-clause-counts_after : goal.returns-clause-counts_after
returns-clause-counts_after c =
    let done : c.loop-row.row ≡ 0 = omega arith in
    all_counts c.requires.fit (rw done at c.loop-row.invariant) (c.loop-row.auto.counts ∙ c.requires.links_len.1)
