-- From the last word to the first; at most six words were read before.
use Rattle.std.proofs.Common.{◌≡◌, ◌∙◌, ◌<◌, ◌≤◌, ◌-◌, ◌+◌, ◌^◌, ℕ, suc, ap, arith, length}
use Rattle.orders.specs.Words.{word_at}
use Rattle.orders.specs.Marks.{marked_by}
use Rattle.orders.proofs.Marked.{none_below, few_below, grown_below}
use Rattle.orders.proofs.Rows.{marked_rows_none, marked_rows_step, row_size}
use Rattle.orders.proofs.marks.rows_marked.Goals as goal

small : (rows k value : ℕ) → rows ≤ 7 → 0 < k → value < 128 ^ (rows - k) → value < 128 ^ 6
small rows k value few one h = omega (arith, few_below 128 (rows - k) 6 (omega arith) (omega arith))

pub loop-k-init : goal.loop-k-init
loop-k-init c = let a = c.args in (marked_rows_none a.line.now a.from a.rows, none_below 128 a.rows)

pub overflow_mul-value : goal.overflow_mul-value
overflow_mul-value c = omega (arith, small c.args.rows c.loop-k.k c.loop-k.value c.requires.0 (omega arith) c.loop-k.invariant.1)

pub marked_by-requires : goal.marked_by-requires
marked_by-requires c =
    let a = c.args in
    let size = row_size a.line.now a.from a.rows a.count (c.loop-k.k - 1) c.requires.3 (omega arith) in
    omega (arith, ap length c.word.ensures, size, c.requires.1)

pub overflow_add-value : goal.overflow_add-value
overflow_add-value c =
    omega (arith, small c.args.rows c.loop-k.k c.loop-k.value c.requires.0 (omega arith) c.loop-k.invariant.1, c.marked_by.ensures.upper_bound)

pub loop-k-preserved : goal.loop-k-preserved
loop-k-preserved c =
    let a = c.args in
    let k = c.loop-k.k in
    let left : a.rows - (k - 1) ≡ suc (a.rows - k) = omega arith in
    let pairs : c.marked_by.result ≡ marked_by (word_at (a.from + (k - 1)) a.line.now) = c.marked_by.ensures.value ∙ ap marked_by c.word.ensures in (
      omega (arith, c.loop-k.invariant.0, pairs, marked_rows_step a.line.now a.from a.rows (k - 1) k (omega arith) (omega arith)),
      rw left (grown_below 128 (a.rows - k) c.loop-k.value c.marked_by.result c.loop-k.invariant.1 c.marked_by.ensures.upper_bound),
    )
