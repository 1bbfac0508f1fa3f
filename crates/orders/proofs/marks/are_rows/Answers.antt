-- Each round tests one word more.
use Rattle.std.proofs.Common.{◌≡◌, ◌∙◌, ◌<◌, ◌+◌, ◌-◌, ◌&&◌, Bool, ℕ, List, sym, ap, add-one, arith}
use Rattle.orders.specs.Words.{word_at}
use Rattle.orders.specs.Marks.{are_marks, are_rows}
use Rattle.orders.proofs.Rows.{rows_none, rows_step, rows_over}
use Rattle.orders.proofs.marks.are_rows.Goals as goal

-- what is told of a word, and so of the words from it on
step : (line given : List ℕ) (from rows count k : ℕ) (b : Bool) → k < rows
    → are_rows line from rows count ≡ are_rows line (from + k) (rows - k) count
    → given ≡ word_at (from + k) line → b ≡ are_marks count given
    → are_rows line from rows count ≡ (b && are_rows line (from + (k + 1)) (rows - (k + 1)) count)
step line given from rows count k b h left is told =
    left
    ∙ rows_step line from rows k (k + 1) (add-one k) (omega arith) count
    ∙ ap (λ (t : Bool). t && are_rows line (from + (k + 1)) (rows - (k + 1)) count) (sym (told ∙ ap (are_marks count) is))

pub loop-k-init : goal.loop-k-init
loop-k-init c = let a = c.args in rows_none a.line.now a.from a.rows a.count

pub returns-then-not-are_marks : goal.returns-then-not-are_marks
returns-then-not-are_marks c =
    let a = c.args in
    let told = step a.line.now c.word.result.now a.from a.rows a.count c.loop-k.k c.are_marks.result c.loop-k-test.true c.loop-k.invariant c.word.ensures c.are_marks.ensures in
    sym (told ∙ rw c.if-not-are_marks.true)

pub loop-k-preserved : goal.loop-k-preserved
loop-k-preserved c =
    let a = c.args in
    let told = step a.line.now c.word.result.now a.from a.rows a.count c.loop-k.k c.are_marks.result c.loop-k-test.true c.loop-k.invariant c.word.ensures c.are_marks.ensures in
    told ∙ rw c.if-not-are_marks.false

pub returns : goal.returns
returns c =
    let a = c.args in
    sym (c.loop-k.invariant ∙ rows_over a.line.now (a.from + c.loop-k.k) a.rows c.loop-k.k a.count c.loop-k-test.false)
