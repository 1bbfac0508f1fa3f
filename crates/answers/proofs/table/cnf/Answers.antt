-- The text lies within the bytes lent for it.
use Rattle.meaning.proofs.Kit.{sym, length-take-le}
use Rattle.answers.proofs.Within.{text_within}
use Rattle.answers.proofs.table.cnf.Goals as goal

pub slice_bounds-out-end : goal.slice_bounds-out-end
slice_bounds-out-end g c = text_within _ _ _ c.write-writing.ensures.value c.write-writing.ensures.out_after

pub slice_bounds-say-end : goal.slice_bounds-say-end
slice_bounds-say-end g c = sym (length-take-le _ _ (text_within _ _ _ c.write-writing.ensures.value c.write-writing.ensures.out_after))
