-- The sets that are listed lie within the places lent for them.
use Rattle.meaning.proofs.Kit.{sym, length-take-le}
use Rattle.answers.proofs.Within.{sets_within}
use Rattle.answers.proofs.choosing.list_sets.Goals as goal

pub slice_bounds-sets-end : goal.slice_bounds-sets-end
slice_bounds-sets-end g c = sets_within _ _ _ _ _ c.smallest-listing.ensures.value c.smallest-listing.ensures.sets_after

pub slice_bounds-say_sets-end : goal.slice_bounds-say_sets-end
slice_bounds-say_sets-end g c = sym (length-take-le _ _ (sets_within _ _ _ _ _ c.smallest-listing.ensures.value c.smallest-listing.ensures.sets_after))
