-- From word to word.
use Rattle.orders.proofs.WordPlaces.{first_place, next_place}
use Rattle.orders.proofs.words.word_place.Goals as goal

pub loop-n-init : goal.loop-n-init
loop-n-init c = first_place c.next_word-at.ensures

pub loop-n-preserved : goal.loop-n-preserved
loop-n-preserved c = next_place c.loop-n.n c.loop-n.invariant c.word_end.ensures c.next_word-at-in-loop-n.ensures
