-- Word `n` begins at `at`.
use Rattle.dimacs.specs.Gathering.{Place}
use Rattle.orders.specs.Words.{rest_at}
use Rattle.orders.proofs.words.word_place.Given as goal

abbrev pub invariant-loop-n : goal.invariant-loop-n
invariant-loop-n l = Place l.line l.at (rest_at l.n l.line)
