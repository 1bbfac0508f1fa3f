-- The sets below `set` have their notes.
use Rattle.std.proofs.Common.{◌≡◌, ◌<◌, ◌*◌, ℕ, get_or}
use Rattle.literals.specs.Literal.{place_of}
use Rattle.board.specs.Ranking.{rows_on}
use Rattle.smallest.specs.declared.search.Note.TheVariants.{GoesOn}
use Rattle.smallest.specs.Search.{note_of}
use Rattle.smallest.proofs.search.note_sets.Given as goal

abbrev pub invariant-loop-set : goal.invariant-loop-set
invariant-loop-set l =
    (m : ℕ) → m < l.set → get_or l.notes m GoesOn ≡ note_of (2 * l.board.symbols) (rows_on l.table l.board) l.places (place_of l.l) m
