-- The listed sets are as many as the notes that say so.
use Rattle.std.proofs.Common.{◌≡◌, ◌∙◌, ap, refl, rules, Bool, length, get_or}
use borrow.Author.Tests.{tests}
use denote.Enum.Bare.{sameb}
use Rattle.std.proofs.lemmas.Iterator.{YieldsList-from_slice}
use Rattle.std.proofs.lemmas.Iterator.Consumers.{YieldsList-from_filter, count_from_yields_List}
use Rattle.meaning.specs.Tests.{from}
use Rattle.meaning.proofs.Tests.{keep_same}
use Rattle.smallest.specs.contracts.search.Note.{the_type}
use Rattle.smallest.specs.declared.search.Note.{Note}
use Rattle.smallest.specs.declared.search.Note.TheVariants.{GoesOn, Stops, Listed}
use Rattle.smallest.specs.Search.{lists, listed_in}
use Rattle.smallest.proofs.Turns.{counted_by, filter_is}
use Rattle.smallest.proofs.writing.count_listed.Goals as goal

by_note : (n : Note) → sameb the_type n Listed ≡ lists n
by_note GoesOn = refl
by_note Stops = refl
by_note Listed = refl

pub returns : goal.returns
returns c =
    let notes = c.args.notes.now in
    let test : Note → Bool = λ n. sameb the_type n Listed in
    count_from_yields_List _ _ c.count.ensures.ran
    (YieldsList-from_filter _ test (YieldsList-from_slice notes cc) c.filter.ensures.closure (λ x b q k. search (rules, tests)))
    ∙ ap length (filter_is test notes) ∙ counted_by test notes
    ∙ ap length (keep_same (λ i. test (get_or notes i GoesOn)) (listed_in notes) (from 0 (length notes)) (λ i m. by_note (get_or notes i GoesOn)))
