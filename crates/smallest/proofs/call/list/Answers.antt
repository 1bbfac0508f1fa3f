-- There is room for the notes of all sets of twelve candidates.
use Rattle.std.proofs.Common.{◌≡◌, ◌∙◌, sym, ◌≤◌, ℕ, ◌^◌, List, arith, length, take}
use Rattle.meaning.proofs.Kit.{pow_mono, replicate, length-replicate, length-take-le}
use Rattle.candidates.specs.Given.{most_candidates}
use Rattle.smallest.specs.declared.search.Note.{Note}
use Rattle.smallest.specs.declared.search.Note.TheVariants.{GoesOn}
use Rattle.smallest.proofs.call.list.Goals as goal

-- nothing is noted yet
abbrev blank : List Note
blank = replicate 4096 GoesOn

room : (all n : ℕ) → all ≡ 2 ^ n → n ≤ most_candidates → all ≤ 4096
room all n e few = let most : 2 ^ n ≤ 4096 = pow_mono few in omega arith

part : (all n : ℕ) → all ≡ 2 ^ n → n ≤ most_candidates → length (take all blank) ≡ all
part all n e few = length-take-le all blank (rw length-replicate (room all n e few))

pub slice_bounds-notes-end : goal.slice_bounds-notes-end
slice_bounds-notes-end c = room c.power-all.result (length c.args.places.now) c.power-all.ensures c.requires.places_len_bound.0

pub slice_bounds-list_noted-end : goal.slice_bounds-list_noted-end
slice_bounds-list_noted-end c = sym (part c.power-all.result (length c.args.places.now) c.power-all.ensures c.requires.places_len_bound.0)

pub list_noted-requires-clause-places_len_bound : goal.list_noted-requires-clause-places_len_bound
list_noted-requires-clause-places_len_bound c =
    let few = c.requires.places_len_bound.0 in
    (few, c.requires.places_len_bound.1, part c.power-all.result (length c.args.places.now) c.power-all.ensures few ∙ c.power-all.ensures)
