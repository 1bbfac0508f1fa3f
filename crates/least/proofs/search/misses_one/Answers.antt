-- Whether one of the cores has no candidate of the set is what `any` answers.
use Rattle.std.proofs.Common.{rules, ◌∙◌, Bool, ℕ, eqb}
use borrow.Author.Tests.{tests}
use lib.Bits.{bit_and}
use Rattle.std.proofs.lemmas.Iterator.{YieldsList-from_slice}
use Rattle.std.proofs.lemmas.Iterator.Search.{any_from_yields_List}
use Rattle.candidates.proofs.Along.{list_any_is}
use Rattle.least.proofs.search.misses_one.Goals as goal

pub returns : goal.returns
returns c =
    let test : ℕ → Bool = λ core. eqb (bit_and core c.args.set) 0 in
    let cores = c.args.cores.now in
    any_from_yields_List test _ _ _ c.any.ensures.ran (YieldsList-from_slice cores cc) (λ x b q k. search (rules, tests)) ∙ list_any_is test cores
