-- The first byte that is a blank.
use Rattle.std.proofs.Common.{◌∙◌, ap, length, rules, tests}
use Rattle.std.specs.Option.{unwrap_or}
use Rattle.std.proofs.lemmas.Iterator.{YieldsList-from_slice}
use Rattle.std.proofs.lemmas.Iterator.Search.{position_from_yields_List}
use Rattle.formula.proofs.Parts.{onward}
use Rattle.orders.specs.Words.{is_blank}
use Rattle.orders.proofs.WordPlaces.{found_place}
use Rattle.orders.proofs.words.word_end.Goals as goal

pub returns : goal.returns
returns c =
    let line = c.args.line.now in
    let at = c.args.at in
    let found = position_from_yields_List is_blank _ _ c.position.result c.position.ensures.ran (YieldsList-from_slice (onward at line) cc)
    (λ x b q k. search (rules, tests)) in
    found_place is_blank line at c.unwrap_or.result c.requires (c.unwrap_or.ensures ∙ ap (λ o. unwrap_or o (length (onward at line))) found)
