-- The bytes of a name at the front end where the first other byte stands.
use Rattle.std.proofs.Common.{◌∙◌, ap, length, not, rules, tests}
use Rattle.std.specs.Option.{unwrap_or}
use Rattle.std.proofs.lemmas.Iterator.{YieldsList-from_slice}
use Rattle.std.proofs.lemmas.Iterator.Search.{position_from_yields_List}
use Rattle.names.specs.Names.{in_name}
use Rattle.names.proofs.Runs.{run_until}
use Rattle.names.proofs.naming.run.Goals as goal

pub returns : goal.returns
returns c =
    let text = c.args.text.now in
    let until = position_from_yields_List (λ b. not (in_name b)) _ _ c.position.result c.position.ensures.ran (YieldsList-from_slice text cc) (λ x b q k. search (rules, tests)) in
    c.unwrap_or.ensures ∙ ap (λ o. unwrap_or o (length text)) until ∙ run_until text
