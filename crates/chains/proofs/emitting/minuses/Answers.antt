-- `emitting::minuses` meets its contract: what the chain counts is the minus signs.
use Rattle.std.proofs.Common.{◌≡◌, ◌∙◌, eqb, rules}
use Rattle.std.specs.List.{count_by}
use Rattle.chains.proofs.Stores.{minus_count}
use Rattle.chains.proofs.emitting.minuses.Goals as goal

pub returns : goal.returns
returns c =
    let part = c.args.part.now in
    let counted : c.count.result ≡ count_by (λ b. eqb b 45) part = search rules in
    counted ∙ minus_count part
