-- `emitting::value` meets its contract: what the chain adds up is the number.
use Rattle.std.proofs.Common.{◌≡◌, ◌∙◌, ◌+◌, ◌*◌, ◌-◌, rules}
use Rattle.std.specs.List.{fold}
use Rattle.chains.proofs.Words.{number_byte}
use Rattle.chains.proofs.Stores.{capped_fold}
use Rattle.chains.proofs.emitting.value.Goals as goal

pub returns : goal.returns
returns c =
    let digits = c.args.digits.now in
    let folded : c.fold.result ≡ fold (λ n d. number_byte (n * 10 + (d - 48))) 0 digits = search rules in
    folded ∙ capped_fold digits 0
