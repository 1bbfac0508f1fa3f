use Rattle.meaning.proofs.Kit.{◌∙◌, length, length-replicate, get_or-replicate, replicate}
use Rattle.meaning.specs.Tests.{none}
use Rattle.meaning.proofs.Tables.{tabulate_ext}
use Rattle.findings.proofs.supports.clear.Goals as goal

pub returns : goal.returns
returns c =
    let n = length c.args.supports.now in
    c.fill.ensures.after (λ y e. e)
    ∙ tabulate_ext 0 n (λ i. none) (replicate n none) (length-replicate n none) (λ i h. get_or-replicate n i none 0 h)
