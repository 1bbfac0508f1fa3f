-- `answering::too_many_open` meets its contract, by what the reader answers.
use Rattle.meaning.proofs.Kit.{◌∙◌, sym, ap, ℕ, ltb}
use Rattle.chains.proofs.Words.{extent, Result, Break}
use Rattle.spell.proofs.answering.too_many_open.Goals as goal

pub returns-in-Ok : goal.returns-in-Ok
returns-in-Ok c = ap (λ (a : Result ℕ Break). ltb c.args.place (extent a)) (sym c.in-Ok.is ∙ c.chain.ensures)

pub returns-in-Err : goal.returns-in-Err
returns-in-Err c = ap (λ (a : Result ℕ Break). ltb c.args.place (extent a)) (sym c.in-Err.is ∙ c.chain.ensures)
