-- `answering::answer` is safe: a text that breaks the form does so within the line or at its end.
use Rattle.meaning.proofs.Kit.{◌∙◌, sym, arith}
use Rattle.chains.proofs.Words.{whole_text}
use Rattle.formula.proofs.Parsing.{answer_bad}
use Rattle.chains.proofs.Offences.{first_offence}
use Rattle.spell.proofs.answering.answer.Goals as goal

pub answer_broken-requires : goal.answer_broken-requires
answer_broken-requires g c =
    let read = answer_bad (whole_text c.args.line.now) (sym c.read_text.ensures ∙ c.in-Err.is) in
    ((first_offence c.args.line.now _ _ read).1.within, omega (arith, c.requires))
