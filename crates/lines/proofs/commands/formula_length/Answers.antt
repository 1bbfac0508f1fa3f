-- `lines::commands::formula_length` meets its contract: by what reading answers.
use Rattle.meaning.proofs.Kit.{◌∙◌, sym}
use Rattle.formula.specs.Parse.{levels, parse}
use Rattle.lines.specs.Commands.{formula_length}
use Rattle.lines.proofs.Reading.{length_good, length_bad}
use Rattle.lines.proofs.commands.formula_length.Goals as goal

pub returns-in-Ok : goal.returns-in-Ok
unfolding formula_length
returns-in-Ok c = sym (length_good (parse c.args.symbols levels c.args.body.now) _ _ (sym c.read.ensures ∙ c.in-Ok.is))

pub returns-in-Err : goal.returns-in-Err
unfolding formula_length
returns-in-Err c = sym (length_bad (parse c.args.symbols levels c.args.body.now) _ (sym c.read.ensures ∙ c.in-Err.is))
