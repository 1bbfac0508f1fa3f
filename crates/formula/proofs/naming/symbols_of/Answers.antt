-- `naming::symbols_of` meets its contract: what is collected from the marks is what stands in the formula.
use Rattle.meaning.proofs.Kit.{◌∙◌, sym, ap}
use Rattle.formula.proofs.Words.{parse, levels, names_of}
use Rattle.formula.proofs.Listing.{names_told}
use Rattle.formula.proofs.Widening.{wide, wide_well}
use Rattle.formula.proofs.naming.symbols_of.Goals as goal

pub mark-requires : goal.mark-requires
mark-requires c = wide_well c.args.symbols c.requires.symbols_bound levels c.args.bytes.now c.requires.bytes_value

pub returns : goal.returns
returns c =
    let most = c.args.symbols in
    let bytes = c.args.bytes.now in
    let bound = c.requires.symbols_bound in
    let good = wide_well most bound levels bytes c.requires.bytes_value in
    c.collect.ensures
    ∙ names_told most bound (parse 255 levels bytes) good c.mark.new.marks c.mark.ensures.1
    ∙ ap (names_of most) (sym (wide most bound levels bytes c.requires.bytes_value))
