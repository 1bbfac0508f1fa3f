-- `header::header_in` meets its contract.
use Rattle.meaning.proofs.Kit.{◌∙◌, sym, ap, List, ℕ}
use Rattle.dimacs.specs.Words.{words}
use Rattle.dimacs.specs.Form.{counts_in, header_in, header_start}
use Rattle.dimacs.proofs.Heading.{starts_prefix}
use Rattle.dimacs.proofs.header.header_in.Goals as goal

pub returns-in_err-strip_prefix : goal.returns-in_err-strip_prefix
unfolding header_in
returns-in_err-strip_prefix c =
    let none = sym (starts_prefix header_start c.args.line.now) ∙ c.in_err-strip_prefix.ensures.cases in
    rw none c.from_residual.ensures

pub returns : goal.returns
unfolding header_in
returns c =
    let cases = c.in_ok-strip_prefix.ensures.cases in
    let begun = sym (starts_prefix header_start c.args.line.now) ∙ cases.0 in
    rw begun (c.counts_in.ensures ∙ ap (λ (l : List ℕ). counts_in (words l)) cases.1)
