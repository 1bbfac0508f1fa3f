-- `reading::read` meets its contract: the board first, then the header, then the clauses behind it.
use Rattle.meaning.proofs.Kit.{◌∙◌, sym, ap}
use Rattle.dimacs.specs.Words.{ends}
use Rattle.dimacs.specs.Form.{header_in}
use Rattle.dimacs.proofs.Scanning.{place_after}
use Rattle.dimacs.proofs.Heading.{line_is}
use Rattle.dimacs.proofs.Answers.{parsed_by, read_broken, read_spoilt}
use Rattle.dimacs.proofs.reading.read.Goals as goal

pub returns-then-not-good : goal.returns-then-not-good
returns-then-not-good c =
    let a = c.args in
    let all = read_spoilt a.table.now a.board a.text.now (sym c.good.ensures ∙ c.if-not-good.true) in
    record { value = c.refused.ensures ∙ all.0; table_after = all.1 }

pub slice_bounds-header_in-count : goal.slice_bounds-header_in-count
slice_bounds-header_in-count c = place_after ends c.header_place-start.result c.line_end-end.ensures c.header_place-start.ensures.within

pub slice_bounds-header_in-start : goal.slice_bounds-header_in-start
slice_bounds-header_in-start c = place_after ends c.header_place-start.result c.line_end-end.ensures c.header_place-start.ensures.within

pub add_clauses-requires-clause-text_value : goal.add_clauses-requires-clause-text_value
add_clauses-requires-clause-text_value c =
    let text = c.args.text.now in
    let p = c.header_place-start.ensures in
    let q = c.line_end-end.ensures in
    parsed_by text p q (sym (c.header_in.ensures ∙ ap header_in (line_is text p q)) ∙ c.in-Some.is)

pub returns-in-None : goal.returns-in-None
returns-in-None c =
    let a = c.args in
    let text = a.text.now in
    let p = c.header_place-start.ensures in
    let q = c.line_end-end.ensures in
    let broken = parsed_by text p q (sym (c.header_in.ensures ∙ ap header_in (line_is text p q)) ∙ c.in-None.is) in
    let all = read_broken a.table.now a.board text (sym c.good.ensures ∙ c.if-not-good.false) broken in
    record { value = c.refused-in-None.ensures ∙ all.0; table_after = all.1 }
