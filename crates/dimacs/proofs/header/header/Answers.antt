-- `header::header` meets its contract: the header's line ends behind its start.
use Rattle.meaning.proofs.Kit.{◌∙◌, ap}
use Rattle.dimacs.specs.Words.{ends}
use Rattle.dimacs.specs.Form.{header_in}
use Rattle.dimacs.proofs.Scanning.{place_after}
use Rattle.dimacs.proofs.Heading.{line_is}
use Rattle.dimacs.proofs.header.header.Goals as goal

pub slice_bounds-header_in-count : goal.slice_bounds-header_in-count
slice_bounds-header_in-count c = place_after ends c.header_place-start.result c.line_end-end.ensures c.header_place-start.ensures.within

pub slice_bounds-header_in-start : goal.slice_bounds-header_in-start
slice_bounds-header_in-start c = place_after ends c.header_place-start.result c.line_end-end.ensures c.header_place-start.ensures.within

pub returns : goal.returns
returns c = c.header_in.ensures ∙ ap header_in (line_is c.args.text.now c.header_place-start.ensures c.line_end-end.ensures)
