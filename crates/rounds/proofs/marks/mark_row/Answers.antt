use Rattle.literals.proofs.Scanning.{row_in}
use Rattle.rounds.proofs.OpenLiterals.{gives_all, gives_one, gives_nothing, one_in}
use Rattle.rounds.proofs.Marking.{mark_as, mark_never}
use Rattle.rounds.proofs.marks.mark_row.Goals as goal

pub mark_place-requires-clause-p_in_bounds : goal.mark_place-requires-clause-p_in_bounds
mark_place-requires-clause-p_in_bounds c = row_in _ _ _ c.requires.fit (one_in _ _ _ c.in-One.ensures)

pub returns-in-Nothing-clause-ranks_after : goal.returns-in-Nothing-clause-ranks_after
returns-in-Nothing-clause-ranks_after c = mark_as _ _ _ _ c.mark_all.ensures.ranks_after (gives_all _ _ c.in-Nothing.ensures)

pub returns-in-One-clause-ranks_after : goal.returns-in-One-clause-ranks_after
returns-in-One-clause-ranks_after c = mark_as _ _ _ _ c.mark_place.ensures.ranks_after (gives_one _ _ _ c.in-One.ensures)

pub returns-in-More-clause-ranks_after : goal.returns-in-More-clause-ranks_after
returns-in-More-clause-ranks_after c = mark_never _ _ _ (gives_nothing _ _ c.in-More.ensures)
