-- `put_literals` meets its contract: its mark is a space.
use Rattle.spelling.proofs.Pieces.{marked_by_space}
use Rattle.spelling.proofs.put_literals.Goals as goal

pub returns-clause-put : goal.returns-clause-put
returns-clause-put c = rw (marked_by_space c.args.part.now) at c.put_marked.ensures.put
