-- `lines::saying::put_rows` meets its contract: one piece after another.
use Rattle.spelling.proofs.Pieces.{put_put}
use Rattle.lines.proofs.saying.put_rows.Goals as goal

pub returns-clause-put : goal.returns-clause-put
returns-clause-put c = put_put _ _ c.put_named-mid.ensures.put c.put_named.ensures.put
