-- `lines::saying::put_reason` meets its contract: one piece after another.
use Rattle.spelling.proofs.Pieces.{put_put}
use Rattle.lines.proofs.saying.put_reason.Goals as goal

pub returns-clause-put : goal.returns-clause-put
returns-clause-put c =
    let named = put_put _ _ c.put_named-a.ensures.put c.put_named-b.ensures.put in
    put_put _ _ (put_put _ _ named c.put_word-c.ensures) c.put_literals.ensures.put
