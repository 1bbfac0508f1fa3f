-- `lines::saying::refuse_at` meets its contract: the place stands after the number.
use Rattle.spelling.proofs.Pieces.{put_put}
use Rattle.lines.proofs.saying.refuse_at.Goals as goal

pub returns-clause-did : goal.returns-clause-did
returns-clause-did c =
    let told = c.refuse-told.ensures.did in
    record { board = told.board; used = told.used; stops = told.stops; put = put_put _ _ told.put c.put_place-written.ensures.put }
