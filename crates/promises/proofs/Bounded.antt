-- 02, Ticket 7: no rank that a call tells is above 2S.
use Rattle.board.proofs.Settled.{ranks_bounded}
use Rattle.board.proofs.Explaining.{rank_told}
use Rattle.promises.specs.Calls.{front, answer, outcome}
use Rattle.promises.specs.Demands.{NoRankAbove}

pub no_rank_above : NoRankAbove
unfolding answer outcome
no_rank_above w lent furnace =
    record {
      settle = λ labels ranks supports e. ranks_bounded (front w lent) w.board furnace labels ranks supports e;
      explain = λ l e. rank_told (front w lent) w.board furnace l e;
    }
