use Rattle.findings.proofs.Givers.{support_from_held, support_from_none, support_from_row}
use Rattle.findings.proofs.supports.support.Goals as goal
use Rattle.findings.proofs.supports.support.Goals.{then-rank-eq0-via-then-rank-eq0, then-rank-eq0-via-else-rank-eq0+then-rank}

pub returns-then-rank-eq0 : goal.returns-then-rank-eq0
returns-then-rank-eq0 c =
    elim c.then-rank-eq0.branch [
      | then-rank-eq0-via-then-rank-eq0 w ↦ support_from_held _ _ _ w.if-rank-eq0.true
      | then-rank-eq0-via-else-rank-eq0+then-rank w ↦ support_from_none _ _ _ w.if-rank.true
    ]

pub returns : goal.returns
returns c = rw c.support_row.ensures (support_from_row _ _ _ c.if-rank-eq0.false c.if-rank.false)
