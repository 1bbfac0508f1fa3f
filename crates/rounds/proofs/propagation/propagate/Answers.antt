-- Without rows only the premises have a rank, and nothing has a support.
use Rattle.meaning.proofs.Kit.{◌∙◌, arith, length}
use Rattle.literals.specs.Row.{rows_in}
use Rattle.literals.proofs.Scanning.{few_places}
use Rattle.findings.proofs.Final.{no_supports}
use Rattle.rounds.proofs.RankTables.{no_rows}
use Rattle.rounds.proofs.propagation.propagate.Goals as goal

pub returns-then-rows-eq0-clause-ranks_after : goal.returns-then-rows-eq0-clause-ranks_after
unfolding rows_in
returns-then-rows-eq0-clause-ranks_after c =
    rw c.if-rows-eq0.true
    (c.start_ranks.ensures ∙ no_rows (length c.args.ranks.now) c.args.held.now (omega (arith, few_places c.requires.fit)))

pub returns-then-rows-eq0-clause-supports_after : goal.returns-then-rows-eq0-clause-supports_after
unfolding rows_in
returns-then-rows-eq0-clause-supports_after c =
    rw c.if-rows-eq0.true
    (c.clear.ensures ∙ no_supports (length c.args.ranks.now) c.args.held.now (length c.args.supports.now) c.args.from)
