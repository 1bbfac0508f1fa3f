-- `rows::append_clause` meets its contract: the places of a clause are those of literals.
use Rattle.meaning.proofs.Kit.{arith}
use Rattle.positions.proofs.SideRows.{clause_small}
use Rattle.positions.proofs.rows.append_clause.Goals as goal

pub append_row-requires-clause-count_in_bounds : goal.append_row-requires-clause-count_in_bounds
append_row-requires-clause-count_in_bounds c =
    let e = c.put_clause-count.ensures in
    (omega (arith, e.0, e.1), e.1, rw e.2 (clause_small c.args.v c.args.i c.requires.0 c.requires.1), c.requires.2)
