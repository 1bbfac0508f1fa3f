-- `rows::put_clause` meets its contract: the position's own literal goes first where its variable does, and else last.
use Rattle.meaning.proofs.Kit.{arith}
use Rattle.positions.specs.Writing.{side_of}
use Rattle.positions.proofs.Partners.{own_first}
use Rattle.positions.proofs.rows.put_clause.Goals as goal

pub returns-then-v : goal.returns-then-v
returns-then-v c =
    let a = c.args in
    let e = c.put_partners.ensures in (
      e.0,
      omega (arith, e.1, c.requires.0.few.1),
      own_first (side_of a.v) a.i a.row.now c.if-v.true c.requires.2 c.put_partners.new.row c.put_partners.result e.2,
    )
