-- `testing::overlap` meets its contract.
use Rattle.meaning.proofs.Kit.{sym, inl, arith}
use Rattle.positions.specs.Positions.{Variable}
use Rattle.positions.proofs.Sharing.{apart_share, sharing}
use Rattle.positions.proofs.testing.overlap.Goals as goal

pub returns-then-first-count : goal.returns-then-first-count
returns-then-first-count c =
    let one : Variable = record { first = c.args.first; count = c.args.count } in
    let two : Variable = record { first = c.args.other; count = c.args.others } in
    sym (apart_share one two (inl c.if-first-count.true))

pub returns : goal.returns
returns c =
    let one : Variable = record { first = c.args.first; count = c.args.count } in
    let two : Variable = record { first = c.args.other; count = c.args.others } in
    sharing one two c.requires.2 c.requires.3 (omega (arith, c.if-first-count.false))
