-- `one_row::append_row` meets its contract: the eight places, and then the rule's number.
use Rattle.meaning.proofs.Kit.{◌≡◌, arith, pos, take, w16, to_z, to_z_pos}
use Rattle.implicates.proofs.Appending.{appended_one}
use Rattle.implicates.proofs.one_row.append_row.Goals as goal

pub returns : goal.returns
returns c =
    let a = c.args in
    let number : to_z w16 a.rule ≡ pos a.rule = to_z_pos w16 (omega (arith, c.requires.count_in_bounds.3)) in
    rw (c.write_row.ensures, number) (appended_one a.table.now a.row a.rule (take a.count a.places.now) c.requires.row_in_bounds)
