-- A partner that may stand with position i is put, and another is passed.
use Rattle.std.proofs.Common.{◌∙◌, ◌+◌, sym, subst₂, arith}
use Rattle.positions.specs.Writing.{side_of}
use Rattle.positions.proofs.Partners.{Gathered, gathered_one, gathered_passed}
use Rattle.positions.proofs.rows.put_partners.Goals as goal
use Rattle.positions.proofs.rows.put_partners.Goals.{then-may, else-may}

pub loop-j-preserved : goal.loop-j-preserved
loop-j-preserved c =
    let a = c.args in
    let g = c.loop-j.invariant in
    elim c.if-may.branch [
      | then-may w ↦ subst₂ (λ row n. Gathered (side_of a.v) a.i a.at a.row.now row n (c.loop-j.j + 1)) (sym w.row-is) (sym w.n-is)
          (gathered_one _ _ _ _ _ _ _ g c.loop-j-test.true (sym c.may.ensures ∙ w.if-may.true) (omega arith))
      | else-may w ↦ subst₂ (λ row n. Gathered (side_of a.v) a.i a.at a.row.now row n (c.loop-j.j + 1)) (sym w.row-is) (sym w.n-is)
          (gathered_passed _ _ _ _ _ _ _ g c.loop-j-test.true (sym c.may.ensures ∙ w.if-may.false))
    ]
