-- `gathering::take_in` meets its contract: there were too many symbols before, or the literal's place is put into the row.
use Rattle.meaning.proofs.Kit.{◌≡◌, ◌∙◌, false, ltb, ◌||◌, true, Bool}
use Rattle.dimacs.proofs.Collecting.{steps_many, steps_sown}
use Rattle.dimacs.proofs.gathering.take_in.Goals.{then-k, else-k}
use Rattle.dimacs.proofs.gathering.take_in.Goals as goal

left_or : {a : Bool} (b : Bool) → a ≡ true → a ≡ (a || b)
left_or b e = rw e

right_or : {a : Bool} (b : Bool) → a ≡ false → b ≡ (a || b)
right_or b e = rw e

pub returns-then-k-2 : goal.returns-then-k-2
returns-then-k-2 c =
    let a = c.args in
    let far : c.if-k.beyond ≡ (a.k.beyond || ltb a.symbols a.symbol) = elim c.if-k.branch [
      | then-k w ↦ w.beyond-is ∙ left_or (ltb a.symbols a.symbol) w.if-k.true
      | else-k w ↦ w.beyond-is ∙ right_or (ltb a.symbols a.symbol) w.if-k.false
    ] in
    steps_many a.symbols a.k c.requires.0 far c.requires.2 c.if-k-2.true

pub returns-then-k-3 : goal.returns-then-k-3
returns-then-k-3 c =
    let a = c.args in
    let far : c.if-k.beyond ≡ (a.k.beyond || ltb a.symbols a.symbol) = elim c.if-k.branch [
      | then-k w ↦ w.beyond-is ∙ left_or (ltb a.symbols a.symbol) w.if-k.true
      | else-k w ↦ w.beyond-is ∙ right_or (ltb a.symbols a.symbol) w.if-k.false
    ] in
    steps_sown a.symbols a.k c.requires.0 far c.requires.3 c.if-k-2.false c.requires.2 c.place_of.ensures c.insert-s.ensures
    (left_or c.insert-s.result.clash c.if-k-3.true)

pub returns-else-k-3 : goal.returns-else-k-3
returns-else-k-3 c =
    let a = c.args in
    let far : c.if-k.beyond ≡ (a.k.beyond || ltb a.symbols a.symbol) = elim c.if-k.branch [
      | then-k w ↦ w.beyond-is ∙ left_or (ltb a.symbols a.symbol) w.if-k.true
      | else-k w ↦ w.beyond-is ∙ right_or (ltb a.symbols a.symbol) w.if-k.false
    ] in
    steps_sown a.symbols a.k c.requires.0 far c.requires.3 c.if-k-2.false c.requires.2 c.place_of.ensures c.insert-s.ensures
    (right_or c.insert-s.result.clash c.if-k-3.false)
