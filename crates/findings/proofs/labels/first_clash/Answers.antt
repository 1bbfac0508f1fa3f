use Rattle.meaning.proofs.Kit.{◌≡◌, ◌∙◌, ap, inl, inr, false, ◌/◌, arith, length, lt-ltb, le-ltb, below_more}
use Rattle.meaning.specs.Tests.{none}
use Rattle.findings.specs.Ranks.{clash_in, found}
use Rattle.findings.proofs.Clashes.{clash_yes, clash_no}
use Rattle.findings.proofs.Searching.{found_some, first_found, first_missing}
use Rattle.findings.proofs.labels.first_clash.Goals as goal
use Rattle.findings.proofs.labels.first_clash.Goals.{else-ranks-s-lt-NONE-via-then-ranks-s-lt-NONE+else-ranks-s-lt-NONE-2, else-ranks-s-lt-NONE-via-else-ranks-s-lt-NONE}

pub returns-then-ranks-s-lt-NONE-2 : goal.returns-then-ranks-s-lt-NONE-2
returns-then-ranks-s-lt-NONE-2 c =
    let both = clash_yes c.args.ranks.now c.loop-s.s (lt-ltb _ none c.if-ranks-s-lt-NONE.true) (lt-ltb _ none c.if-ranks-s-lt-NONE-2.true) in
    found_some (omega arith)
    ∙ ap found (first_found _ (length c.args.ranks.now / 2) (omega arith) c.loop-s.s (omega arith) c.loop-s.invariant both)

pub loop-s-preserved : goal.loop-s-preserved
loop-s-preserved c =
    let here : clash_in c.args.ranks.now c.loop-s.s ≡ false =
    clash_no c.args.ranks.now c.loop-s.s
    (elim c.else-ranks-s-lt-NONE.branch [
      | else-ranks-s-lt-NONE-via-then-ranks-s-lt-NONE+else-ranks-s-lt-NONE-2 w ↦ inr (le-ltb _ none w.if-ranks-s-lt-NONE-2.false)
      | else-ranks-s-lt-NONE-via-else-ranks-s-lt-NONE w ↦ inl (le-ltb _ none w.if-ranks-s-lt-NONE.false)
    ]) in
    below_more (λ i. clash_in c.args.ranks.now i ≡ false) c.loop-s.s c.loop-s.invariant here

pub returns : goal.returns
returns c = ap found (first_missing _ (length c.args.ranks.now / 2) (omega arith) (λ i h. c.loop-s.invariant i (omega arith)))
