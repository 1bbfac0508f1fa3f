-- Each round writes one digit more, down to the first.
use Rattle.std.proofs.Common.{◌≡◌, ◌∙◌, ◌-◌, sym, ap, suc, arith}
use Rattle.names.proofs.Numerals.{filled, filled_more, filled_all}
use Rattle.names.proofs.replacing.fill_numeral.Goals as goal

pub loop-k-preserved : goal.loop-k-preserved
loop-k-preserved c =
    let l = c.loop-k in
    let one : l.k ≡ suc (l.k - 1) = omega arith in
    l.invariant ∙ ap (λ n. filled n l.rest l.part) one ∙ filled_more (l.k - 1) l.rest l.part (omega arith)

pub returns : goal.returns
returns c =
    let l = c.loop-k in
    let none : l.k ≡ 0 = omega arith in
    sym (l.invariant ∙ ap (λ n. filled n l.rest l.part) none ∙ filled_all l.rest l.part)
