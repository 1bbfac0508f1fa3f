-- The count is tested by halves, and of a count beyond the places all of them are looked at.
use Rattle.meaning.proofs.Kit.{◌≡◌, ◌∙◌, sym, ap, ◌≤◌, ℕ, ℤ, List, ◌*◌, arith, length, take, take_all, rules, lt-leb}
use Rattle.stack.specs.Stacking.{good_stack}
use Rattle.stack.specs.Striking.{all_struck}
use Rattle.stack.proofs.Struck.{good_struck}
use Rattle.stack.proofs.testing.good_stack.Goals as goal
use Rattle.stack.proofs.testing.good_stack.Goals.{then-count-lt400, else-count-lt400}

whole : (places : List ℤ) → length places ≡ 400 → (n : ℕ) → 400 ≤ n → take n places ≡ places
whole places long n high = take_all n places (omega (arith, long, high))

pub returns-then-symbols-count : goal.returns-then-symbols-count
unfolding good_stack
returns-then-symbols-count c = rw (lt-leb c.args.stack.count (2 * c.args.symbols) (omega (arith, c.if-symbols-count.true)))

pub returns : goal.returns
returns c =
    let s = c.args.stack in
    let all = whole s.literals (search rules) in
    c.all_held.ensures
    ∙ ap (all_struck c.args.symbols c.args.held)
    (elim c.if-count-lt400.branch [
      | then-count-lt400 w ↦ ap (λ n. take n s.literals) w.on-is
      | else-count-lt400 w ↦ all c.if-count-lt400.on (omega (arith, w.on-is)) ∙ sym (all s.count w.if-count-lt400.false)
    ])
    ∙ sym (good_struck c.args.symbols c.args.held s (omega (arith, c.if-symbols-count.false)))
