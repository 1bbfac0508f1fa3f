-- `naming::one_of_eight` meets its contract.
use Rattle.meaning.proofs.Kit.{◌≡◌, ◌∙◌, false, Bool, ◌||◌, or-false, or_assoc, List, ◌≤◌, ℕ, ◌-◌, ◌+◌, suc, zero, add-zero, arith, length, get_or}
use Rattle.meaning.proofs.Kit.{drop, take, drop-cons}
use Rattle.std.proofs.Common.{rules, tests}
use Rattle.std.proofs.lemmas.Iterator.{YieldsList-from_slice}
use Rattle.std.proofs.lemmas.Iterator.Consumers.{fold_from_yields_List}
use Rattle.std.specs.List.{fold}
use Rattle.meaning.specs.Tests.{any, from}
use Rattle.formula.proofs.naming.one_of_eight.Goals as goal

-- the n marks from k on, after those that gave b
marked_from : (marks : List Bool) (first n k : ℕ) (b : Bool) → first + k + n ≤ length marks
    → fold (λ (b m : Bool). b || m) b (take n (drop (first + k) marks)) ≡ b || any (λ i. get_or marks (first + i) false) (from k n)
marked_from marks first zero k b h = rw (or-false b)
marked_from marks first (suc n) k b h =
    let next : suc (first + k) ≡ first + suc k = omega arith in
    rw (drop-cons marks (first + k) false (omega arith), next)
    (marked_from marks first n (suc k) (b || get_or marks (first + k) false) (omega arith) ∙ or_assoc b (get_or marks (first + k) false) _)

pub returns : goal.returns
returns c =
    let marks = c.args.marks.now in
    let first = c.args.first in
    let is : c.fold.result ≡ fold (λ (b m : Bool). b || m) false (take (first + 8 - first) (drop first marks)) =
    fold_from_yields_List _ (λ (b m : Bool). b || m) false c.fold.result c.fold.ensures.ran (YieldsList-from_slice _ c.iter.ensures.rest)
    (λ a x b q k. search (rules, tests)) in
    let eight : first + 8 - first ≡ 8 = omega arith in
    let long : first + 0 + 8 ≤ length marks = omega arith in
    is ∙ rw (eight, add-zero first) (rw (add-zero first) at (marked_from marks first 8 0 false long))
