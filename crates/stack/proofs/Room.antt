-- Room never runs out: a stack has only premises of its furnace, each once, so where a literal of the board is not held it is not full.
use Rattle.meaning.proofs.Kit.{◌≡◌, ◌∙◌, refl, true, false, Bool, ◌&&◌, false≢true, true≢false, List, [], ◌∷◌, ◌≤◌, ℕ, ◌<◌, suc, ◌*◌, zero, arith, ℤ}
use Rattle.meaning.proofs.Kit.{length, set, length-take-le}
use Rattle.meaning.specs.Literals.{has}
use Rattle.meaning.proofs.Tests.{both_true, and_intro, not_intro}
use Rattle.literals.specs.Literal.{in_range, place_of}
use Rattle.literals.proofs.Arguments.{place_fits}
use Rattle.stack.specs.Stacking.{on_stack, good_stack}
use Rattle.stack.specs.Striking.{all_struck}
use Rattle.stack.specs.declared.Stack.{Stack}
use Rattle.stack.proofs.GoodStacks.{stack_is}
use Rattle.stack.proofs.Struck.{struck_is}

-- how many of the first n flags are set
abbrev trues : ℕ → List Bool → ℕ
trues zero held = 0
trues (suc n) [] = 0
trues (suc n) (true ∷ held) = suc (trues n held)
trues (suc n) (false ∷ held) = trues n held

trues_most : (n : ℕ) (held : List Bool) → trues n held ≤ n
trues_most zero held = omega arith
trues_most (suc n) [] = omega arith
trues_most (suc n) (true ∷ held) = omega (arith, trues_most n held)
trues_most (suc n) (false ∷ held) = omega (arith, trues_most n held)

-- one that is set, struck off
trues_less : (n : ℕ) (held : List Bool) (p : ℕ) → p < n → has held p ≡ true → trues n held ≡ suc (trues n (set held p false))
trues_less zero held p l e = absurd (omega arith)
trues_less (suc n) [] p l e = absurd (false≢true e)
trues_less (suc n) (true ∷ held) zero l e = refl
trues_less (suc n) (false ∷ held) zero l e = absurd (false≢true e)
trues_less (suc n) (true ∷ held) (suc p) l e = omega (arith, trues_less n held p (omega arith) e)
trues_less (suc n) (false ∷ held) (suc p) l e = trues_less n held p (omega arith) e

-- where one is not set, not all are
trues_short : (n : ℕ) (held : List Bool) (p : ℕ) → p < n → has held p ≡ false → trues n held < n
trues_short zero held p l e = absurd (omega arith)
trues_short (suc n) [] p l e = omega arith
trues_short (suc n) (true ∷ held) zero l e = absurd (true≢false e)
trues_short (suc n) (false ∷ held) zero l e = omega (arith, trues_most n held)
trues_short (suc n) (true ∷ held) (suc p) l e = omega (arith, trues_short n held p (omega arith) e)
trues_short (suc n) (false ∷ held) (suc p) l e = omega (arith, trues_short n held p (omega arith) e)

-- each literal strikes off a flag of its own
struck_few : (S : ℕ) (held : List Bool) (on : List ℤ) → all_struck S held on ≡ true → length on ≤ trues (2 * S) held
struck_few S held [] e = omega arith
struck_few S held (l ∷ on) e =
    let left = set held (place_of l) false in
    let all = both_true (in_range S l && has held (place_of l)) (all_struck S left on) e in
    let one = both_true (in_range S l) (has held (place_of l)) all.0 in
    omega (arith, trues_less (2 * S) held (place_of l) (place_fits S l one.0) one.1, struck_few S left on all.1)

pub room_left : (S : ℕ) (held : List Bool) (s : Stack) (l : ℤ) → good_stack S held s ≡ true → s.count ≤ length s.literals
    → in_range S l ≡ true → has held (place_of l) ≡ false → s.count < 2 * S
room_left S held s l good fits range free =
    let g = stack_is S held s good in
    let struck = struck_is S held (on_stack s) ∙ and_intro _ _ (not_intro _ g.apart) g.held_each in
    omega (
      arith,
      length-take-le s.count s.literals fits,
      struck_few S held (on_stack s) struck,
      trues_short (2 * S) held (place_of l) (place_fits S l range) free,
    )
