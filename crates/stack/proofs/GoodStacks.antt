-- What a good stack is known to be, and that on good stacks each furnace's is one.
use Rattle.meaning.proofs.Kit.{◌≡◌, ⊎_elim, inl, inr, ◌⊎◌, true, false, Bool, ◌&&◌, List, ◌≤◌, ℕ, ◌<◌, ◌-◌, ◌*◌, arith, pos, length}
use Rattle.meaning.proofs.Kit.{list_get_or_eq_default, length-take-le, get_or-take, not-true, le-leb, eqb-true, leb-true}
use Rattle.meaning.specs.Tests.{all}
use Rattle.meaning.specs.Literals.{has}
use Rattle.meaning.proofs.Tests.{both_true, and_intro, not_intro, in_at, all_at, one_true_lem}
use Rattle.meaning.proofs.Tables.{le_or_lt}
use Rattle.literals.specs.Literal.{in_range, place_of}
use Rattle.literals.proofs.Arguments.{place_fits}
use Rattle.candidates.specs.Given.{places_of, repeats}
use Rattle.board.specs.Furnaces.{is_furnace, held_by}
use Rattle.board.specs.declared.Board.{Board}
use Rattle.stack.specs.Stacking.{on_stack, top, stack_of, good_stack, good_stacks}
use Rattle.stack.specs.declared.Stack.{Stack}
use Rattle.stack.specs.declared.Stacks.{Stacks}

pub record GoodStack (S : ℕ) (held : List Bool) (s : Stack) : Type 0 where
  pub few : s.count ≤ 2 * S
  pub apart : repeats (places_of (on_stack s)) ≡ false
  pub held_each : all (λ l. in_range S l && has held (place_of l)) (on_stack s) ≡ true

module _ (S : ℕ) (held : List Bool) (s : Stack) where
  pub stack_is : good_stack S held s ≡ true → GoodStack S held s
  unfolding good_stack
  stack_is e =
      let rest = both_true _ _ e in
      let count = both_true _ _ rest.0 in
      record { few = leb-true s.count (2 * S) count.0; apart = not-true _ count.1; held_each = rest.1 }

  pub stack_good : GoodStack S held s → good_stack S held s ≡ true
  unfolding good_stack
  stack_good g = and_intro _ _ (and_intro _ _ (le-leb s.count (2 * S) g.few) (not_intro _ g.apart)) g.held_each

-- the literal on top is one of them
pub top_held : (S : ℕ) (held : List Bool) (s : Stack) → GoodStack S held s → 1 ≤ s.count → s.count ≤ length s.literals
    → (in_range S (top s) ≡ true) × (has held (place_of (top s)) ≡ true)
top_held S held s g some fits =
    let last = s.count - 1 in
    let is = get_or-take s.count s.literals last (pos 0) (omega arith) in
    let on = in_at (on_stack s) last (pos 0) (omega (arith, length-take-le s.count s.literals fits)) in
    both_true (in_range S (top s)) (has held (place_of (top s)))
    (rw is at (all_at _ g.held_each on))

-- ---- whose stack is whose

pub which : (furnace : ℕ) → is_furnace furnace ≡ true → (furnace ≡ 1) ⊎ (furnace ≡ 2)
unfolding is_furnace
which furnace f = ⊎_elim (λ e. inl (eqb-true furnace 1 e)) (λ e. inr (eqb-true furnace 2 e)) (one_true_lem _ _ f)

-- what is so of both furnaces' premises and stacks is so of each furnace's
pub of_furnace : (P : List Bool → Stack → Type 0) (b : Board) (s : Stacks) (furnace : ℕ) → P b.first s.first → P b.second s.second
    → is_furnace furnace ≡ true → P (held_by b furnace) (stack_of s furnace)
unfolding held_by
of_furnace P b s furnace one two f = ⊎_elim (λ e. rw e one) (λ e. rw e two) (which furnace f)

pub stack_of_good : (b : Board) (s : Stacks) (furnace : ℕ) → good_stacks b s ≡ true → is_furnace furnace ≡ true
    → good_stack b.symbols (held_by b furnace) (stack_of s furnace) ≡ true
unfolding good_stacks
stack_of_good b s furnace e =
    let both = both_true _ _ e in
    of_furnace (λ held t. good_stack b.symbols held t ≡ true) b s furnace both.0 both.1

-- the place of its top is one of the board's; were there no such place in the record, it would be that of 0, which is the first
pub top_low : (S : ℕ) (held : List Bool) (s : Stack) → good_stack S held s ≡ true → 1 ≤ S → 1 ≤ s.count → place_of (top s) < 2 * S
unfolding place_of
top_low S held s e low some =
    ⊎_elim
    (λ fits. place_fits S (top s) (top_held S held s (stack_is S held s e) some fits).0)
    (λ short. rw (list_get_or_eq_default s.literals (pos 0) {n = s.count - 1} (omega arith)) (omega arith))
    (le_or_lt s.count (length s.literals))
