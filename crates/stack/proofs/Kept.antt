-- Both furnaces' premises and stacks as the calls leave them.
use Rattle.meaning.proofs.Kit.{◌≡◌, ◌∙◌, sym, refl, ⊎_elim, ◌≢◌, true, false, Bool, cond, List, ℕ, arith, eqb, ℤ, set, ne_eqb, eqb-true}
use Rattle.meaning.specs.Tests.{member}
use Rattle.meaning.proofs.Tests.{both_true, and_intro}
use Rattle.literals.specs.Literal.{place_of}
use Rattle.candidates.specs.Given.{places_of}
use Rattle.board.specs.Furnaces.{is_furnace, held_by, with_held}
use Rattle.board.specs.Changes.{empty_board, with_flag}
use Rattle.board.specs.declared.Board.{Board}
use Rattle.stack.specs.Stacking.{on_stack, empty_stack, empty_stacks, stack_of, with_stack, stacked, good_stack, good_stacks}
use Rattle.stack.specs.declared.Stack.{Stack}
use Rattle.stack.specs.declared.Stacks.{Stacks}
use Rattle.stack.proofs.GoodStacks.{stack_good, which, of_furnace}
use Rattle.stack.proofs.Own.{Own, own_empty, good_less}

pub record Kept (b : Board) (s : Stacks) : Type 0 where
  pub first : Own b.symbols b.first s.first
  pub second : Own b.symbols b.second s.second

pub kept_empty : (S : ℕ) → Kept (empty_board S) empty_stacks
kept_empty S = record { first = own_empty S; second = own_empty S }

-- the one or the other
own_if : {S : ℕ} {h held : List Bool} {t s : Stack} (is : Bool) → Own S h t → Own S held s → Own S (cond is h held) (cond is t s)
own_if true new old = new
own_if false new old = old

module _ {b : Board} {s : Stacks} (k : Kept b s) where
  pub kept_good : good_stacks b s ≡ true
  unfolding good_stacks
  kept_good = and_intro _ _ k.first.good k.second.good

  -- a furnace's own,
  pub own_of : (furnace : ℕ) → is_furnace furnace ≡ true → Own b.symbols (held_by b furnace) (stack_of s furnace)
  own_of furnace = of_furnace (Own b.symbols) b s furnace k.first k.second

  -- and another for a furnace
  pub with_own : (furnace : ℕ) {held : List Bool} {t : Stack} → Own b.symbols held t → Kept (with_held b furnace held) (with_stack s furnace t)
  unfolding with_held
  with_own furnace o = record { first = own_if (eqb furnace 1) o k.first; second = own_if (eqb furnace 2) o k.second }

-- ---- whose stack is whose

module _ (s : Stacks) (furnace : ℕ) where
  -- with its own stack for a furnace the record is as it was
  pub with_same : with_stack s furnace (stack_of s furnace) ≡ s
  with_same = go (eqb furnace 1) (eqb furnace 2) refl refl
    where
      go : (one two : Bool) → eqb furnace 1 ≡ one → eqb furnace 2 ≡ two → with_stack s furnace (stack_of s furnace) ≡ s
      go true two a c = rw (eqb-true furnace 1 a)
      go false true a c = rw (a, c)
      go false false a c = rw (a, c)

  pub stack_own : (t : Stack) → is_furnace furnace ≡ true → stack_of (with_stack s furnace t) furnace ≡ t
  stack_own t f = ⊎_elim (λ e. rw e) (λ e. rw e) (which furnace f)

  pub stack_other : (t : Stack) (other : ℕ) → furnace ≢ other → stack_of (with_stack s furnace t) other ≡ stack_of s other
  stack_other t other apart = go (eqb other 1) (eqb other 2) refl refl
    where
      go : (one two : Bool) → eqb other 1 ≡ one → eqb other 2 ≡ two → stack_of (with_stack s furnace t) other ≡ stack_of s other
      go true two a c = rw (a, ne_eqb furnace 1 (λ e. apart (e ∙ sym (eqb-true other 1 a))))
      go false true a c = rw (a, c, ne_eqb furnace 2 (λ e. apart (e ∙ sym (eqb-true other 2 c))))
      go false false a c = rw (a, c)

-- ---- a premise withdrawn that is not stacked

pub stacks_less : (b : Board) (s : Stacks) (furnace : ℕ) (l : ℤ) → good_stacks b s ≡ true → stacked s furnace l ≡ false
    → good_stacks (with_flag b furnace l false) s ≡ true
unfolding good_stacks stacked held_by with_held
stacks_less b s furnace l e apart =
    let both = both_true _ _ e in
    and_intro _ _
    (spared (eqb furnace 1) b.first s.first (λ is. rw (eqb-true furnace 1 is) (refl, rw (eqb-true furnace 1 is) at apart)) both.0)
    (spared (eqb furnace 2) b.second s.second (λ is. rw (eqb-true furnace 2 is) (refl, rw (eqb-true furnace 2 is) at apart)) both.1)
  where
    spared : (is : Bool) (held : List Bool) (t : Stack)
        → (is ≡ true → (held_by b furnace ≡ held) × (member (place_of l) (places_of (on_stack t)) ≡ false)) → good_stack b.symbols held t ≡ true
        → good_stack b.symbols (cond is (set (held_by b furnace) (place_of l) false) held) t ≡ true
    spared true held t own g = rw (own refl).0 (good_less b.symbols held t g (place_of l) (own refl).1)
    spared false held t own g = g

-- ---- a record with nothing stacked

module _ (s : Stacks) (first : s.first.count ≡ 0) (second : s.second.count ≡ 0) where
  nothing_good : (S : ℕ) (held : List Bool) (t : Stack) → t.count ≡ 0 → good_stack S held t ≡ true
  nothing_good S held t none = stack_good S held t (record { few = omega arith; apart = rw none refl; held_each = rw none refl })

  pub empty_good : (b : Board) → good_stacks b s ≡ true
  unfolding good_stacks
  empty_good b = and_intro _ _ (nothing_good b.symbols b.first s.first first) (nothing_good b.symbols b.second s.second second)

  pub empty_unstacked : (furnace : ℕ) (l : ℤ) → stacked s furnace l ≡ false
  unfolding stacked
  empty_unstacked furnace l = go (eqb furnace 1) (eqb furnace 2)
    where
      go : (one two : Bool) → member (place_of l) (places_of (on_stack (cond one s.first (cond two s.second empty_stack)))) ≡ false
      go true two = rw first refl
      go false true = rw second refl
      go false false = refl
