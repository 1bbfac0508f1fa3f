-- 02, Ticket 14: nested tries are taken back in their order. Even calls give back the premises and the stack of their furnace, and so do a push, even
-- calls and its pop.
use Rattle.meaning.proofs.Kit.{◌≡◌, ◌∙◌, sym, ap, refl, ap₂, true, false, Bool, ◌&&◌, List, ◌≤◌, ℕ, suc, zero, arith, ℤ, set, eqb-false}
use lib.Seq.{set-get_or, set-set}
use Rattle.meaning.specs.Literals.{has}
use Rattle.meaning.proofs.Tests.{clash}
use Rattle.literals.specs.Literal.{place_of}
use Rattle.board.specs.Furnaces.{held_by}
use Rattle.std.specs.Prelude.{Ok}
use Rattle.board.proofs.TwoSets.{held_own, held_other}
use Rattle.stack.specs.Stacking.{top, on_top, less_top, stack_of}
use Rattle.stack.specs.declared.Stack.{Stack}
use Rattle.stack.proofs.Own.{top_on_top, less_on_top}
use Rattle.stack.proofs.Kept.{own_of, stack_own, stack_other}
use Rattle.promises.specs.Calls.{Call, pushes, pops, World, outcome, after, run, not_open, changes_premises, names_furnace}
use Rattle.promises.specs.Demands.{premises_of, since, Even, over, begin, back, other, GivenBack, EvenGivesBack, TryGivesBack}
use Rattle.promises.proofs.Changes.{push_flagged, push_free, pop_flagged}
use Rattle.promises.proofs.Moves.{Moves, opening, unmoved, one_flag, more_rules, moves}
use Rattle.promises.proofs.Stacked.{Sound, sound_after, sound_all, kept_always}

-- ---- calls that are none of the furnace's tries

another : (f : ℕ) (w : World) {c : Call} → Moves w c → not_open c ≡ true → (outcome w c ≡ Ok tt → changes_premises c && names_furnace f c ≡ false)
    → GivenBack w (after w c) f
unfolding held_by
another f w (opening S) n out = clash n refl
another f w (unmoved same rules) n out = rw same (record { premises = refl; stack = refl })
another f w (one_flag {furnace = g} d x) n out =
    let y = x.done w d in
    let apart = eqb-false g f (rw (x.changing, x.naming f) at (out d)) in
    rw y.next_is (record { premises = held_other w.board g _ f apart; stack = stack_other w.stacks g _ f apart })
another f w (more_rules d x) n out = let a = x.done w d in rw (a.board, a.stacks) (record { premises = refl; stack = refl })

-- ---- its tries

-- a try that is begun, on top of what was before it: what it put can be taken
record Begun (Before : List Bool → Stack → ℤ → Type 0) (now : List Bool) (t : Stack) : Type 0 where
  held : List Bool
  stack : Stack
  l : ℤ
  before : Before held stack l
  free : has held (place_of l) ≡ false
  top_is : top (on_top stack l) ≡ l
  less_is : less_top (on_top stack l) ≡ stack
  held_now : now ≡ set held (place_of l) true
  stack_now : t ≡ on_top stack l

-- a furnace's premises and stack after so many of them, from those that it had before
abbrev Tried : List Bool → Stack → (begun : ℕ) → List Bool → Stack → Type 0
Tried held s zero now t = (now ≡ held) × (t ≡ s)
Tried held s (suc begun) now t = Begun (λ h t l. Tried held s begun h t) now t

-- the literal that was put is taken
put_taken : (held : List Bool) (p : ℕ) → has held p ≡ false → set (set held p true) p false ≡ held
put_taken held p free = set-set held p true false ∙ ap (set held p) (sym free) ∙ set-get_or held p false

module _ (f : ℕ) (w : World) (k : Sound w) where
  abbrev own_held : List Bool
  own_held = premises_of w f

  abbrev own_stack : Stack
  own_stack = stack_of w.stacks f

  -- a push begins one
  pushed_on : (Before : List Bool → Stack → ℤ → Type 0) (lent : ℕ) (l : ℤ) → outcome w (pushes lent f l) ≡ Ok tt → Before own_held own_stack l
      → let v = after w (pushes lent f l) in Begun Before (premises_of v f) (stack_of v.stacks f)
  pushed_on Before lent l e before =
      let x = push_flagged w lent f l e in
      let free = push_free w lent f l e in
      let some : 1 ≤ w.board.symbols = omega (arith, x.low) in
      let o = own_of (k some) f x.named in
      record {
        held = own_held;
        stack = own_stack;
        l = l;
        before = before;
        free = free.1;
        top_is = top_on_top _ own_held own_stack o x.high l free.0 free.1;
        less_is = less_on_top _ own_held own_stack o x.high l free.0 free.1;
        held_now = rw x.next_is (held_own w.board f (set own_held (place_of l) true) x.named);
        stack_now = rw x.next_is (stack_own w.stacks f (on_top own_stack l) x.named);
      }

  -- and a pop takes it back
  popped_off : (Before : List Bool → Stack → ℤ → Type 0) (lent : ℕ) → outcome w (pops lent f) ≡ Ok tt → (b : Begun Before own_held own_stack)
      → let v = after w (pops lent f) in
      (top own_stack ≡ b.l) × (premises_of v f ≡ b.held) × (stack_of v.stacks f ≡ b.stack)
  popped_off Before lent e b =
      let x = pop_flagged w lent f e in
      let is : top own_stack ≡ b.l = ap top b.stack_now ∙ b.top_is in (
        is,
        rw x.next_is
            (held_own w.board f (set own_held (place_of (top own_stack)) false) x.named
            ∙ ap₂ (λ (h : List Bool) (p : ℕ). set h p false) b.held_now (ap place_of is) ∙ put_taken b.held (place_of b.l) b.free),
        rw x.next_is (stack_own w.stacks f (less_top own_stack) x.named ∙ ap less_top b.stack_now ∙ b.less_is),
      )

module _ (f : ℕ) (held : List Bool) (s : Stack) where
  -- so even calls come back to where they began
  evenly : {begun : ℕ} {w : World} {calls : List Call} → Even f begun w calls → Sound w → Tried held s begun (premises_of w f) (stack_of w.stacks f)
      → (premises_of (run w calls) f ≡ held) × (stack_of (run w calls).stacks f ≡ s)
  evenly over k t = t
  evenly (begin {w = w} {begun = begun} lent l e rest) k t =
      evenly rest (sound_after w k (pushes lent f l)) (pushed_on f w k (λ h t l. Tried held s begun h t) lent l e t)
  evenly (back {w = w} {begun = begun} lent e rest) k t =
      let off = popped_off f w k (λ h t l. Tried held s begun h t) lent e t in
      evenly rest (sound_after w k (pops lent f)) (rw (off.1, off.2) t.before)
  evenly (other {w = w} c n out rest) k t =
      let same = another f w (moves w c) n out in
      evenly rest (sound_after w k c) (rw (same.premises, same.stack) t)

-- ---- since a good open

pub even_gives_back : EvenGivesBack
even_gives_back w₀ S calls e n f next even =
    let w = since w₀ S calls in
    let r = evenly f (premises_of w f) (stack_of w.stacks f) even (λ some. kept_always w₀ S calls e n) (refl, refl) in
    record { premises = r.0; stack = r.1 }

pub try_gives_back : TryGivesBack
try_gives_back w₀ S calls e n f lent some l next push even pop =
    let r = evenly f (premises_of tried f) (stack_of tried.stacks f) even sound (refl, refl) in
    let b : Begun First (premises_of before f) (stack_of before.stacks f) = rw (r.0, r.1) begun in
    let off = popped_off f before (sound_all tried next sound) First some pop b in
    let was = b.before in
    (off.0 ∙ was.2, record { premises = off.1 ∙ was.0; stack = off.2 ∙ was.1 })
  where
    w : World
    w = since w₀ S calls

    kept_there : Sound w
    kept_there = λ _. kept_always w₀ S calls e n

    tried : World
    tried = after w (pushes lent f l)

    sound : Sound tried
    sound = sound_after w kept_there (pushes lent f l)

    before : World
    before = run tried next

    First : List Bool → Stack → ℤ → Type 0
    First h t k = (h ≡ premises_of w f) × (t ≡ stack_of w.stacks f) × (k ≡ l)

    begun : Begun First (premises_of tried f) (stack_of tried.stacks f)
    begun = pushed_on f w kept_there First lent l push (refl, refl, refl)
