-- Striking off flags tests all that is asked of the literals on a stack: each is a premise, and none stands twice.
use Rattle.meaning.proofs.Kit.{◌≡◌, ◌∙◌, sym, ap, refl, true, false, Bool, ◌&&◌, not, ◌||◌, and-false, List, [], ◌∷◌, ◌≤◌, ℕ, suc, ◌*◌}
use Rattle.meaning.proofs.Kit.{zero, eqb, ℤ, set, get_or-set_other, le-leb, eqb-true, eqb-false}
use Rattle.meaning.specs.Tests.{all, member}
use Rattle.meaning.specs.Literals.{has}
use Rattle.literals.specs.Literal.{in_range, place_of}
use Rattle.candidates.specs.Given.{places_of, repeats}
use Rattle.stack.specs.Stacking.{on_stack, good_stack}
use Rattle.stack.specs.Striking.{all_struck}
use Rattle.stack.specs.declared.Stack.{Stack}

-- no flag stands where one was struck off
struck : (held : List Bool) (p : ℕ) → has (set held p false) p ≡ false
struck [] p = refl
struck (h ∷ held) zero = refl
struck (h ∷ held) (suc p) = struck held p

-- a test of the first and one of the rest, in either order
first_rest : (f t a : Bool) → f && (t && a) ≡ t && (f && a)
first_rest true t a = refl
first_rest false true a = refl
first_rest false false a = refl

-- the first is not among the rest, and they stand apart: in the order of the code and in that of the definition
one_more : (found again f a : Bool) → f && (not again && (not found && a)) ≡ not (found || again) && (f && a)
one_more false false f a = refl
one_more false true f a = and-false f
one_more true false f a = and-false f
one_more true true f a = and-false f

module _ (S : ℕ) where
  -- a literal of the board that stands among these flags
  abbrev flagged : List Bool → ℤ → Bool
  flagged held l = in_range S l && has held (place_of l)

  -- with one flag struck off: the literals stand among the flags as they were, and none of them is that flag's
  pub struck_each : (held : List Bool) (p : ℕ) (on : List ℤ)
      → all (flagged (set held p false)) on ≡ (not (member p (places_of on)) && all (flagged held) on)
  struck_each held p [] = refl
  struck_each held p (l ∷ on) = go (eqb (place_of l) p) refl (struck_each held p on)
    where
      go : (is : Bool) → eqb (place_of l) p ≡ is → all (flagged (set held p false)) on ≡ (not (member p (places_of on)) && all (flagged held) on)
          → flagged (set held p false) l && all (flagged (set held p false)) on
          ≡ not (is || member p (places_of on)) && (flagged held l && all (flagged held) on)
      go true e rest = rw (eqb-true (place_of l) p e, struck held p, and-false (in_range S l))
      go false e rest =
          rw (get_or-set_other held p (place_of l) false false (eqb-false (place_of l) p e), rest)
          (first_rest (flagged held l) (not (member p (places_of on))) (all (flagged held) on))

  pub struck_is : (held : List Bool) (on : List ℤ)
      → all_struck S held on ≡ (not (repeats (places_of on)) && all (λ l. in_range S l && has held (place_of l)) on)
  struck_is held [] = refl
  struck_is held (l ∷ on) =
      let left = set held (place_of l) false in
      ap (λ (t : Bool). flagged held l && t)
      (struck_is left on ∙ ap (λ (t : Bool). not (repeats (places_of on)) && t) (struck_each held (place_of l) on))
      ∙ one_more (member (place_of l) (places_of on)) (repeats (places_of on)) (flagged held l) (all (flagged held) on)

  -- so a stack of no more than 2S literals is good
  pub good_struck : (held : List Bool) (s : Stack) → s.count ≤ 2 * S → good_stack S held s ≡ all_struck S held (on_stack s)
  unfolding good_stack
  good_struck held s few = rw (le-leb s.count (2 * S) few) (sym (struck_is held (on_stack s)))
