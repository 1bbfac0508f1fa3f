-- A furnace's premises and its stack as the calls leave them, and a literal more or one less.
use Rattle.meaning.proofs.Kit.{◌≡◌, ◌∙◌, sym, ap, refl, true, false, Bool, ◌&&◌, ◌||◌, List, [], ◌∷◌, ◌++◌, map-append, ◌≤◌, ℕ, ◌<◌, ◌-◌, suc, ◌*◌}
use Rattle.meaning.proofs.Kit.{zero, arith, eqb, ℤ, pos, length, get_or, drop, take, replicate, set, length-set, length-replicate, drop-cons}
use Rattle.meaning.proofs.Kit.{get_or-set_same, take-suc, take-suc-set, drop-set-lt, eq-eqb, not-true, eqb-true}
use lib.Seq.{set-get_or, set-set, take-set-le}
use Rattle.meaning.specs.Tests.{all, member}
use Rattle.meaning.specs.Literals.{has}
use Rattle.meaning.proofs.Tests.{both_true, both_false, and_intro, not_intro, same_test, any_append, all_imp, all_append}
use Rattle.literals.specs.Literal.{in_range, place_of}
use Rattle.literals.proofs.Arguments.{place_fits}
use Rattle.candidates.specs.Given.{places_of, repeats}
use Rattle.stack.specs.Stacking.{on_stack, top, on_top, less_top, empty_stack, good_stack}
use Rattle.stack.specs.declared.Stack.{Stack}
use Rattle.stack.proofs.GoodStacks.{stack_is, stack_good}
use Rattle.stack.proofs.Struck.{struck_each}
use Rattle.stack.proofs.Room.{room_left}

pub record Own (S : ℕ) (held : List Bool) (s : Stack) : Type 0 where
  pub long : length held ≡ 400
  pub places : length s.literals ≡ 400
  pub good : good_stack S held s ≡ true
  pub zeros : drop s.count s.literals ≡ replicate (400 - s.count) (pos 0)

pub own_empty : (S : ℕ) → Own S (replicate 400 false) empty_stack
own_empty S =
    record {
      long = length-replicate 400 false;
      places = length-replicate 400 (pos 0);
      good = stack_good S (replicate 400 false) empty_stack (record { few = omega arith; apart = refl; held_each = refl });
      zeros = refl;
    }

-- ---- premises more or less, and the stack as it was

-- a premise held stays where another is put
pub set_true : (held : List Bool) (x p : ℕ) → has held p ≡ true → has (set held x true) p ≡ true
set_true [] x p e = e
set_true (b ∷ held) zero zero e = refl
set_true (b ∷ held) zero (suc p) e = e
set_true (b ∷ held) (suc x) zero e = e
set_true (b ∷ held) (suc x) (suc p) e = set_true held x p e

module _ (S : ℕ) (held : List Bool) where
  -- a literal of the board that is held
  abbrev premise : List Bool → ℤ → Bool
  premise flags l = in_range S l && has flags (place_of l)

  held_more : (p : ℕ) (on : List ℤ) → all (premise held) on ≡ true → all (premise (set held p true)) on ≡ true
  held_more p on =
      all_imp _ _ on (λ l m h. (let both = both_true _ _ h in and_intro (in_range S l) _ both.0 (set_true held p (place_of l) both.1)))

  held_less : (p : ℕ) (on : List ℤ) → member p (places_of on) ≡ false → all (premise held) on ≡ true → all (premise (set held p false)) on ≡ true
  held_less p on apart e = struck_each S held p on ∙ and_intro _ _ (not_intro _ apart) e

  module _ (s : Stack) (e : good_stack S held s ≡ true) where
    pub good_more : (p : ℕ) → good_stack S (set held p true) s ≡ true
    good_more p =
        let g = stack_is S held s e in
        stack_good S (set held p true) s (record { few = g.few; apart = g.apart; held_each = held_more p (on_stack s) g.held_each })

    pub good_less : (p : ℕ) → member p (places_of (on_stack s)) ≡ false → good_stack S (set held p false) s ≡ true
    good_less p apart =
        let g = stack_is S held s e in
        stack_good S (set held p false) s (record { few = g.few; apart = g.apart; held_each = held_less p (on_stack s) apart g.held_each })

    -- a literal that is not held is not on it
    free_apart : (p : ℕ) → has held p ≡ false → member p (places_of (on_stack s)) ≡ false
    free_apart p free =
        let same : set held p false ≡ held = rw (← free) (set-get_or held p false) in
        not-true _ (both_true _ _ (sym (struck_each S held p (on_stack s)) ∙ rw same (stack_is S held s e).held_each)).0

module _ {S : ℕ} {held : List Bool} {s : Stack} (o : Own S held s) (p : ℕ) where
  pub own_more : Own S (set held p true) s
  own_more = record { long = length-set held p true ∙ o.long; places = o.places; good = good_more S held s o.good p; zeros = o.zeros }

  pub own_less : member p (places_of (on_stack s)) ≡ false → Own S (set held p false) s
  own_less apart =
      record { long = length-set held p false ∙ o.long; places = o.places; good = good_less S held s o.good p apart; zeros = o.zeros }

-- ---- one place more

same_either_way : (p q : ℕ) → eqb p q ≡ eqb q p
same_either_way p q = same_test (eqb p q) (eqb q p) (λ e. eq-eqb q p (sym (eqb-true p q e))) (λ e. eq-eqb p q (sym (eqb-true q p e)))

-- the new one among the others, or one of the others twice
twice : (a e b c : Bool) → (a || (e || false)) || (b || c) ≡ (e || b) || (a || c)
twice true true b c = refl
twice true false true c = refl
twice true false false c = refl
twice false true b c = refl
twice false false true c = refl
twice false false false c = refl

repeats_one : (places : List ℕ) (p : ℕ) → repeats (places ++ (p ∷ [])) ≡ (member p places || repeats places)
repeats_one [] p = refl
repeats_one (q ∷ places) p =
    rw (any_append (λ x. eqb x q) places (p ∷ []), repeats_one places p, same_either_way p q)
    (twice (member q places) (eqb q p) (member p places) (repeats places))

module _ (S : ℕ) (held : List Bool) (s : Stack) (o : Own S held s) (high : S ≤ 200) where
  few : s.count ≤ 400
  few = omega (arith, (stack_is S held s o.good).few, high)

  -- ---- a literal held and put on top

  module _ (l : ℤ) (range : in_range S l ≡ true) (free : has held (place_of l) ≡ false) where
    pub room : s.count < 2 * S
    room = room_left S held s l o.good (omega (arith, few, o.places)) range free

    fits : s.count < length s.literals
    fits = omega (arith, room, high, o.places)

    pub on_top_lem : on_stack (on_top s l) ≡ on_stack s ++ (l ∷ [])
    on_top_lem = take-suc-set s.literals s.count l fits

    less : suc s.count - 1 ≡ s.count
    less = omega arith

    pub top_on_top : top (on_top s l) ≡ l
    top_on_top = rw less (get_or-set_same s.literals s.count l (pos 0) fits)

    -- what is beyond: a zero in the place to be written, and zeros after it
    beyond : pos 0 ∷ replicate (400 - suc s.count) (pos 0) ≡ get_or s.literals s.count (pos 0) ∷ drop (suc s.count) s.literals
    beyond =
        let one : 400 - s.count ≡ suc (400 - suc s.count) = omega (arith, fits, o.places) in
        sym (o.zeros ∙ ap (λ (n : ℕ). replicate n (pos 0)) one) ∙ drop-cons s.literals s.count (pos 0) fits

    pub less_on_top : less_top (on_top s l) ≡ s
    less_on_top =
        let all = beyond in
        let zero : get_or s.literals s.count (pos 0) ≡ pos 0 = cc in
        rw less
        (ap (λ (places : List ℤ). record { count = s.count; literals = places })
        (set-set s.literals s.count l (pos 0)
        ∙ ap (set s.literals s.count) (sym zero) ∙ set-get_or s.literals s.count (pos 0)))

    pub own_pushed : Own S (set held (place_of l) true) (on_top s l)
    own_pushed =
        let p = place_of l in
        let g = stack_is S held s o.good in
        let now = set held p true in
        record {
          long = length-set held p true ∙ o.long;
          places = length-set s.literals s.count l ∙ o.places;
          good =
              stack_good S now (on_top s l)
              (record {
                few = omega (arith, room);
                apart = rw (on_top_lem, map-append place_of (on_stack s) (l ∷ []), repeats_one, free_apart S held s o.good p free, g.apart);
                held_each =
                    rw (
                      on_top_lem,
                      all_append (premise S held now) (on_stack s) (l ∷ []),
                      held_more S held p (on_stack s) g.held_each,
                      range,
                      get_or-set_same held p true false (omega (arith, place_fits S l range, high, o.long)),
                    );
              });
          zeros =
              let all = beyond in
              let rest : drop (suc s.count) s.literals ≡ replicate (400 - suc s.count) (pos 0) = cc in
              drop-set-lt (suc s.count) s.literals s.count l (omega arith) ∙ rest;
        }

  -- ---- the top withdrawn

  module _ (some : 1 ≤ s.count) where
    -- how many are left
    abbrev left : ℕ
    left = s.count - 1

    within : left < length s.literals
    within = omega (arith, some, few, o.places)

    pub with_top : on_stack s ≡ on_stack (less_top s) ++ (top s ∷ [])
    with_top =
        let one : s.count ≡ suc left = omega arith in
        ap (λ (n : ℕ). take n s.literals) one ∙ take-suc s.literals left (pos 0) within
        ∙ ap (λ (on : List ℤ). on ++ (top s ∷ [])) (sym (take-set-le left s.literals left (pos 0) (omega arith)))

    pub own_popped : Own S (set held (place_of (top s)) false) (less_top s)
    own_popped =
        let p = place_of (top s) in
        let g = stack_is S held s o.good in
        let on = on_stack (less_top s) in
        let apart = both_false _ _ (rw (with_top, map-append place_of on (top s ∷ []), repeats_one) at g.apart) in
        let each = both_true _ _ (rw (with_top, all_append (premise S held held) on (top s ∷ [])) at g.held_each) in
        record {
          long = length-set held p false ∙ o.long;
          places = length-set s.literals left (pos 0) ∙ o.places;
          good =
              stack_good S (set held p false) (less_top s)
              (record { few = omega (arith, g.few); apart = apart.1; held_each = held_less S held p on apart.0 each.0 });
          zeros =
              let one : 400 - left ≡ suc (400 - s.count) = omega (arith, some, few) in
              let next : suc left ≡ s.count = omega (arith, some) in
              drop-cons (set s.literals left (pos 0)) left (pos 0) (omega (arith, within, length-set s.literals left (pos 0)))
              ∙ rw (
                get_or-set_same s.literals left (pos 0) (pos 0) within,
                drop-set-lt (suc left) s.literals left (pos 0) (omega arith),
                next,
                o.zeros,
                one,
              );
        }
