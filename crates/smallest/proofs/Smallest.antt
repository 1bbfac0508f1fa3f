-- 02, Ticket 10: which sets the list of smallest sets has, in what order, and that to know of the sets with one candidate fewer is enough.
use Rattle.meaning.proofs.Kit.{◌≡◌, ◌∙◌, sym, ⊎_elim, ◌≢◌, ◌↔◌, true, false, Bool, ◌&&◌, not, List, In, ℕ, ◌<◌, ◌-◌, suc, zero, ◌^◌, zero-le, arith}
use Rattle.meaning.proofs.Kit.{eqb, length, ne_eqb, not-true, eqb-false}
use Rattle.meaning.specs.Tests.{any, member, from, tabulate, bit}
use Rattle.meaning.specs.Literals.{has, Within, conflict}
use Rattle.meaning.specs.Ground.{ground}
use Rattle.candidates.specs.Sets.{chosen, size, inside, sets_of, passing}
use Rattle.smallest.specs.Smallest.{alone, by_alone, derives, clashes, smaller_derives, carries, smallest}
use Rattle.meaning.specs.Promises.{Derived, Conflict}
use Rattle.candidates.specs.Promises.{Inside}
use Rattle.smallest.specs.Promises.{Carries, AloneIs, SmallestAre, SmallestInOrder, SmallestBound, OneInside, OneInGround}
use Rattle.meaning.proofs.Tests.{true_or_false, both_true, and_intro, not_intro, false_of, clash, same_test, any_found, any_at, in_keep, keep_in}
use Rattle.meaning.proofs.Tests.{member_in, in_member, from_in, in_from}
use Rattle.meaning.proofs.Tables.{length_tabulate, get_d_tabulate}
use Rattle.meaning.proofs.BySize.{all_count, keep_le, length_from}
use Rattle.meaning.proofs.Literals.{has_below}
use Rattle.meaning.proofs.Derived.{derived_is, conflict_words}
use Rattle.meaning.proofs.Growth.{known_before, no_conflict_more}
use Rattle.meaning.proofs.Unmoved.{derived_below, ground_below, ground_held, ground_enough}
use Rattle.candidates.proofs.ChosenSets.{inside_words, inside_of, inside_below, inside_smaller, chosen_inside, fewer_inside, fewer_differs}
use Rattle.candidates.proofs.ChosenSets.{leaves_out, size_le, bit_below, passing_below, passing_chosen, by_size_of, by_size_in, by_size_each}

-- ---- held alone

pub alone_is : AloneIs
unfolding alone
alone_is places cands m p = (to, back)
  where
    to : has (tabulate places (λ q. member q (chosen cands m))) p ≡ true → (p < places) × In p (chosen cands m)
    to e =
        let some : ℕ → Bool = λ q. member q (chosen cands m) in
        let l : p < places = omega (arith, has_below (tabulate places some) p e, length_tabulate places some) in
        (l, member_in p (chosen cands m) (sym (get_d_tabulate places some p false l) ∙ e))

    back : (p < places) × In p (chosen cands m) → has (tabulate places (λ q. member q (chosen cands m))) p ≡ true
    back r = get_d_tabulate places (λ q. member q (chosen cands m)) p false r.0 ∙ in_member r.1

-- a set inside another holds no more
alone_within : (places : ℕ) (cands : List ℕ) (a b : ℕ) → Inside a b → Within (alone places cands a) (alone places cands b)
alone_within places cands a b w p e = let r = (alone_is places cands a p).0 e in (alone_is places cands b p).1 (r.0, chosen_inside cands a b w r.1)

module _ (places : ℕ) (rows : List (List ℕ)) (cands : List ℕ) (p : ℕ) where
  abbrev n : ℕ
  n = length cands

  -- the tests of a set, in short
  abbrev gets : ℕ → Bool
  gets m = derives places rows cands p m

  abbrev fights : ℕ → Bool
  fights m = clashes places rows cands m

  -- ---- more candidates derive no less, and a conflict stays

  pub derives_more : (a m : ℕ) → Inside a m → derives places rows cands p a ≡ true → derives places rows cands p m ≡ true
  unfolding derives
  derives_more a m w d = known_before places rows (alone places cands a) (alone places cands m) (alone_within places cands a m w) places p d

  pub clashes_more : (a m : ℕ) → Inside a m → clashes places rows cands a ≡ true → clashes places rows cands m ≡ true
  unfolding clashes
  clashes_more a m w c = no_conflict_more places rows (alone places cands a) (alone places cands m) (alone_within places cands a m w) c

  -- ---- a smaller set inside

  abbrev smaller : ℕ → ℕ → Bool
  smaller m a = inside n a m && (not (eqb a m) && gets a)

  -- here is one, where there is one,
  abbrev Smaller : ℕ → Type 0
  Smaller m = (a : ℕ) × (a < 2 ^ n) × Inside a m × (a ≢ m) × (gets a ≡ true)

  smaller_found : (m : ℕ) → smaller_derives places rows cands p m ≡ true → Smaller m
  unfolding smaller_derives
  smaller_found m e =
      let r = any_found (smaller m) (sets_of n) e in
      let b = from_in 0 (2 ^ n) r.0 r.1 in
      let l : r.0 < 2 ^ n = omega arith in
      let s = both_true (inside n r.0 m) (not (eqb r.0 m) && gets r.0) r.2 in
      let t = both_true (not (eqb r.0 m)) (gets r.0) s.1 in
      (r.0, l, inside_words n r.0 m l s.0, eqb-false r.0 m (not-true (eqb r.0 m) t.0), t.1)

  -- and each one counts
  smaller_at : (m a : ℕ) → a < 2 ^ n → Inside a m → a ≢ m → gets a ≡ true → smaller_derives places rows cands p m ≡ true
  unfolding smaller_derives
  smaller_at m a l w d e =
      any_at (smaller m) (in_from 0 (2 ^ n) a zero-le (omega arith))
      (and_intro (inside n a m) (not (eqb a m) && gets a) (inside_of n a m w)
      (and_intro (not (eqb a m)) (gets a) (not_intro (eqb a m) (ne_eqb a m d)) e))

  -- to know of the sets with one candidate fewer is enough
  pub one_fewer : (m : ℕ) → m < 2 ^ length cands
      → smaller_derives places rows cands p m ≡ any (λ i. bit i m && derives places rows cands p (m - 2 ^ i)) (from 0 (length cands))
  one_fewer m l = same_test (smaller_derives places rows cands p m) (any fewer (from 0 n)) to back
    where
      fewer : ℕ → Bool
      fewer i = bit i m && gets (m - 2 ^ i)

      to : smaller_derives places rows cands p m ≡ true → any fewer (from 0 n) ≡ true
      to e =
          let s = smaller_found m e in
          let r = leaves_out n s.0 m s.1 l s.2 s.3 in
          any_at fewer (in_from 0 n r.0 zero-le (omega (arith, bit_below n r.0 m l r.1)))
          (and_intro (bit r.0 m) (gets (m - 2 ^ r.0)) r.1 (derives_more s.0 (m - 2 ^ r.0) r.2 s.4))

      back : any fewer (from 0 n) ≡ true → smaller_derives places rows cands p m ≡ true
      back e =
          let r = any_found fewer (from 0 n) e in
          let s = both_true (bit r.0 m) (gets (m - 2 ^ r.0)) r.2 in
          smaller_at m (m - 2 ^ r.0) (omega arith) (fewer_inside r.0 m s.0) (fewer_differs r.0 m s.0) s.1

  -- ---- the sets listed

  pub carries_of : (m : ℕ) → derives places rows cands p m ≡ true → clashes places rows cands m ≡ false
      → smaller_derives places rows cands p m ≡ false → carries places rows cands p m ≡ true
  unfolding carries
  carries_of m d c s =
      let alone-quiet = not_intro (fights m) c in
      let none = not_intro (smaller_derives places rows cands p m) s in
      and_intro (gets m) (not (fights m) && not (smaller_derives places rows cands p m)) d
      (and_intro (not (fights m)) (not (smaller_derives places rows cands p m)) alone-quiet none)

  pub of_carries : (m : ℕ) → carries places rows cands p m ≡ true
      → (derives places rows cands p m ≡ true) × (clashes places rows cands m ≡ false) × (smaller_derives places rows cands p m ≡ false)
  unfolding carries
  of_carries m e =
      let r = both_true (gets m) (not (fights m) && not (smaller_derives places rows cands p m)) e in
      let s = both_true (not (fights m)) (not (smaller_derives places rows cands p m)) r.1 in
      (r.0, not-true (fights m) s.0, not-true (smaller_derives places rows cands p m) s.1)

  in_smallest : (m : ℕ) → m < 2 ^ n → carries places rows cands p m ≡ true → In m (smallest places rows cands p)
  unfolding smallest
  in_smallest m l e = by_size_in n (carries places rows cands p) m l e

  smallest_in : (m : ℕ) → In m (smallest places rows cands p) → (m < 2 ^ n) × (carries places rows cands p m ≡ true)
  unfolding smallest
  smallest_in m h = by_size_of n (carries places rows cands p) m h

  -- ---- a listed set inside any that derives the literal without conflict

  -- a set that derives the literal, inside m, with no smaller one inside it
  abbrev Bottom : ℕ → Type 0
  Bottom m = (a : ℕ) × (a < 2 ^ n) × Inside a m × (gets a ≡ true) × (smaller_derives places rows cands p a ≡ false)

  bottom : (k m : ℕ) → m < k → m < 2 ^ n → gets m ≡ true → Bottom m
  bottom zero m b l d = absurd (omega arith)
  bottom (suc k) m b l d = ⊎_elim (down (bottom k)) (λ e. (m, l, λ i h. h, d, e)) (true_or_false (smaller_derives places rows cands p m))
    where
      down : ((a : ℕ) → a < k → a < 2 ^ n → gets a ≡ true → Bottom a) → smaller_derives places rows cands p m ≡ true → Bottom m
      down ih e =
          let r = smaller_found m e in
          let s = inside_smaller n r.0 m r.1 l r.2 r.3 in
          let t = ih r.0 (omega arith) r.1 r.4 in
          (t.0, t.1, λ i h. r.2 i (t.2 i h), t.3, t.4)

-- ---- the promises

pub smallest_are : SmallestAre
unfolding derives clashes
smallest_are places rows cands p m = (to, back)
  where
    derives_words : (a : ℕ) → Derived places rows (alone places cands a) p ↔ (has (by_alone places rows cands a) p ≡ true)
    derives_words a = derived_is places rows (alone places cands a) p

    quarrel : (conflict (by_alone places rows cands m) ≡ true) ↔ Conflict (Derived places rows (alone places cands m))
    quarrel = conflict_words places rows (alone places cands m)

    to : In m (smallest places rows cands p) → (m < 2 ^ length cands) × Carries places rows cands p m
    to h =
        let r = smallest_in places rows cands p m h in
        let c = of_carries places rows cands p m r.1 in (
          r.0,
          record {
            derives_it = (derives_words m).1 c.0;
            no_conflict = λ k. clash (quarrel.1 k) c.1;
            no_smaller =
                λ a w d k. clash (smaller_at places rows cands p m a (inside_below (length cands) a m r.0 w) w d ((derives_words a).0 k)) c.2;
          },
        )

    back : (m < 2 ^ length cands) × Carries places rows cands p m → In m (smallest places rows cands p)
    back x =
        let c = x.1 in
        in_smallest places rows cands p m x.0
        (carries_of places rows cands p m ((derives_words m).0 c.derives_it)
        (false_of (conflict (by_alone places rows cands m)) (λ e. c.no_conflict (quarrel.0 e)))
        (false_of (smaller_derives places rows cands p m)
        (λ e. let s = smaller_found places rows cands p m e in c.no_smaller s.0 s.2 s.3 ((derives_words s.0).1 s.4))))

pub smallest_in_order : SmallestInOrder
unfolding smallest
smallest_in_order places rows cands p = by_size_each (length cands) (carries places rows cands p)

pub smallest_bound : SmallestBound
unfolding smallest
smallest_bound places rows cands p =
    let n = length cands in
    let test = carries places rows cands p in
    omega (
      arith,
      all_count (size n) test (sets_of n) (suc n) (λ m h. omega (arith, size_le n m)),
      keep_le test (sets_of n),
      length_from 0 (2 ^ n),
    )

pub one_inside : OneInside
one_inside places rows cands p m l d q =
    let r = bottom places rows cands p (suc m) m (omega arith) l d in (
      r.0,
      in_smallest places rows cands p r.0 r.1
          (carries_of places rows cands p r.0 r.3
          (false_of (clashes places rows cands r.0) (λ c. clash (clashes_more places rows cands p r.0 m r.2 c) q)) r.4),
      r.2,
    )

-- ---- inside the ground

pub one_in_ground : OneInGround
unfolding derives clashes
one_in_ground places rows cands held p small few all d c = (r.0, r.1, λ x e. low x (alone_within places cands r.0 m r.2 x e))
  where
    floor : List Bool
    floor = ground places rows held p

    m : ℕ
    m = passing (has floor) cands

    floor_held : Within floor held
    floor_held = ground_held places rows held p small few (derived_below places rows held p d)

    low : Within (alone places cands m) floor
    low x e =
        let a = (alone_is places cands m x).0 e in
        (keep_in (has floor) cands (rw (passing_chosen (has floor) cands) at a.1)).1

    high : Within floor (alone places cands m)
    high x e =
        let b = ground_below places rows held p x e in
        (alone_is places cands m x).1 (b, rw (passing_chosen (has floor) cands) (in_keep (has floor) (all x e) e))

    within : Within (alone places cands m) held
    within x e = floor_held x (low x e)

    derived_from : has (by_alone places rows cands m) p ≡ true
    derived_from = (ground_enough places rows held (alone places cands m) p small few d high within).derived

    quiet : conflict (by_alone places rows cands m) ≡ false
    quiet = false_of (conflict (by_alone places rows cands m)) (λ e. clash (no_conflict_more places rows (alone places cands m) held within e) c)

    r : (a : ℕ) × In a (smallest places rows cands p) × Inside a m
    r = one_inside places rows cands p m (passing_below (has floor) cands) derived_from quiet
