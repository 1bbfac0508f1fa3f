-- 02, Ticket 10, over calls: which sets are listed, what each does where it is held alone, and how many there may be.
use Rattle.meaning.proofs.Kit.{◌≡◌, refl, subst, ◌↔◌, true, Bool, not, List, ◌∷◌, In, in_of_map, ◌≤◌, ℕ, ◌<◌, ◌*◌, arith, leb, ℤ, pow_mono, length}
use Rattle.meaning.proofs.Kit.{drop, length-map, take_at, not-false, not-true, le-leb, leb-true}
use mathlib.Core.List.Memᴰ.{tail}
use Rattle.meaning.specs.Tests.{all}
use Rattle.meaning.specs.Literals.{opp, has, conflict}
use Rattle.candidates.specs.Sets.{chosen}
use Rattle.smallest.specs.Smallest.{alone, by_alone}
use Rattle.meaning.specs.Promises.{Derived}
use Rattle.meaning.proofs.Tests.{both_false, false_of, clash, same_test, in_at, all_at}
use Rattle.meaning.proofs.Literals.{conflict_found}
use Rattle.meaning.proofs.Derived.{derived_is}
use Rattle.meaning.proofs.Growth.{same_known}
use Rattle.candidates.proofs.ChosenSets.{chosen_are}
use Rattle.smallest.proofs.Smallest.{alone_is, smallest_are, smallest_in_order, smallest_bound, one_in_ground}
use Rattle.literals.specs.Literal.{in_range, place_of}
use Rattle.board.specs.Furnaces.{held_by}
use Rattle.board.specs.Ranking.{rows_on}
use Rattle.std.specs.Prelude.{Ok}
use Rattle.literals.proofs.Arguments.{place_fits}
use Rattle.board.proofs.Answered.{none_given}
use Rattle.candidates.specs.Given.{most_candidates, places_of, repeats}
use Rattle.smallest.specs.Listing.{smallest_at, smallest_on, smallest_faults, smallest_outcome, smallest_answer, smallest_sets}
use Rattle.promises.specs.Calls.{lists, World, front, faults, answer, outcome}
use Rattle.promises.specs.Demands.{FirstGiven, here, later, rows_of_world, premises_of, derived_set, SmallestTells, list_written, SmallestLists}
use Rattle.promises.specs.Demands.{HeldAlone, ListedDerives, SmallerDoesNot, ListedInGround, ListRoom}
use Rattle.promises.proofs.Refusals.{refused_exactly}
use Rattle.promises.proofs.Told.{rows_read}
use Rattle.promises.proofs.Unmoved.{small, few, is_derived, in_ground}

-- ---- the list

pub smallest_tells : SmallestTells
unfolding answer outcome smallest_answer smallest_sets smallest_outcome smallest_faults smallest_at
smallest_tells w lent cands l sets e =
    let read = rows_read w lent (none_given (smallest_faults (front w lent) w.board cands l (length sets)) e 0) in
    (rw (e, read), rw (e, read))

module _ (w : World) (lent : ℕ) (cands : List ℤ) (l : ℤ) (sets : List ℕ) (e : outcome w (lists lent cands l sets) ≡ Ok tt) where
  written : list_written w lent cands l sets ≡ smallest_on w.table w.board cands l
  written =
      let list = smallest_on w.table w.board cands l in
      let told = smallest_tells w lent cands l sets e in
      rw (told.0, told.1) (take_at list (drop (length list) sets) (length list) refl)

  -- its sets are of literals of the board
  in_places : (m h : ℕ) → In h (chosen (places_of cands) m) → h < 2 * w.board.symbols
  unfolding answer outcome smallest_answer smallest_outcome smallest_faults
  in_places m h i =
      let S = w.board.symbols in
      let range = not-false (all (in_range S) (l ∷ cands)) (none_given (smallest_faults (front w lent) w.board cands l (length sets)) e 1) in
      let r = (chosen_are (places_of cands) m h).0 i in
      let c = in_of_map place_of cands (subst (λ (p : ℕ). In p (places_of cands)) r.2 (in_at (places_of cands) r.0 0 r.1)) in
      rw (← c.2) (place_fits S c.0 (all_at (in_range S) {xs = l ∷ cands} range (tail c.1)))

pub smallest_lists : SmallestLists
unfolding smallest_at
smallest_lists w lent cands l sets e =
    let places = 2 * w.board.symbols in
    let as_many = length-map cands place_of in
    record {
      all = λ m. rw (written w lent cands l sets e, ← as_many) (smallest_are places (rows_of_world w) (places_of cands) (place_of l) m);
      order = rw (written w lent cands l sets e, ← as_many) (smallest_in_order places (rows_of_world w) (places_of cands) (place_of l));
    }

-- ---- a furnace that holds a set alone derives what the set does

module _ {w v : World} {furnace : ℕ} {cands : List ℤ} {m : ℕ} (h : HeldAlone w v furnace cands m) where
  abbrev places : ℕ
  places = 2 * w.board.symbols

  abbrev held : List Bool
  held = alone places (places_of cands) m

  same_held : (p : ℕ) → p < places → has (premises_of v furnace) p ≡ has held p
  same_held p low =
      let is = alone_is places (places_of cands) m p in
      same_test (has (premises_of v furnace) p) (has held p) (λ t. is.1 (low, (h.premises p low).0 t)) (λ t. (h.premises p low).1 (is.0 t).1)

  by_set : derived_set v furnace ≡ by_alone places (rows_of_world w) (places_of cands) m
  unfolding held_by
  by_set = rw (h.symbols, h.rows) (same_known places (rows_of_world w) (premises_of v furnace) held same_held places)

  set_derives : (p : ℕ) → (has (derived_set v furnace) p ≡ true) ↔ Derived places (rows_of_world w) held p
  set_derives p = let is = derived_is places (rows_of_world w) held p in rw by_set (is.1, is.0)

pub listed_derives : ListedDerives
listed_derives w v lent furnace cands l sets m e i h =
    let known = derived_set v furnace in
    let c = (((smallest_lists w lent cands l sets e).all m).0 i).1 in (
      (derived_is (2 * v.board.symbols) (rows_of_world v) (premises_of v furnace) (place_of l)).1 ((set_derives h (place_of l)).1 c.derives_it),
      false_of (conflict known)
          (λ k. let r = conflict_found known k in
          c.no_conflict (r.0, (set_derives h r.0).0 r.1, (set_derives h (opp r.0)).0 r.2)),
    )

pub smaller_does_not : SmallerDoesNot
smaller_does_not w v lent furnace cands l sets m a e i inside other h d =
    (((smallest_lists w lent cands l sets e).all m).0 i).1.no_smaller a inside other
    ((set_derives h (place_of l)).0 ((derived_is (2 * v.board.symbols) (rows_of_world v) (premises_of v furnace) (place_of l)).0 d))

-- ---- inside the ground

pub listed_in_ground : ListedInGround
unfolding smallest_at
listed_in_ground w lent some furnace cands l sets marks e g quiet candidates =
    let places = 2 * w.board.symbols in
    let r =
    one_in_ground places (rows_of_world w) (places_of cands) (premises_of w furnace) (place_of l) (small w some furnace l marks g)
    (few w some furnace l marks g) (λ h t. candidates h (in_ground w some furnace l marks g h t)) (is_derived w some furnace l marks g) quiet in (
      r.0,
      rw (written w lent cands l sets e) r.1,
      λ h i.
          in_ground w some furnace l marks g h
          (r.2 h ((alone_is places (places_of cands) r.0 h).1 (in_places w lent cands l sets e r.0 h i, i))),
    )

-- ---- 12 candidates have 4,096 sets

pub list_room : ListRoom
unfolding faults smallest_faults smallest_at
list_room w lent cands l sets long e = go ((refused_exactly w (lists lent cands l sets) 13 (omega arith)).0 e)
  where
    list : List ℕ
    list = smallest_on (front w lent) w.board cands l

    few_sets : length cands ≤ most_candidates → length list ≤ length sets
    few_sets h =
        let as_many : length (places_of cands) ≤ most_candidates = omega (arith, length-map cands place_of) in
        let most = smallest_bound (2 * w.board.symbols) (rows_on (front w lent) w.board) (places_of cands) (place_of l) in
        omega (arith, pow_mono as_many)

    -- 13 comes after 17
    go : FirstGiven 13 (smallest_faults (front w lent) w.board cands l (length sets)) → ⊥
    go (here g n) = omega arith
    go (later a (here g n)) = omega arith
    go (later a (later b (here g n))) = omega arith
    go (later a (later b (later c (here g n)))) =
        let many = leb (length cands) most_candidates in
        let h = leb-true (length cands) most_candidates (not-false many (both_false (not many) (repeats (places_of cands)) c).0) in
        clash (le-leb (length list) (length sets) (few_sets h)) (not-true (leb (length list) (length sets)) g)
    go (later a (later b (later c (later _ x)))) = elim x [ ]
