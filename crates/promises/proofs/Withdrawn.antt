-- 02, Ticket 12, over calls: what the call answers, and what withdrawing literals one after the other comes to.
use Rattle.meaning.proofs.Kit.{◌≡◌, ◌∙◌, sym, ap, refl, subst, ⊎_elim, inl, inr, true, false, Bool, not, ◌||◌, List, [], ◌∷◌, map, In, in_of_map}
use Rattle.meaning.proofs.Kit.{in_map, ◌≤◌, ℕ, ◌<◌, ◌*◌, ◌^◌, arith, leb, ℤ, pow_mono, length, get_or, set, length-map, get_or-set_other, not-false}
use Rattle.meaning.proofs.Kit.{leb-true}
use mathlib.Core.List.Memᴰ.{head}
use mathlib.Core.List.Memᴰ.{tail}
use Rattle.meaning.specs.Tests.{all, member, none}
use Rattle.meaning.specs.BySize.{BySize}
use Rattle.meaning.specs.Literals.{has, conflict}
use Rattle.meaning.specs.Rounds.{derived}
use Rattle.meaning.specs.Ground.{struck_off}
use Rattle.candidates.specs.Sets.{chosen, size}
use Rattle.least.specs.Least.{least}
use Rattle.least.specs.Promises.{Ends, Least}
use Rattle.meaning.proofs.Tests.{true_or_false, both_false, false_of, clash, all_at, in_member}
use Rattle.meaning.proofs.Growth.{no_conflict_more}
use Rattle.candidates.proofs.ChosenSets.{chosen_in, chosen_map}
use Rattle.meaning.proofs.Derived.{conflict_words}
use Rattle.least.proofs.Least.{struck_more, least_is, empty_exactly, least_below}
use Rattle.literals.specs.Literal.{in_range, place_of}
use Rattle.literals.proofs.Arguments.{place_fits}
use Rattle.board.specs.Furnaces.{is_furnace, with_held}
use Rattle.board.specs.Faults.{Fault, good_board}
use Rattle.board.specs.Changes.{with_flag, flag_faults}
use Rattle.board.specs.Ranking.{rows_on}
use Rattle.std.specs.Prelude.{Ok}
use Rattle.board.proofs.TwoSets.{held_own}
use Rattle.board.proofs.Goodness.{flag_good}
use Rattle.board.proofs.Answered.{none_given}
use Rattle.candidates.specs.Given.{most_candidates, too_many, places_of, repeats}
use Rattle.candidates.proofs.Different.{chosen_different}
use Rattle.stack.specs.Steps.{withdraw_faults_with, withdrawn_with}
use Rattle.stack.proofs.Kept.{stacks_less}
use Rattle.least.specs.Withdrawing.{least_at, least_faults, least_answer}
use Rattle.promises.specs.Calls.{withdraws, asks_least, World, front, faults, answer, outcome, after, run, Each}
use Rattle.promises.specs.Demands.{FirstGiven, here, later, rows_of_world, premises_of, least_set, LeastTells, EmptySet, withdraw_each, Withdrawn}
use Rattle.promises.specs.Demands.{Unstacked, SetEnds, MoreEnds, SmallerLeaves, StaysExactly}
use Rattle.promises.proofs.Refusals.{refused_exactly}
use Rattle.promises.proofs.Told.{rows_read}
use Rattle.promises.proofs.Changes.{withdraw_takes}

-- ---- one after the other

-- v is w with these premises of the furnace struck off
record Struck (w v : World) (furnace : ℕ) (gone : List ℤ) : Type 0 where
  symbols : v.board.symbols ≡ w.board.symbols
  rows : rows_of_world v ≡ rows_of_world w
  premises : premises_of v furnace ≡ struck_off (premises_of w furnace) (places_of gone)

module _ (lent furnace : ℕ) (named : is_furnace furnace ≡ true) where
  -- what each withdrawal asks for
  record Ready (w : World) (gone : List ℤ) : Type 0 where
    good : good_board (front w lent) w.board ≡ true
    range : (l : ℤ) → In l gone → in_range w.board.symbols l ≡ true
    held : (l : ℤ) → In l gone → has (premises_of w furnace) (place_of l) ≡ true
    different : repeats (places_of gone) ≡ false
    unstacked : Unstacked w furnace gone

  module _ (w : World) (l : ℤ) (gone : List ℤ) (r : Ready w (l ∷ gone)) where
    withdraw_done : outcome w (withdraws lent furnace l) ≡ Ok tt
    unfolding answer outcome withdrawn_with withdraw_faults_with flag_faults
    withdraw_done = rw (r.unstacked.good, r.good, named, r.range l (head refl), r.held l (head refl), r.unstacked.free l (head refl))

    abbrev next : World
    next = record { board = with_flag w.board furnace l false; table = w.table; stacks = w.stacks }

    next_is : after w (withdraws lent furnace l) ≡ next
    next_is = withdraw_takes w lent furnace l withdraw_done

    next_held : premises_of next furnace ≡ set (premises_of w furnace) (place_of l) false
    next_held = held_own w.board furnace (set (premises_of w furnace) (place_of l) false) named

    next_ready : Ready next gone
    unfolding with_held
    next_ready =
        let apart = both_false (member (place_of l) (places_of gone)) (repeats (places_of gone)) r.different in
        record {
          good = flag_good w.board furnace l false (place_fits w.board.symbols l (r.range l (head refl))) (front w lent) ∙ r.good;
          range = λ q i. r.range q (tail i);
          held =
              λ q i. ap (λ (h : List Bool). has h (place_of q)) next_held
              ∙ get_or-set_other (premises_of w furnace) (place_of l) (place_of q) false false
              (λ e. clash (in_member (rw e at (in_map place_of i))) apart.0)
              ∙ r.held q (tail i);
          different = apart.1;
          unstacked =
              record {
                good = stacks_less w.board w.stacks furnace l r.unstacked.good (r.unstacked.free l (head refl));
                free = λ q i. r.unstacked.free q (tail i);
              };
        }

  -- every one is good, and these premises are gone
  withdrawn_each : (w : World) (gone : List ℤ) → Ready w gone
      → Each (λ v c. outcome v c ≡ Ok tt) w (withdraw_each lent furnace gone) × Struck w (run w (withdraw_each lent furnace gone)) furnace gone
  unfolding with_held
  withdrawn_each w [] r = (tt, record { symbols = refl; rows = refl; premises = refl })
  withdrawn_each w (l ∷ gone) r =
      let ih = withdrawn_each (next w l gone r) gone (next_ready w l gone r) in
      let s = ih.1 in
      let rest : World → Type 0 = λ v.
      Each (λ u c. outcome u c ≡ Ok tt) v (withdraw_each lent furnace gone) × Struck w (run v (withdraw_each lent furnace gone)) furnace (l ∷ gone) in
      let t = subst rest (sym (next_is w l gone r)) (
        ih.0,
        record {
          symbols = s.symbols;
          rows = s.rows;
          premises = s.premises ∙ ap (λ (h : List Bool). struck_off h (places_of gone)) (next_held w l gone r);
        },
      ) in
      ((withdraw_done w l gone r, t.0), t.1)

-- ---- the call

-- what is known of the candidates once its first tests have passed
record Passed (w : World) (lent furnace : ℕ) (cands : List ℤ) : Type 0 where
  good : good_board (front w lent) w.board ≡ true
  named : is_furnace furnace ≡ true
  range : all (in_range w.board.symbols) cands ≡ true
  few : too_many cands ≡ false
  different : repeats (places_of cands) ≡ false
  held : all (has (premises_of w furnace)) (places_of cands) ≡ true

-- what is in conflict once premises are struck off
abbrev left : (w : World) (furnace : ℕ) (gone : List ℕ) → Bool
left w furnace gone = conflict (derived (2 * w.board.symbols) (rows_of_world w) (struck_off (premises_of w furnace) gone))

module _ (w : World) (lent furnace : ℕ) (cands : List ℤ) where
  abbrev S : ℕ
  S = w.board.symbols

  abbrev held : List Bool
  held = premises_of w furnace

  read : Passed w lent furnace cands → rows_on (front w lent) w.board ≡ rows_of_world w
  read p = rows_read w lent (ap not p.good)

  module _ (p : Passed w lent furnace cands) (u : Unstacked w furnace cands) where
    -- different candidates may be withdrawn one after the other
    ready : (gone : List ℤ) → ((l : ℤ) → In l gone → In l cands) → repeats (places_of gone) ≡ false → Ready lent furnace p.named w gone
    ready gone of apart =
        record {
          good = p.good;
          range = λ l i. all_at (in_range S) p.range (of l i);
          held = λ l i. all_at (has held) p.held (in_map place_of (of l i));
          different = apart;
          unstacked = record { good = u.good; free = λ l i. u.free l (of l i) };
        }

    withdrawn_so : (gone : List ℤ) → ((l : ℤ) → In l gone → In l cands) → repeats (places_of gone) ≡ false → {is : Bool}
        → left w furnace (places_of gone) ≡ is → Withdrawn w lent furnace gone is
    withdrawn_so gone of apart e =
        let r = withdrawn_each lent furnace p.named w gone (ready gone of apart) in
        let s = r.1 in
        record { good = r.0; in_conflict = rw (s.symbols, s.rows, s.premises) e }

    -- those of a set
    withdrawn_set : (m : ℕ) {is : Bool} → left w furnace (chosen (places_of cands) m) ≡ is → Withdrawn w lent furnace (chosen cands m) is
    withdrawn_set m e =
        let same = chosen_map place_of cands m in
        withdrawn_so (chosen cands m) (λ l i. chosen_in cands m i)
        (ap repeats (sym same) ∙ chosen_different (places_of cands) m p.different) (ap (left w furnace) (sym same) ∙ e)

    -- all of them
    withdrawn_all : {is : Bool} → left w furnace (places_of cands) ≡ is → Withdrawn w lent furnace cands is
    withdrawn_all e = withdrawn_so cands (λ l i. i) p.different e

  -- by the cases that are not given
  passed_of : not (good_board (front w lent) w.board) ≡ false → not (is_furnace furnace) ≡ false → not (all (in_range S) cands) ≡ false
      → (too_many cands || repeats (places_of cands)) ≡ false → not (all (has held) (places_of cands)) ≡ false → Passed w lent furnace cands
  passed_of a b c d f =
      let given = both_false (too_many cands) (repeats (places_of cands)) d in
      record {
        good = not-false (good_board (front w lent) w.board) a;
        named = not-false (is_furnace furnace) b;
        range = not-false (all (in_range S) cands) c;
        few = given.0;
        different = given.1;
        held = not-false (all (has held) (places_of cands)) f;
      }

-- where it is done
module _ (w : World) (lent furnace : ℕ) (cands : List ℤ) (e : outcome w (asks_least lent furnace cands) ≡ Ok tt) where
  tests : (i : ℕ) → get_or (map (λ (f : Fault). f.given) (least_faults (front w lent) w.board furnace cands)) i false ≡ false
  unfolding answer outcome least_answer
  tests = none_given (least_faults (front w lent) w.board furnace cands) e

  all_passed : Passed w lent furnace cands
  unfolding least_faults
  all_passed = passed_of w lent furnace cands (tests 0) (tests 1) (tests 2) (tests 3) (tests 4)

  none_left : left w furnace (places_of cands) ≡ false
  unfolding least_faults
  none_left = rw (read w lent furnace cands all_passed) at (tests 5)

  set_is : least_set w lent furnace cands ≡ least (2 * w.board.symbols) (rows_of_world w) (premises_of w furnace) (places_of cands)
  unfolding answer outcome least_answer least_at
  set_is = rw (e, read w lent furnace cands all_passed)

  set_below : least_set w lent furnace cands < none
  set_below =
      let few = leb-true (length cands) most_candidates (not-false (leb (length cands) most_candidates) all_passed.few) in
      let short : length (places_of cands) ≤ most_candidates = omega (arith, length-map cands place_of) in
      omega (arith, set_is, pow_mono short, least_below (2 * w.board.symbols) (rows_of_world w) (premises_of w furnace) (places_of cands) none_left)

-- ---- the promises

pub least_tells : LeastTells
least_tells w lent furnace cands e =
    (least_is (2 * w.board.symbols) (rows_of_world w) (premises_of w furnace) (places_of cands) (least_set w lent furnace cands)
    (set_below w lent furnace cands e)).0 (sym (set_is w lent furnace cands e))

pub empty_set : EmptySet
empty_set w lent furnace cands e =
    rw (set_is w lent furnace cands e) (empty_exactly (2 * w.board.symbols) (rows_of_world w) (premises_of w furnace) (places_of cands))

-- once the set's candidates are struck off no conflict is left
set_quiet : (w : World) (lent furnace : ℕ) (cands : List ℤ) → outcome w (asks_least lent furnace cands) ≡ Ok tt
    → left w furnace (chosen (places_of cands) (least_set w lent furnace cands)) ≡ false
set_quiet w lent furnace cands e =
    let gone = chosen (places_of cands) (least_set w lent furnace cands) in
    let c = conflict_words (2 * w.board.symbols) (rows_of_world w) (struck_off (premises_of w furnace) gone) in
    false_of (left w furnace gone) (λ k. (least_tells w lent furnace cands e).ends_it (c.0 k))

pub set_ends : SetEnds
set_ends w lent furnace cands e u =
    withdrawn_set w lent furnace cands (all_passed w lent furnace cands e) u (least_set w lent furnace cands) (set_quiet w lent furnace cands e)

pub more_ends : MoreEnds
more_ends w lent furnace cands gone e u apart of Has-All =
    withdrawn_so w lent furnace cands (all_passed w lent furnace cands e) u gone of apart
    (false_of (left w furnace (places_of gone))
    (λ k. clash (no_conflict_more (2 * w.board.symbols) (rows_of_world w) (struck_off held' (places_of gone)) (struck_off held' its)
    (struck_more held' its (places_of gone) with_all) k)
    (set_quiet w lent furnace cands e)))
  where
    held' : List Bool
    held' = premises_of w furnace

    its : List ℕ
    its = chosen (places_of cands) (least_set w lent furnace cands)

    with_all : (x : ℕ) → In x its → In x (places_of gone)
    with_all x i =
        let r =
        in_of_map place_of (chosen cands (least_set w lent furnace cands)) (rw (chosen_map place_of cands (least_set w lent furnace cands)) at i) in
        rw r.2 at (in_map place_of (Has-All r.0 r.1))

pub smaller_leaves : SmallerLeaves
smaller_leaves w lent furnace cands a e u low before =
    withdrawn_set w lent furnace cands (all_passed w lent furnace cands e) u a
    (⊎_elim (λ c. c) (λ c. absurd (no before (least.smallest a low' (ends c)) (least.lowest a low' (ends c))))
    (true_or_false (left w furnace gone)))
  where
    n : ℕ
    n = length (places_of cands)

    m : ℕ
    m = least_set w lent furnace cands

    gone : List ℕ
    gone = chosen (places_of cands) a

    least : Least (2 * w.board.symbols) (rows_of_world w) (premises_of w furnace) (places_of cands) m
    least = least_tells w lent furnace cands e

    low' : a < 2 ^ n
    low' = rw (length-map cands place_of) low

    ends : left w furnace gone ≡ false → Ends (2 * w.board.symbols) (rows_of_world w) (premises_of w furnace) (places_of cands) a
    ends c k = clash ((conflict_words (2 * w.board.symbols) (rows_of_world w) (struck_off (premises_of w furnace) gone)).1 k) c

    no : BySize (size (length cands)) (λ x y. x < y) a m → size n m ≤ size n a → (size n a ≡ size n m → m ≤ a) → ⊥
    no (inl less) le eq = let k = length-map cands place_of in omega (arith, rw (← k) at less)
    no (inr same) le eq = let k = length-map cands place_of in omega (arith, eq (rw (← k) at same.0), same.1)

pub stays_exactly : StaysExactly
unfolding faults least_faults
stays_exactly w lent furnace cands u =
    record {
      refused = λ n. all_left ((refused_exactly w (asks_least lent furnace cands) 18 (omega arith)).0 n);
      done = λ e. withdrawn_all w lent furnace cands (all_passed w lent furnace cands e) u (none_left w lent furnace cands e);
    }
  where
    all_left : FirstGiven 18 (least_faults (front w lent) w.board furnace cands) → Withdrawn w lent furnace cands true
    all_left (here g n) = absurd (omega arith)
    all_left (later a (here g n)) = absurd (omega arith)
    all_left (later a (later b (here g n))) = absurd (omega arith)
    all_left (later a (later b (later c (here g n)))) = absurd (omega arith)
    all_left (later a (later b (later c (later d (here g n))))) = absurd (omega arith)
    all_left (later a (later b (later c (later d (later f (here g n)))))) =
        let p = passed_of w lent furnace cands a b c d f in
        withdrawn_all w lent furnace cands p u (rw (read w lent furnace cands p) at g)
    all_left (later a (later b (later c (later d (later f (later _ x)))))) = elim x [ ]
