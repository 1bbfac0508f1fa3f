-- 02, Ticket 12: which set is the least to withdraw, when there is none, and which sets leave a conflict that blame has found.
use Rattle.meaning.proofs.Kit.{◌≡◌, ◌∙◌, sym, ap, refl, ⊎_elim, inl, inr, ◌↔◌, true, false, Bool, false≢true, List, [], ◌∷◌, In, in_nil, in_cons, ◌≤◌}
use Rattle.meaning.proofs.Kit.{ℕ, ◌<◌, suc, ◌*◌, zero, ◌^◌, one-le-pow, arith, length, set, not-true}
use Rattle.meaning.specs.Tests.{none}
use Rattle.meaning.specs.Literals.{has, Within, conflict}
use Rattle.meaning.specs.Rounds.{derived}
use Rattle.meaning.specs.Ground.{struck_off, blame}
use Rattle.candidates.specs.Sets.{chosen, size, passing}
use Rattle.least.specs.Least.{ends, least}
use Rattle.least.specs.Promises.{Ends, Least, LeastIs, EmptyExactly, EndsMore, NoneExactly}
use Rattle.meaning.proofs.Tests.{true_or_false, not_intro, false_of, clash, in_keep}
use Rattle.meaning.proofs.Tables.{le_or_lt, Ahead, SmallestIs, smallest_only}
use Rattle.meaning.proofs.Growth.{no_conflict_more}
use Rattle.meaning.proofs.Unmoved.{struck_fewer, struck_keeps}
use Rattle.meaning.proofs.Blame.{blame_held, blame_enough}
use Rattle.candidates.proofs.ChosenSets.{Apart, chosen_are, chosen_in, chosen_inside, size_none, passing_below, passing_chosen, passing_bit}
use Rattle.candidates.proofs.ChosenSets.{first_set}
use Rattle.meaning.proofs.Derived.{conflict_words}

-- ---- premises struck off

set_out : (held : List Bool) (h : ℕ) → has (set held h false) h ≡ true → ⊥
set_out [] h e = false≢true e
set_out (b ∷ held) zero e = false≢true e
set_out (b ∷ held) (suc h) e = set_out held h e

-- are not held,
struck_out : (held : List Bool) (gone : List ℕ) (p : ℕ) → In p gone → has (struck_off held gone) p ≡ true → ⊥
struck_out held [] p m e = in_nil m
struck_out held (h ∷ gone) p m e =
    ⊎_elim (λ q. set_out held p (struck_fewer (set held p false) gone p (rw (← q) at e)))
    (λ j. struck_out (set held h false) gone p j e) (in_cons m)

-- and the more of them, the less is left
pub struck_more : (held : List Bool) (less more : List ℕ) → ((x : ℕ) → In x less → In x more) → Within (struck_off held more) (struck_off held less)
struck_more held less more f p e = struck_keeps held less p (struck_fewer held more p e) (λ m. struck_out held more p (f p m) e)

-- ---- the conflict ends, or is left

module _ (places : ℕ) (rows : List (List ℕ)) (held : List Bool) (cands : List ℕ) where
  -- what is in conflict once a set is struck off
  abbrev left : List ℕ → Bool
  left gone = conflict (derived places rows (struck_off held gone))

  pub ends_of : (m : ℕ) → conflict (derived places rows (struck_off held (chosen cands m))) ≡ false → ends places rows held cands m ≡ true
  unfolding ends
  ends_of m e = not_intro (left (chosen cands m)) e

  pub of_ends : (m : ℕ) → ends places rows held cands m ≡ true → conflict (derived places rows (struck_off held (chosen cands m))) ≡ false
  unfolding ends
  of_ends m e = not-true (left (chosen cands m)) e

  -- the test says what the words say
  ends_words : (m : ℕ) → (ends places rows held cands m ≡ true) ↔ Ends places rows held cands m
  ends_words m =
      let c = conflict_words places rows (struck_off held (chosen cands m)) in
      (λ e k. clash (c.1 k) (of_ends m e), λ k. ends_of m (false_of (left (chosen cands m)) (λ e. k (c.0 e))))

  -- where more is struck off, what is left is no more in conflict
  less_left : (less more : List ℕ) → ((x : ℕ) → In x less → In x more) → left less ≡ false → left more ≡ false
  less_left less more f e =
      false_of (left more)
      (λ c. clash (no_conflict_more places rows (struck_off held more) (struck_off held less) (struck_more held less more f) c) e)

  -- by the sets' order
  least_first : SmallestIs (ends places rows held cands) (size (length cands)) (2 ^ length cands) (least places rows held cands)
  unfolding least
  least_first = first_set (length cands) (ends places rows held cands)

  -- as a search by size, then by number, finds it: no smaller set ends the conflict, and none of that size with a smaller number; or none does
  pub least_found : (m : ℕ) → m < 2 ^ length cands → ends places rows held cands m ≡ true
      → ((a : ℕ) → a < 2 ^ length cands → size (length cands) a < size (length cands) m → ends places rows held cands a ≡ false)
      → ((a : ℕ) → a < m → size (length cands) a ≡ size (length cands) m → ends places rows held cands a ≡ false)
      → least places rows held cands ≡ m
  least_found m l e smaller lower =
      smallest_only (ends places rows held cands) (size (length cands)) (2 ^ length cands) _ m least_first (inl (l, e, λ a la ea. ahead a la ea))
    where
      ahead : (a : ℕ) → a < 2 ^ length cands → ends places rows held cands a ≡ true → Ahead (size (length cands)) m a
      ahead a la ea = (
        ⊎_elim (λ h. h) (λ h. clash ea (smaller a la h)) (le_or_lt (size (length cands) m) (size (length cands) a)),
        λ same. ⊎_elim (λ h. h) (λ h. clash ea (lower a h same)) (le_or_lt m a),
      )

  pub least_none : ((a : ℕ) → a < 2 ^ length cands → ends places rows held cands a ≡ false) → least places rows held cands ≡ none
  least_none never = smallest_only (ends places rows held cands) (size (length cands)) (2 ^ length cands) _ none least_first (inr (refl, never))

-- ---- the promises

pub ends_more : EndsMore
ends_more places rows held cands a b w e =
    ends_of places rows held cands b
    (less_left places rows held cands (chosen cands a) (chosen cands b) (λ x m. chosen_inside cands a b w m) (of_ends places rows held cands a e))

pub least_is : LeastIs
least_is places rows held cands m small = (λ e. rw e at (found e), only)
  where
    n : ℕ
    n = length cands

    r : ℕ
    r = least places rows held cands

    words : (a : ℕ) → (ends places rows held cands a ≡ true) ↔ Ends places rows held cands a
    words a = ends_words places rows held cands a

    found : r ≡ m → Least places rows held cands r
    found e =
        ⊎_elim
        (λ f. record {
          of_them = f.0;
          ends_it = (words r).0 f.1;
          smallest = λ a l w. (f.2 a l ((words a).1 w)).0;
          lowest = λ a l w. (f.2 a l ((words a).1 w)).1;
        })
        (λ f. absurd (omega (arith, f.0)))
        (least_first places rows held cands)

    only : Least places rows held cands m → r ≡ m
    only x =
        smallest_only (ends places rows held cands) (size n) (2 ^ n) r m (least_first places rows held cands)
        (inl (x.of_them, (words m).1 x.ends_it, λ a l w. (x.smallest a l ((words a).0 w), x.lowest a l ((words a).0 w))))

-- the empty set has no candidate, and that of all has all
chosen_none : (cands : List ℕ) → chosen cands 0 ≡ []
chosen_none [] = refl
chosen_none (c ∷ cands) = chosen_none cands

abbrev all_of : List ℕ → ℕ
all_of cands = passing (λ c. true) cands

in_all : (cands : List ℕ) (x : ℕ) → In x cands → In x (chosen cands (all_of cands))
in_all cands x m = rw (passing_chosen (λ c. true) cands) (in_keep (λ c. true) m refl)

pub empty_exactly : EmptyExactly
empty_exactly places rows held cands = (to, back)
  where
    n : ℕ
    n = length cands

    nothing : conflict (derived places rows (struck_off held (chosen cands 0))) ≡ conflict (derived places rows held)
    nothing = ap (λ (gone : List ℕ). conflict (derived places rows (struck_off held gone))) (chosen_none cands)

    to : least places rows held cands ≡ 0 → conflict (derived places rows held) ≡ false
    to e =
        ⊎_elim (λ f. sym nothing ∙ of_ends places rows held cands 0 (rw e at f.1)) (λ f. absurd (omega (arith, f.0)))
        (least_first places rows held cands)

    back : conflict (derived places rows held) ≡ false → least places rows held cands ≡ 0
    back c =
        let e = ends_of places rows held cands 0 (nothing ∙ c) in
        smallest_only (ends places rows held cands) (size n) (2 ^ n) _ 0 (least_first places rows held cands)
        (inl (one-le-pow n 2 (omega arith), e, λ a l w. (omega (arith, size_none n), λ s. omega arith)))

-- where all of them end the conflict, the set of all does
all_end : (places : ℕ) (rows : List (List ℕ)) (held : List Bool) (cands : List ℕ)
    → conflict (derived places rows (struck_off held cands)) ≡ false → ends places rows held cands (all_of cands) ≡ true
all_end places rows held cands quiet =
    ends_of places rows held cands (all_of cands) (less_left places rows held cands cands (chosen cands (all_of cands)) (in_all cands) quiet)

pub none_exactly : NoneExactly
none_exactly places rows held cands few = (to, back)
  where
    n : ℕ
    n = length cands

    to : least places rows held cands ≡ none → conflict (derived places rows (struck_off held cands)) ≡ true
    to e =
        ⊎_elim (λ f. absurd (omega (arith, f.0)))
        (λ f. ⊎_elim (λ c. c)
        (λ c. clash (all_end places rows held cands c) (f.1 (all_of cands) (passing_below (λ c. true) cands)))
        (true_or_false (conflict (derived places rows (struck_off held cands)))))
        (least_first places rows held cands)

    back : conflict (derived places rows (struck_off held cands)) ≡ true → least places rows held cands ≡ none
    back c =
        let r = least places rows held cands in
        ⊎_elim
        (λ f. clash c (less_left places rows held cands (chosen cands r) cands (λ x h. chosen_in cands r h)
        (of_ends places rows held cands r f.1)))
        (λ f. f.0)
        (least_first places rows held cands)

-- where withdrawing all of them ends the conflict there is one
pub least_below : (places : ℕ) (rows : List (List ℕ)) (held : List Bool) (cands : List ℕ)
    → conflict (derived places rows (struck_off held cands)) ≡ false → least places rows held cands < 2 ^ length cands
least_below places rows held cands quiet =
    ⊎_elim (λ f. f.0) (λ f. clash (all_end places rows held cands quiet) (f.1 (all_of cands) (passing_below (λ c. true) cands)))
    (least_first places rows held cands)

-- ---- a conflict that blame has found

-- the candidates that a conflict stands on, with a set struck off: one that has none of them leaves it
pub leaves_it : (symbols : ℕ) (rows : List (List ℕ)) (held : List Bool) (cands : List ℕ) (a m : ℕ) → 2 * symbols < none → length rows ≤ none
    → conflict (derived (2 * symbols) rows (struck_off held (chosen cands a))) ≡ true
    → Apart (passing (has (blame symbols rows (struck_off held (chosen cands a)))) cands) m
    → ends (2 * symbols) rows held cands m ≡ false
leaves_it symbols rows held cands a m small few c apart =
    false_of (ends (2 * symbols) rows held cands m)
    (λ e. clash (blame_enough symbols rows rows before now small few c (λ row r. r) still) (of_ends (2 * symbols) rows held cands m e))
  where
    before : List Bool
    before = struck_off held (chosen cands a)

    now : List Bool
    now = struck_off held (chosen cands m)

    marks : List Bool
    marks = blame symbols rows before

    still : Within marks now
    still x e =
        struck_keeps held (chosen cands m) x (struck_fewer held (chosen cands a) x (blame_held symbols rows before small few c x e)) out
      where
        out : In x (chosen cands m) → ⊥
        out h =
            let r = (chosen_are cands m x).0 h in
            apart r.0 (passing_bit (has marks) cands r.0 r.1 ∙ ap (has marks) r.2 ∙ e) r.3
