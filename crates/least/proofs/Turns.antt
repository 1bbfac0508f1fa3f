-- One turn of each loop: the candidates that are marked; and the search, a set further.
use Rattle.meaning.proofs.Kit.{◌≡◌, ◌∙◌, sym, ap, refl, subst, ap₂, ⊎_elim, inl, inr, ◌⊎◌, true, false, Bool, cond, ◌&&◌, not, List, [], ◌∷◌, ◌++◌}
use Rattle.meaning.proofs.Kit.{In, in_nil, in_cons, in_append, ◌≤◌, ℕ, ◌<◌, ◌-◌, ◌+◌, suc, ◌*◌, ◌^◌, add-one, arith, eqb, ltb, pow_mono, length, get_or}
use Rattle.meaning.proofs.Kit.{drop, take, set, length-set, length-drop, drop_of_length-le, drop-cons, get_or-set_same, take-suc, eq-eqb, not-false}
use Rattle.meaning.proofs.Kit.{eqb-true, ltb-true}
use lib.Bits.{bit_and}
use lib.Seq.{take-set-le}
use Rattle.std.specs.Int.{from_bool}
use Rattle.candidates.specs.Sets.{size}
use Rattle.std.specs.Prelude.{Option, Some}
use Rattle.std.specs.Option.{is_some}
use Rattle.meaning.proofs.Tests.{any_found, clash}
use Rattle.meaning.proofs.Tables.{le_or_lt}
use Rattle.candidates.proofs.ChosenSets.{passing_below}
use Rattle.least.specs.Effects.{marked_set}
use Rattle.least.specs.Search.{misses_one, worth_trying, Searched}
use Rattle.least.proofs.Sizes.{size_low, size_high}

-- ---- the candidates from i on that are marked

module _ (marks places : List ℕ) (i : ℕ) where
  pub marked_end : length places ≤ i → marked_set marks (drop i places) ≡ 0
  marked_end l = rw (drop_of_length-le places {i = i} l)

  pub marked_more : 0 < i → i ≤ length places
      → marked_set marks (drop (i - 1) places) ≡ cond (eqb (get_or marks (get_or places (i - 1) 0) 0) 1) 1 0 + 2 * marked_set marks (drop i places)
  marked_more h l =
      let e : suc (i - 1) ≡ i = omega arith in
      ap (marked_set marks) (drop-cons places (i - 1) 0 (omega arith))
      ∙ ap (λ (k : ℕ). cond (eqb (get_or marks (get_or places (i - 1) 0) 0) 1) 1 0 + 2 * marked_set marks (drop k places)) e

  pub marked_few : length places ≤ 12 → marked_set marks (drop i places) < 4096
  marked_few l =
      let short : length (drop i places) ≤ 12 = omega (arith, length-drop i places) in
      let most : 2 ^ length (drop i places) ≤ 4096 = pow_mono short in
      omega (arith, passing_below (λ p. eqb (get_or marks p 0) 1) (drop i places))

-- a flag as a bit
pub record Bit (b : Bool) : Type 0 where
  pub is : from_bool b ≡ cond b 1 0
  pub small : from_bool b ≤ 1

pub bit_of : (b : Bool) → Bit b
bit_of true = record { is = refl; small = omega arith }
bit_of false = record { is = refl; small = omega arith }

-- ---- the search

-- one core more, and those before it; where there is no room, those before it
kept_more : (cores : List ℕ) (k core c : ℕ) → k ≤ length cores
    → In c (take (cond (ltb k (length cores)) (k + 1) k) (set cores k core)) → In c (take k cores) ⊎ (c ≡ core)
kept_more cores k core c l h = go (ltb k (length cores)) refl h
  where
    now : List ℕ
    now = set cores k core

    go : (t : Bool) → ltb k (length cores) ≡ t → In c (take (cond t (k + 1) k) now) → In c (take k cores) ⊎ (c ≡ core)
    go true e h =
        let fits = ltb-true k (length cores) e in
        let split : take (k + 1) now ≡ take k cores ++ (core ∷ []) =
        ap (λ (j : ℕ). take j now) (add-one k) ∙ take-suc now k 0 (rw length-set fits)
        ∙ ap₂ (λ (xs : List ℕ) (x : ℕ). xs ++ (x ∷ [])) (take-set-le k cores k core (omega arith)) (get_or-set_same cores k core 0 fits) in
        ⊎_elim (λ m. inl m) (λ m. ⊎_elim (λ q. inr q) (λ j. absurd (in_nil j)) (in_cons m)) (in_append (take k cores) (subst (In c) split h))
    go false e h = inl (subst (In c) (take-set-le k cores k core (omega arith)) h)

kept_room : (k n : ℕ) → k ≤ n → cond (ltb k n) (k + 1) k ≤ n
kept_room k n l = go (ltb k n) refl
  where
    go : (t : Bool) → ltb k n ≡ t → cond t (k + 1) k ≤ n
    go true e = omega (arith, ltb-true k n e)
    go false e = l

module _ (ends : ℕ → Bool) (n k m known : ℕ) (cores : List ℕ) (s : Searched ends n k m known cores) where
  -- where a set is passed over: it has not k candidates, or it leaves a conflict
  one_further : (size n m ≡ k → ends m ≡ false) → (a : ℕ) → a < suc m → size n a ≡ k → ends a ≡ false
  one_further leaves a h e = ⊎_elim (λ (l : m ≤ a). let q : a ≡ m = omega arith in rw q (leaves (rw q at e))) (λ l. s.lower a l e) (le_or_lt m a)

  -- a set that is not worth trying
  pub passed_over : worth_trying (take known cores) n k m ≡ false → Searched ends n k (suc m) known cores
  passed_over e = record { smaller = s.smaller; lower = one_further no; room = s.room; missed = s.missed }
    where
      misses : Bool
      misses = misses_one (take known cores) m

      no : size n m ≡ k → ends m ≡ false
      no q =
          let some : misses ≡ true = not-false misses (sym (ap (λ (t : Bool). t && not misses) (eq-eqb (size n m) k q)) ∙ e) in
          let r = any_found (λ core. eqb (bit_and core m) 0) (take known cores) some in
          s.missed r.0 m r.1 (eqb-true (bit_and r.0 m) 0 r.2)

  -- one that is tried and leaves a conflict: there is one core more
  pub core_found : (core : ℕ) → ends m ≡ false → ((a : ℕ) → bit_and core a ≡ 0 → ends a ≡ false)
      → Searched ends n k (suc m) (cond (ltb known (length cores)) (known + 1) known) (set cores known core)
  core_found core t f =
      record {
        smaller = s.smaller;
        lower = one_further (λ q. t);
        room = rw length-set (kept_room known (length cores) s.room);
        missed = λ c a h z. ⊎_elim (λ i. s.missed c a i z) (λ e. f a (rw (← e) z)) (kept_more cores known core c s.room h);
      }

module _ (ends : ℕ → Bool) (n k known : ℕ) (cores : List ℕ) where
  -- the sets of k candidates begin where the k lowest bits are set,
  pub size_begun : Searched ends n k 0 known cores → Searched ends n k (2 ^ k - 1) known cores
  size_begun s =
      record {
        smaller = s.smaller;
        lower = λ a h e. absurd (omega (arith, h, size_low n a, ap (λ (j : ℕ). 2 ^ j) e));
        room = s.room;
        missed = s.missed;
      }

  -- and end where the k highest are
  pub size_searched : (m : ℕ) → 2 ^ n - 2 ^ (n - k) < m → Searched ends n k m known cores → Searched ends n (suc k) 0 known cores
  size_searched m end s =
      record {
        smaller = λ a l h. ⊎_elim (λ (le : k ≤ size n a). last a l (omega arith)) (λ less. s.smaller a l less) (le_or_lt k (size n a));
        lower = λ a h e. absurd (omega arith);
        room = s.room;
        missed = s.missed;
      }
    where
      last : (a : ℕ) → a < 2 ^ n → size n a ≡ k → ends a ≡ false
      last a l e = s.lower a (omega (arith, end, size_high n a l, ap (λ (j : ℕ). 2 ^ (n - j)) e)) e

-- a search that goes on has found no set
pub found_or_not : {found : Option ℕ} {m : ℕ} {t : Bool} {X : Type 0} → t ≡ is_some found → found ≡ Some m → t ≡ false → X
found_or_not e f g = clash (e ∙ ap is_some f) g

-- the same under other names
pub searched_as : {ends : ℕ → Bool} {n j k m known now : ℕ} {cores later : List ℕ} → j ≡ k → later ≡ cores → now ≡ known
    → Searched ends n j (suc m) known cores → Searched ends n k (m + 1) now later
searched_as {m = m} e f g x = rw (add-one m, ← e, f, g) x
