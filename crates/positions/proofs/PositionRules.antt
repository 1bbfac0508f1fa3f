-- What `suits` asks of a variable and of a pair table, as facts; and the rule of a variable: what it says, its symbols, and the assignments that it
-- accepts.
use Rattle.meaning.proofs.Kit.{◌≡◌, ◌∙◌, sym, ap, refl, subst, ⊎_elim, inl, inr, ◌⊎◌, true, false, Bool, cond, ◌&&◌, not, ◌||◌, false≢true, or-false}
use Rattle.meaning.proofs.Kit.{List, [], ◌∷◌, map, In, in_cons, in_one, ◌≤◌, ℕ, ◌<◌, ◌-◌, ◌+◌, suc, zero, arith, eqb, leb, length, length-map, eq-eqb}
use Rattle.meaning.proofs.Kit.{not-true, eqb-true, leb-true}
use mathlib.Core.Bool.{or_self}
use Rattle.meaning.specs.Tests.{member, from}
use Rattle.meaning.specs.Literals.{has}
use Rattle.meaning.specs.Formulae.{Formula, value, occurs, inside, symbols_of, look, rule_of}
use Rattle.meaning.specs.Clauses.{satisfiable}
use Rattle.positions.specs.Positions.{Variable, symbols_in, none_of, exactly_one, PairTable, Side, sides, positions, pairs, on_board, symbols_fit}
use Rattle.positions.specs.Positions.{counted, share, well_formed, possible, suits}
use Rattle.positions.specs.Promises.{ExactlyOneSays}
use Rattle.meaning.proofs.Tests.{both_true, clash, any_at, in_member, member_in, from_in, in_from}
use Rattle.meaning.proofs.Tables.{le_or_lt}
use Rattle.meaning.proofs.BySize.{length_from}
use Rattle.meaning.proofs.Literals.{has_below}
use Rattle.meaning.proofs.Formulae.{inside_of, symbols_ascend, symbols_are, look_self}
use Rattle.meaning.proofs.Implicates.{satisfied_by}
use Rattle.meaning.proofs.ClauseRows.{from_ascends}

-- ---- what `suits` tells

-- a variable of 2 to 7 positions whose symbols are of 1 to S
abbrev pub Fits : (S : ℕ) → Variable → Type 0
Fits S x = (1 ≤ x.first) × (x.first + x.count ≤ suc S) × (2 ≤ x.count) × (x.count ≤ 7)

-- one variable ends before the other begins
abbrev pub Apart : Variable → Variable → Type 0
Apart x y = (x.first + x.count ≤ y.first) ⊎ (y.first + y.count ≤ x.first)

pub fits_of : (S : ℕ) (x : Variable) → on_board S x ≡ true → counted x ≡ true → Fits S x
fits_of S x h g =
    let a = both_true (leb 1 x.first && leb x.first S) (leb (x.first + x.count) (suc S)) h in
    let b = both_true (leb 1 x.first) (leb x.first S) a.0 in
    let c = both_true (leb 2 x.count) (leb x.count 7) g in
    (leb-true 1 x.first b.0, leb-true (x.first + x.count) (suc S) a.1, leb-true 2 x.count c.0, leb-true x.count 7 c.1)

-- else the one that begins later begins at a symbol of both
pub apart_of : (x y : Variable) → 2 ≤ x.count → 2 ≤ y.count → share x y ≡ false → Apart x y
apart_of x y a b h = go (le_or_lt (x.first + x.count) y.first) (le_or_lt (y.first + y.count) x.first)
  where
    shared : (s : ℕ) → In s (symbols_in x) → In s (symbols_in y) → Apart x y
    shared s m k = clash (any_at (λ (t : ℕ). member t (symbols_in y)) m (in_member k)) h

    at : (s : ℕ) → x.first ≤ s → s < x.first + x.count → y.first ≤ s → s < y.first + y.count → Apart x y
    at s k l m n = shared s (in_from x.first x.count s k l) (in_from y.first y.count s m n)

    go : (x.first + x.count ≤ y.first) ⊎ (y.first < x.first + x.count)
        → (y.first + y.count ≤ x.first) ⊎ (x.first < y.first + y.count) → Apart x y
    go (inl l) r = inl l
    go (inr l) (inl r) = inr r
    go (inr l) (inr r) =
        ⊎_elim (λ c. at y.first c l (omega arith) (omega arith)) (λ c. at x.first (omega arith) (omega arith) (omega arith) r)
        (le_or_lt x.first y.first)

pub suits_variable : (S : ℕ) (x : Variable) → suits S (positions x) ≡ true → Fits S x
unfolding symbols_fit well_formed possible
suits_variable S x h =
    let a = both_true (on_board S x && counted x) true h in
    let b = both_true (on_board S x) (counted x) a.0 in
    fits_of S x b.0 b.1

pub suits_pairs : (S : ℕ) (t : PairTable) → suits S (pairs t) ≡ true → Fits S t.one × Fits S t.other × Apart t.one t.other
unfolding symbols_fit well_formed
suits_pairs S t h =
    let x = t.one in
    let y = t.other in
    let a = both_true ((on_board S x && on_board S y) && (counted x && counted y && not (share x y))) (possible (pairs t)) h in
    let b = both_true (on_board S x && on_board S y) (counted x && counted y && not (share x y)) a.0 in
    let c = both_true (on_board S x) (on_board S y) b.0 in
    let d = both_true (counted x && counted y) (not (share x y)) b.1 in
    let e = both_true (counted x) (counted y) d.0 in
    let one = fits_of S x c.0 e.0 in
    let other = fits_of S y c.1 e.1 in
    (one, other, apart_of x y one.2 other.2 (not-true (share x y) d.1))

-- the same of a side
pub record FitSide (S : ℕ) (s : Side) : Type 0 where
  pub own : Fits S s.own
  pub partner : Fits S s.partner
  pub apart : Apart s.own s.partner

pub side_fits : (S : ℕ) (t : PairTable) (s : Side) → suits S (pairs t) ≡ true → In s (sides t) → FitSide S s
side_fits S t s h m =
    let r = suits_pairs S t h in
    ⊎_elim (λ e. subst (FitSide S) (sym e) (record { own = r.0; partner = r.1; apart = r.2 }))
    (λ n. subst (FitSide S) (sym (in_one n)) (record { own = r.1; partner = r.0; apart = ⊎_elim inr inl r.2 }))
    (in_cons m)

-- ---- a variable: exactly one of its symbols is true

-- by the first: none of the others, or exactly one of them
abbrev pub none_true : List Bool → Bool
none_true [] = true
none_true (b ∷ a) = cond b false (none_true a)

abbrev pub one_true : List Bool → Bool
one_true [] = false
one_true (b ∷ a) = cond b (none_true a) (one_true a)

none_value : (e : ℕ → Bool) (s n : ℕ) → value e (none_of s n) ≡ none_true (map e (from s (suc n)))
unfolding value none_of
none_value e s zero = go (e s)
  where
    go : (b : Bool) → not b ≡ cond b false true
    go true = refl
    go false = refl
none_value e s (suc n) = go (e s) (none_value e (suc s) n)
  where
    go : (b : Bool) {x y : Bool} → x ≡ y → not b && x ≡ cond b false y
    go true h = refl
    go false h = h

one_value : (e : ℕ → Bool) (s n : ℕ) → value e (exactly_one s n) ≡ one_true (map e (from s (suc n)))
unfolding value exactly_one
one_value e s zero = go (e s)
  where
    go : (b : Bool) → b ≡ cond b true false
    go true = refl
    go false = refl
one_value e s (suc n) = go (e s) (none_value e (suc s) n) (one_value e (suc s) n)
  where
    go : (b : Bool) {w x y z : Bool} → w ≡ x → y ≡ z → (b && w) || (not b && y) ≡ cond b x z
    go true {w} h k = or-false w ∙ h
    go false h k = k

-- what the values in order have
none_has : (a : List Bool) → none_true a ≡ true → (i : ℕ) → has a i ≡ true → ⊥
none_has [] h i e = false≢true e
none_has (true ∷ a) h i e = false≢true h
none_has (false ∷ a) h zero e = false≢true e
none_has (false ∷ a) h (suc i) e = none_has a h i e

has_none : (a : List Bool) → ((i : ℕ) → has a i ≡ true → ⊥) → none_true a ≡ true
has_none [] f = refl
has_none (true ∷ a) f = absurd (f zero refl)
has_none (false ∷ a) f = has_none a (λ i e. f (suc i) e)

abbrev Only : List Bool → ℕ → Type 0
Only a i = (has a i ≡ true) × ((j : ℕ) → has a j ≡ true → j ≡ i)

one_has : (a : List Bool) → one_true a ≡ true → (i : ℕ) × Only a i
one_has [] h = absurd (false≢true h)
one_has (true ∷ a) h = (zero, (refl, only))
  where
    only : (j : ℕ) → has (true ∷ a) j ≡ true → j ≡ zero
    only zero e = refl
    only (suc j) e = absurd (none_has a h j e)
one_has (false ∷ a) h = let r = one_has a h in (suc r.0, (r.1.0, later r.0 r.1.1))
  where
    later : (i : ℕ) → ((j : ℕ) → has a j ≡ true → j ≡ i) → (j : ℕ) → has (false ∷ a) j ≡ true → j ≡ suc i
    later i only zero e = absurd (false≢true e)
    later i only (suc j) e = ap suc (only j e)

has_one : (a : List Bool) (i : ℕ) → Only a i → one_true a ≡ true
has_one [] i o = absurd (false≢true o.0)
has_one (true ∷ a) zero o = has_none a (λ j e. omega (arith, o.1 (suc j) e))
has_one (true ∷ a) (suc i) o = absurd (omega (arith, o.1 zero refl))
has_one (false ∷ a) zero o = absurd (false≢true o.0)
has_one (false ∷ a) (suc i) o = has_one a i (o.0, λ j e. omega (arith, o.1 (suc j) e))

has_values : (e : ℕ → Bool) (s n i : ℕ) → i < n → has (map e (from s n)) i ≡ e (s + i)
has_values e s zero i l = absurd (omega arith)
has_values e s (suc n) zero l = ap e (omega arith)
has_values e s (suc n) (suc i) l = has_values e (suc s) n i (omega arith) ∙ ap e (omega arith)

pub exactly_one_says : ExactlyOneSays
exactly_one_says e s n = (to, back)
  where
    a : List Bool
    a = map e (from s (suc n))

    below : (i : ℕ) → has a i ≡ true → i ≤ n
    below i h = omega (arith, has_below a i h, length-map (from s (suc n)) e, length_from s (suc n))

    is : (i : ℕ) → i ≤ n → has a i ≡ e (s + i)
    is i l = has_values e s (suc n) i (omega arith)

    to : value e (exactly_one s n) ≡ true → (i : ℕ) × (i ≤ n) × (e (s + i) ≡ true) × ((j : ℕ) → j ≤ n → e (s + j) ≡ true → j ≡ i)
    to h =
        let r = one_has a (sym (one_value e s n) ∙ h) in
        let l = below r.0 r.1.0 in
        (r.0, l, sym (is r.0 l) ∙ r.1.0, λ j k q. r.1.1 j (is j k ∙ q))

    back : (i : ℕ) × (i ≤ n) × (e (s + i) ≡ true) × ((j : ℕ) → j ≤ n → e (s + j) ≡ true → j ≡ i) → value e (exactly_one s n) ≡ true
    back w =
        one_value e s n
        ∙ has_one a w.0 (is w.0 w.1 ∙ w.2, λ j h. let l = below j h in w.3 j l (sym (is j l) ∙ h))

-- ---- its symbols

none_occurs : (t s n : ℕ) → occurs t (none_of s n) ≡ member t (from s (suc n))
unfolding occurs none_of
none_occurs t s zero = sym (or-false (eqb s t))
none_occurs t s (suc n) = ap (λ (b : Bool). eqb s t || b) (none_occurs t (suc s) n)

one_occurs : (t s n : ℕ) → occurs t (exactly_one s n) ≡ member t (from s (suc n))
unfolding occurs exactly_one
one_occurs t s zero = sym (or-false (eqb s t))
one_occurs t s (suc n) = rw (none_occurs t (suc s) n, one_occurs t (suc s) n) (or_self (member t (from s (suc (suc n)))))

module _ (S : ℕ) (x : Variable) (ok : suits S (positions x) ≡ true) where
  abbrev formula : Formula
  formula = exactly_one x.first (x.count - 1)

  count_is : suc (x.count - 1) ≡ x.count
  count_is = omega (arith, (suits_variable S x ok).2)

  variable_occurs : (s : ℕ) → occurs s formula ≡ member s (symbols_in x)
  variable_occurs s = one_occurs s x.first (x.count - 1) ∙ ap (λ (n : ℕ). member s (from x.first n)) count_is

  pub variable_inside : inside S formula ≡ true
  variable_inside =
      inside_of S formula
      (λ s o. (let r = from_in x.first x.count s (member_in s (symbols_in x) (sym (variable_occurs s) ∙ o)) in
      let f = suits_variable S x ok in (omega arith, omega arith)))

  pub variable_symbols : symbols_of S (exactly_one x.first (x.count - 1)) ≡ symbols_in x
  variable_symbols =
      symbols_are S formula (symbols_in x) variable_inside (from_ascends 0 x.first x.count (suits_variable S x ok).0)
      (λ s o. member_in s (symbols_in x) (sym (variable_occurs s) ∙ o)) (λ s m. variable_occurs s ∙ in_member m)

  pub variable_count : length (symbols_of S (exactly_one x.first (x.count - 1))) ≡ x.count
  variable_count = ap length variable_symbols ∙ length_from x.first x.count

  -- ---- its assignments

  pub variable_accepts : (a : List Bool) → length a ≡ x.count → (rule_of S (exactly_one x.first (x.count - 1))).accepts a ≡ one_true a
  variable_accepts a l =
      let symbols = symbols_of S formula in
      one_value (look symbols a) x.first (x.count - 1)
      ∙ ap (λ (n : ℕ). one_true (map (look symbols a) (from x.first n))) count_is
      ∙ ap (λ (ss : List ℕ). one_true (map (look symbols a) ss)) (sym variable_symbols)
      ∙ ap one_true (look_self 0 symbols a (symbols_ascend S formula) (l ∙ sym variable_count))

  -- the first position alone satisfies it
  pub variable_satisfiable : satisfiable (rule_of S (exactly_one x.first (x.count - 1))) ≡ true
  variable_satisfiable =
      satisfied_by S formula (λ s. eqb s x.first) variable_inside
      ((exactly_one_says (λ s. eqb s x.first) x.first (x.count - 1)).1
      (0, omega arith, eq-eqb (x.first + 0) x.first (omega arith), λ j l e. omega (arith, eqb-true (x.first + j) x.first e)))
