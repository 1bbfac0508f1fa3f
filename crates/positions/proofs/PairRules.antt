-- The rule of a position in a pair table: what it says and its symbols. And a board accepts the rules of whatever suits it.
use Rattle.meaning.proofs.Kit.{◌≡◌, ◌∙◌, sym, ap, refl, subst, ⊎_elim, inl, inr, ◌⊎◌, true, false, Bool, cond, ◌&&◌, not, ◌||◌, or-false, or_assoc}
use Rattle.meaning.proofs.Kit.{List, [], ◌∷◌, ◌++◌, map, In, here, there, in_cons, in_of_map, in_map, in_append_left, in_append_right}
use Rattle.meaning.proofs.Kit.{in_append, in_one, ◌≤◌, ℕ, ◌<◌, ◌-◌, ◌+◌, suc, zero, arith, eqb, leb, ltb, length, length-append, length-map, not-true}
use Rattle.meaning.proofs.Kit.{le-leb, ltb-true, ltb-false}
use Rattle.meaning.specs.Tests.{any, keep, member, from}
use Rattle.meaning.specs.Formulae.{Formula, value, occurs, inside, symbols_of, rule_of}
use Rattle.meaning.specs.Clauses.{satisfiable}
use Rattle.meaning.specs.SecondWay.{accepted}
use Rattle.positions.specs.Positions.{symbol_at, exactly_one, Side, first_side, second_side, partners, false_or, pair_clause, pair_clauses, positions}
use Rattle.positions.specs.Positions.{pairs, formulae_of}
use Rattle.positions.specs.Promises.{PairClauseSays, EntryAccepted}
use Rattle.meaning.proofs.Tests.{and_intro, one_true_lem, or_left, or_right, not_intro, any_found, any_at, all_of, in_keep, keep_in, in_member, member_in}
use Rattle.meaning.proofs.Tests.{from_in, in_from}
use Rattle.meaning.proofs.BySize.{length_from, keep_le}
use Rattle.meaning.proofs.Formulae.{inside_of, Ascending, symbols_are}
use Rattle.meaning.proofs.Implicates.{satisfied_by}
use Rattle.positions.proofs.Turns.{made_in}
use Rattle.positions.proofs.PositionRules.{FitSide, side_fits, suits_variable, variable_inside, variable_count, variable_satisfiable}

-- ---- the partners of a position

-- a position that it may stand with is one,
pub in_partners : (s : Side) (i j : ℕ) → j < s.partner.count → s.may i j ≡ true → In (symbol_at s.partner j) (partners s i)
in_partners s i j l h = in_map (symbol_at s.partner) (in_keep (s.may i) (in_from 0 s.partner.count j (omega arith) (omega arith)) h)

-- and there is no other
pub partners_in : (s : Side) (i t : ℕ) → In t (partners s i) → (j : ℕ) × (j < s.partner.count) × (s.may i j ≡ true) × (t ≡ symbol_at s.partner j)
partners_in s i t m =
    let r = in_of_map (symbol_at s.partner) (keep (s.may i) (from 0 s.partner.count)) m in
    let k = keep_in (s.may i) (from 0 s.partner.count) r.1 in
    let b = from_in 0 s.partner.count r.0 k.0 in
    (r.0, omega arith, k.1, sym r.2)

shifted_ascends : (b : ℕ) (test : ℕ → Bool) (m k n : ℕ) → m < b + k → Ascending m (map (λ j. b + j) (keep test (from k n)))
shifted_ascends b test m k zero h = tt
shifted_ascends b test m k (suc n) h =
    go (test k) (shifted_ascends b test (b + k) (suc k) n (omega arith)) (shifted_ascends b test m (suc k) n (omega arith))
  where
    rest : List ℕ
    rest = keep test (from (suc k) n)

    go : (t : Bool) → Ascending (b + k) (map (λ j. b + j) rest) → Ascending m (map (λ j. b + j) rest)
        → Ascending m (map (λ j. b + j) (cond t (k ∷ rest) rest))
    go true r o = (h, r)
    go false r o = o

-- ---- what the clause says

clause_value : (e : ℕ → Bool) (s : ℕ) (ts : List ℕ) → value e (false_or s ts) ≡ any e ts || not (e s)
unfolding value false_or
clause_value e s [] = refl
clause_value e s (t ∷ ts) = ap (λ (b : Bool). e t || b) (clause_value e s ts) ∙ sym (or_assoc (e t) (any e ts) (not (e s)))

-- of the position's own symbol and of its partners
pub pair_value : (e : ℕ → Bool) (s : Side) (i : ℕ) → value e (pair_clause s i) ≡ any e (partners s i) || not (e (symbol_at s.own i))
pair_value e s i = clause_value e (symbol_at s.own i) (partners s i)

pub pair_clause_says : PairClauseSays
pair_clause_says e s i = (to, back)
  where
    some : Bool
    some = any e (partners s i)

    away : Bool
    away = not (e (symbol_at s.own i))

    Partner : Type 0
    Partner = (j : ℕ) × (j < s.partner.count) × (s.may i j ≡ true) × (e (symbol_at s.partner j) ≡ true)

    found : (t : ℕ) → In t (partners s i) → e t ≡ true → Partner
    found t m h = let r = partners_in s i t m in (r.0, r.1, r.2, ap e (sym r.3) ∙ h)

    to : value e (pair_clause s i) ≡ true → (e (symbol_at s.own i) ≡ false) ⊎ Partner
    to h =
        ⊎_elim (λ p. inr (let r = any_found e (partners s i) p in found r.0 r.1 r.2)) (λ n. inl (not-true (e (symbol_at s.own i)) n))
        (one_true_lem some away (sym (pair_value e s i) ∙ h))

    back : (e (symbol_at s.own i) ≡ false) ⊎ Partner → value e (pair_clause s i) ≡ true
    back (inl h) = pair_value e s i ∙ or_right some away (not_intro (e (symbol_at s.own i)) h)
    back (inr w) = pair_value e s i ∙ or_left some away (any_at e (in_partners s i w.0 w.1 w.2) w.3)

-- ---- its symbols

module _ {A : Type 0} where
  -- an element put before a list or after it
  abbrev pub beside : (before : Bool) → A → List A → List A
  beside before x xs = cond before (x ∷ xs) (xs ++ x ∷ [])

  pub beside_in : (b : Bool) (x y : A) (xs : List A) → In y (beside b x xs) → (y ≡ x) ⊎ In y xs
  beside_in true x y xs m = in_cons m
  beside_in false x y xs m = ⊎_elim inr (λ n. inl (in_one n)) (in_append xs m)

  pub in_beside_itself : (b : Bool) (x : A) (xs : List A) → In x (beside b x xs)
  in_beside_itself true x xs = here refl
  in_beside_itself false x xs = in_append_right xs (here refl)

  pub in_beside_rest : (b : Bool) (x y : A) (xs : List A) → In y xs → In y (beside b x xs)
  in_beside_rest true x y xs m = there m
  in_beside_rest false x y xs m = in_append_left (x ∷ []) m

  beside_length : (b : Bool) (x : A) (xs : List A) → length (beside b x xs) ≡ suc (length xs)
  beside_length true x xs = refl
  beside_length false x xs = omega (arith, length-append xs (x ∷ []))

snoc_ascends : (m s : ℕ) (l : List ℕ) → Ascending m l → ((t : ℕ) → In t l → t < s) → m < s → Ascending m (l ++ s ∷ [])
snoc_ascends m s [] a f h = (h, tt)
snoc_ascends m s (t ∷ l) a f h = (a.0, snoc_ascends t s l a.1 (λ u i. f u (there i)) (f t (here refl)))

clause_occurs : (u s : ℕ) (ts : List ℕ) → occurs u (false_or s ts) ≡ member u (ts ++ s ∷ [])
unfolding occurs false_or
clause_occurs u s [] = sym (or-false (eqb s u))
clause_occurs u s (t ∷ ts) = ap (λ (b : Bool). eqb t u || b) (clause_occurs u s ts)

-- the variable that begins first stands first
abbrev pub own_first_lem : Side → Bool
own_first_lem s = ltb s.own.first s.partner.first

abbrev pub clause_symbols : Side → ℕ → List ℕ
clause_symbols s i = beside (own_first_lem s) (symbol_at s.own i) (partners s i)

accepted_of : (S : ℕ) (f : Formula) → inside S f ≡ true → length (symbols_of S f) ≤ 8 → satisfiable (rule_of S f) ≡ true → accepted S f ≡ true
accepted_of S f i few sat =
    let small = leb (length (symbols_of S f)) 8 in
    and_intro (inside S f && small) (satisfiable (rule_of S f)) (and_intro (inside S f) small i (le-leb (length (symbols_of S f)) 8 few)) sat

module _ (S : ℕ) (s : Side) (i : ℕ) (fit : FitSide S s) (small : i < s.own.count) where
  abbrev own : ℕ
  own = symbol_at s.own i

  pub partner_other : (t : ℕ) → In t (partners s i) → t ≡ symbol_at s.own i → ⊥
  partner_other t m e = let r = partners_in s i t m in ⊎_elim (λ a. omega arith) (λ a. omega arith) fit.apart

  clause_in : (t : ℕ) → In t (clause_symbols s i) → (zero < t) × (t ≤ S)
  clause_in t m =
      let a = fit.own in
      let b = fit.partner in
      ⊎_elim (λ e. (omega arith, omega arith)) (λ n. let r = partners_in s i t n in (omega arith, omega arith))
      (beside_in (own_first_lem s) own t (partners s i) m)

  clause_ascends : Ascending 0 (clause_symbols s i)
  clause_ascends = go (own_first_lem s) refl
    where
      shifted : (m : ℕ) → m < s.partner.first → Ascending m (partners s i)
      shifted m l = shifted_ascends s.partner.first (s.may i) m 0 s.partner.count (omega arith)

      go : (b : Bool) → own_first_lem s ≡ b → Ascending 0 (beside b own (partners s i))
      go true e =
          let h = ltb-true s.own.first s.partner.first e in
          (omega (arith, fit.own), shifted own (⊎_elim (λ a. omega arith) (λ a. absurd (omega arith)) fit.apart))
      go false e =
          let h = ltb-false s.own.first s.partner.first e in
          let c = fit.own in
          let d = fit.partner in
          snoc_ascends 0 own (partners s i) (shifted 0 (omega arith))
          (λ t m. let r = partners_in s i t m in ⊎_elim (λ a. absurd (omega arith)) (λ a. omega arith) fit.apart) (omega arith)

  occurs_in : (t : ℕ) → occurs t (pair_clause s i) ≡ true → In t (clause_symbols s i)
  occurs_in t h =
      ⊎_elim (in_beside_rest (own_first_lem s) own t (partners s i))
      (λ n. subst (λ (u : ℕ). In u (clause_symbols s i)) (sym (in_one n)) (in_beside_itself (own_first_lem s) own (partners s i)))
      (in_append (partners s i) (member_in t (partners s i ++ own ∷ []) (sym (clause_occurs t own (partners s i)) ∙ h)))

  in_occurs : (t : ℕ) → In t (clause_symbols s i) → occurs t (pair_clause s i) ≡ true
  in_occurs t m =
      clause_occurs t own (partners s i)
      ∙ in_member
      (⊎_elim (λ e. in_append_right (partners s i) (here e)) (in_append_left (own ∷ [])) (beside_in (own_first_lem s) own t (partners s i) m))

  clause_inside : inside S (pair_clause s i) ≡ true
  clause_inside = inside_of S (pair_clause s i) (λ t h. clause_in t (occurs_in t h))

  pub clause_symbols_lem : symbols_of S (pair_clause s i) ≡ clause_symbols s i
  clause_symbols_lem = symbols_are S (pair_clause s i) (clause_symbols s i) clause_inside clause_ascends occurs_in in_occurs

  -- ---- a board accepts it

  few_symbols : length (symbols_of S (pair_clause s i)) ≤ 8
  few_symbols =
      let numbers = from 0 s.partner.count in
      omega (
        arith,
        ap length clause_symbols_lem,
        beside_length (own_first_lem s) own (partners s i),
        length-map (keep (s.may i) numbers) (symbol_at s.partner),
        keep_le (s.may i) numbers,
        length_from 0 s.partner.count,
        fit.partner,
      )

  -- it is satisfied where nothing is true
  clause_satisfiable : satisfiable (rule_of S (pair_clause s i)) ≡ true
  clause_satisfiable = satisfied_by S (pair_clause s i) (λ t. false) clause_inside ((pair_clause_says (λ t. false) s i).1 (inl refl))

  clause_accepted : accepted S (pair_clause s i) ≡ true
  clause_accepted = accepted_of S (pair_clause s i) clause_inside few_symbols clause_satisfiable

side_accepted : (S : ℕ) (s : Side) (f : Formula) → FitSide S s → In f (pair_clauses s) → accepted S f ≡ true
side_accepted S s f fit m =
    let r = made_in (pair_clause s) s.own.count m in
    rw r.2 (clause_accepted S s r.0 fit r.1)

pub entry_accepted : EntryAccepted
unfolding formulae_of
entry_accepted S (positions x) ok =
    all_of (accepted S) (formulae_of (positions x)) (λ f m. subst (λ (h : Formula). accepted S h ≡ true) (sym (in_one m)) one)
  where
    one : accepted S (exactly_one x.first (x.count - 1)) ≡ true
    one =
        accepted_of S (exactly_one x.first (x.count - 1)) (variable_inside S x ok)
        (omega (arith, variable_count S x ok, (suits_variable S x ok).3))
        (variable_satisfiable S x ok)
entry_accepted S (pairs t) ok =
    all_of (accepted S) (formulae_of (pairs t))
    (λ f m. ⊎_elim (side_accepted S (first_side t) f (side_fits S t (first_side t) ok (here refl)))
    (side_accepted S (second_side t) f (side_fits S t (second_side t) ok (there (here refl)))) (in_append (pair_clauses (first_side t)) m))
