-- Laws of supports: the lowest-numbered row that gave a literal its rank.
use Rattle.meaning.proofs.Kit.{◌≡◌, refl, ⊎_elim, inl, inr, true, false, Bool, List, [], ◌∷◌, ◌≤◌, ℕ, ◌<◌, ◌-◌, suc, zero, arith, eqb, length}
use Rattle.meaning.proofs.Kit.{get_or, ne_eqb, eqb-true, eqb-false}
use Rattle.meaning.specs.Tests.{none}
use Rattle.meaning.specs.Literals.{opp, has}
use Rattle.meaning.specs.Rounds.{gives, by_rows, after, rank_of, first_giver, support_at, support_of}
use Rattle.meaning.specs.Promises.{GaveRank, SupportRule}
use Rattle.meaning.proofs.Tests.{true_or_false, clash}
use Rattle.meaning.proofs.Tables.{FirstIs, first_is}
use Rattle.meaning.proofs.Gives.{gives_words, gives_of}
use Rattle.meaning.proofs.Ranks.{rank_of_is, rank_le, le_rank, given_at_rank}

-- ---- the lowest-numbered row that gives a literal

pub first_giver_is : (known : List Bool) (rows : List (List ℕ)) (p : ℕ) → length rows ≤ none
    → FirstIs (λ r. gives known (get_or rows r []) p) (length rows) (first_giver known rows p)
unfolding first_giver
first_giver_is known rows p small = first_is (λ r. gives known (get_or rows r []) p) (length rows) small

-- where no row of the table gives the literal, none does
pub no_giver : (known : List Bool) (rows : List (List ℕ)) (p : ℕ) → ((r : ℕ) → r < length rows → gives known (get_or rows r []) p ≡ false)
    → by_rows rows known p ≡ false
no_giver known [] p h = refl
no_giver known (row ∷ rows) p h = rw (h 0 (omega arith)) (no_giver known rows p (λ r b. h (suc r) (omega arith)))

module _ (places : ℕ) (rows : List (List ℕ)) (held : List Bool) where
  -- ---- the support of a literal that is held or not derived is none,

  pub support_of_held : (p : ℕ) → rank_of places rows held p ≡ 0 → support_of places rows held p ≡ none
  unfolding support_of support_at
  support_of_held p e = rw e

  pub support_of_none : (p : ℕ) → rank_of places rows held p ≡ none → support_of places rows held p ≡ none
  unfolding support_of support_at
  support_of_none p e = rw e

  -- that of another derived literal is the lowest-numbered row that gave it its rank

  pub support_of_derived : (k p : ℕ) → rank_of places rows held p ≡ suc k → suc k < none
      → support_of places rows held p ≡ first_giver (after places rows held k) rows p
  unfolding support_of support_at
  support_of_derived k p e b = rw (e, ne_eqb (suc k) none (λ q. omega (arith, q)))

  pub support_of_is : (k p : ℕ) → p < places → places < none → length rows ≤ none → rank_of places rows held p ≡ suc k → suc k < none
      → (support_of places rows held p < length rows)
      × (gives (after places rows held k) (get_or rows (support_of places rows held p) []) p ≡ true)
      × ((r : ℕ) → r < support_of places rows held p → gives (after places rows held k) (get_or rows r []) p ≡ false)
  support_of_is k p b small few e l =
      rw (support_of_derived k p e l)
      (⊎_elim
      (λ f. f)
      (λ f. clash (given_at_rank places rows held k p b small e l) (no_giver (after places rows held k) rows p f.1))
      (first_giver_is (after places rows held k) rows p few))

  -- ---- the same in 01's words

  module _ (small : places < none) (k p : ℕ) (l : k ≤ places) (e : rank_of places rows held p ≡ suc k) where
    abbrev now : List Bool
    now = after places rows held k

    -- a row gave the literal its rank exactly if it gives it from the smaller ranks
    pub gave_rank : (r : ℕ) → r < length rows → gives (after places rows held k) (get_or rows r []) p ≡ true → GaveRank places rows held p r
    gave_rank r b g =
        let w = gives_words now (get_or rows r []) p g in
        (b, w.0, λ q m d. ⊎_elim (λ x. absurd (d x)) (λ x. (let c = rank_le places rows held small k (opp q) l x in omega arith)) (w.1 q m))

    pub rank_gave : (r : ℕ) → GaveRank places rows held p r → gives (after places rows held k) (get_or rows r []) p ≡ true
    rank_gave r g =
        gives_of now (get_or rows r []) p g.1
        (λ q m. ⊎_elim (λ x. inl (eqb-true q p x)) (λ x. inr (low q (g.2 q m (eqb-false q p x)))) (true_or_false (eqb q p)))
      where
        low : (q : ℕ) → rank_of places rows held (opp q) < rank_of places rows held p → has now (opp q) ≡ true
        low q h = le_rank places rows held small k (opp q) l (omega arith)

pub support_rule : SupportRule
support_rule places rows held p r small few b some = (λ e. to e rank refl, back)
  where
    rank : ℕ
    rank = rank_of places rows held p

    row : ℕ
    row = support_of places rows held p

    -- the lowest-numbered row that gave the literal its rank
    Lowest : ℕ → Type 0
    Lowest i = GaveRank places rows held p i × ((j : ℕ) → j < i → GaveRank places rows held p j → ⊥)

    is : (k : ℕ) → rank ≡ suc k → suc k < none → Lowest row
    is k e l =
        let high : suc k ≤ places = ⊎_elim (λ f. omega (arith, f.0)) (λ f. absurd (omega (arith, f.0))) (rank_of_is places rows held p small) in
        let f = support_of_is places rows held k p b small (omega arith) e l in (
          gave_rank places rows held small k p (omega arith) e row f.0 f.1,
          λ i h g. clash (rank_gave places rows held small k p (omega arith) e i g) (f.2 i h),
        )

    to : support_of places rows held p ≡ r → (n : ℕ) → rank ≡ n
        → (0 < rank) × (rank < none) × GaveRank places rows held p r × ((i : ℕ) → i < r → GaveRank places rows held p i → ⊥)
    to e zero z = let s = support_of_held places rows held p z in absurd (omega arith)
    to e (suc k) z =
        let derived : rank < none =
        ⊎_elim (λ f. omega (arith, f.0)) (λ f. (let s = support_of_none places rows held p f.0 in absurd (omega arith)))
        (rank_of_is places rows held p small) in
        let f : Lowest r = rw e at (is k z (omega arith)) in
        (omega arith, derived, f.0, f.1)

    back : (0 < rank) × (rank < none) × GaveRank places rows held p r × ((i : ℕ) → i < r → GaveRank places rows held p i → ⊥)
        → support_of places rows held p ≡ r
    back x =
        let above = x.0 in
        let derived = x.1 in
        let f = is (rank - 1) (omega arith) (omega arith) in
        let not-less : ¬ (row < r) = λ l. x.3 row l f.0 in
        let not_more : ¬ (r < row) = λ l. f.1 r l x.2 in
        omega arith
