-- What a row that gives a literal says: it contains it, and each of its literals is that one or has a known opposite.
use Rattle.meaning.proofs.Kit.{◌≡◌, ⊎_elim, inl, inr, ◌⊎◌, true, Bool, ◌||◌, List, In, ℕ, eqb, eq-eqb, eqb-true}
use Rattle.meaning.specs.Tests.{all, member}
use Rattle.meaning.specs.Literals.{opp, has, Within}
use Rattle.meaning.specs.Rounds.{gives}
use Rattle.meaning.proofs.Tests.{both_true, and_intro, one_true_lem, or_left, or_right, all_at, all_of, member_in, in_member}

pub gives_words : (known : List Bool) (row : List ℕ) (p : ℕ) → gives known row p ≡ true
    → In p row × ((q : ℕ) → In q row → (q ≡ p) ⊎ (has known (opp q) ≡ true))
unfolding gives
gives_words known row p h = (member_in p row r.0, other)
  where
    r : (member p row ≡ true) × (all (λ (q : ℕ). eqb q p || has known (opp q)) row ≡ true)
    r = both_true (member p row) (all (λ (q : ℕ). eqb q p || has known (opp q)) row) h

    other : (q : ℕ) → In q row → (q ≡ p) ⊎ (has known (opp q) ≡ true)
    other q m =
        ⊎_elim (λ e. inl (eqb-true q p e)) (λ e. inr e)
        (one_true_lem (eqb q p) (has known (opp q)) (all_at (λ (x : ℕ). eqb x p || has known (opp x)) r.1 m))

pub gives_of : (known : List Bool) (row : List ℕ) (p : ℕ) → In p row → ((q : ℕ) → In q row → (q ≡ p) ⊎ (has known (opp q) ≡ true))
    → gives known row p ≡ true
unfolding gives
gives_of known row p m h =
    and_intro (member p row) (all (λ (q : ℕ). eqb q p || has known (opp q)) row) (in_member m)
    (all_of (λ (q : ℕ). eqb q p || has known (opp q)) row
    (λ q n. ⊎_elim (λ e. or_left (eqb q p) (has known (opp q)) (eq-eqb q p e)) (λ e. or_right (eqb q p) (has known (opp q)) e) (h q n)))

-- a larger set gives no less
pub gives_grow : (a b : List Bool) (row : List ℕ) (p : ℕ) → Within a b → gives a row p ≡ true → gives b row p ≡ true
gives_grow a b row p w g =
    let r = gives_words a row p g in
    gives_of b row p r.0 (λ q n. ⊎_elim (λ e. inl e) (λ e. inr (w (opp q) e)) (r.1 q n))
