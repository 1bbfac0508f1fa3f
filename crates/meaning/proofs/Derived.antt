-- What the rounds over any rows derive is what `Derived` says, with no rounds; and so is a conflict.
use Rattle.meaning.proofs.Kit.{◌≡◌, ◌↔◌, ⊎_elim, inl, inr, true, Bool, List, ℕ, suc, zero, eqb, eqb-true, eqb-false}
use Rattle.meaning.specs.Literals.{opp, has, conflict}
use Rattle.meaning.specs.Rounds.{gives, by_rows, reached, derived}
use Rattle.meaning.specs.Promises.{Derived, premise, by_row, DerivedIs, Conflict}
use Rattle.meaning.proofs.Tests.{true_or_false, any_found, any_at}
use Rattle.meaning.proofs.Literals.{conflict_at, conflict_found}
use Rattle.meaning.proofs.Rounds.{reached_below, closed, premises_in, start_cases, round_cases}
use Rattle.meaning.proofs.Gives.{gives_words, gives_of}

module _ (places : ℕ) (rows : List (List ℕ)) (held : List Bool) where
  derived_reached : {p : ℕ} → Derived places rows held p → has (derived places rows held) p ≡ true
  derived_reached (premise {p = p} l h) = premises_in places (by_rows rows) held p l h
  derived_reached (by_row {p = p} row m i l others) =
      closed places (by_rows rows) held p l
      (any_at (λ (r : List ℕ). gives (derived places rows held) r p) m
      (gives_of (derived places rows held) row p i
      (λ q j. ⊎_elim (λ e. inl (eqb-true q p e)) (λ e. inr (derived_reached (others q j (eqb-false q p e)))) (true_or_false (eqb q p)))))

  reached_derived : (k p : ℕ) → has (reached places (by_rows rows) held k) p ≡ true → Derived places rows held p
  reached_derived zero p h = let r = start_cases places (by_rows rows) held p h in premise r.0 r.1
  reached_derived (suc k) p h =
      let now = reached places (by_rows rows) held k in
      ⊎_elim (reached_derived k p)
      (λ e.
      let r = any_found (λ (row : List ℕ). gives now row p) rows e in
      let w = gives_words now r.0 p r.2 in
      by_row r.0 r.1 w.0 (reached_below places (by_rows rows) held (suc k) p h)
      (λ q j d. ⊎_elim (λ s. absurd (d s)) (reached_derived k (opp q)) (w.1 q j)))
      (round_cases places (by_rows rows) held k p h)

pub derived_is : DerivedIs
derived_is places rows held p = (derived_reached places rows held, reached_derived places rows held places p)

-- conflict as computed is conflict in words
pub conflict_words : (places : ℕ) (rows : List (List ℕ)) (held : List Bool)
    → (conflict (derived places rows held) ≡ true) ↔ Conflict (Derived places rows held)
conflict_words places rows held = (
  λ e. let r = conflict_found (derived places rows held) e in
      (r.0, (derived_is places rows held r.0).1 r.1, (derived_is places rows held (opp r.0)).1 r.2),
  λ c. conflict_at (derived places rows held) c.0 ((derived_is places rows held c.0).0 c.1)
      ((derived_is places rows held (opp c.0)).0 c.2),
)
