-- The lowest cell from some cell on that holds a literal: what it is, and that nothing else is.
use Rattle.meaning.proofs.Kit.{◌≡◌, ⊎_elim, inl, inr, ◌⊎◌, true, false, Bool, ◌&&◌, List, ◌≤◌, ℕ, ◌<◌, ◌*◌, arith, leb, ℤ, le-leb, leb-true}
use Rattle.meaning.specs.Tests.{first, none}
use Rattle.meaning.proofs.Tests.{both_true, and_intro, false_of, clash}
use Rattle.meaning.proofs.Tables.{le_or_lt, FirstIs, first_is, first_only}
use Rattle.literals.specs.Row.{most_literals}
use Rattle.index.specs.Index.{holds, next_cell}

-- `to` is that cell, or none where no cell from `from` on holds p
pub record Next (used : ℕ) (table : List ℤ) (p from to : ℕ) : Type 0 where
  pub cell : (to ≡ none) ⊎ ((to < most_literals * used) × (holds table p to ≡ true) × (from ≤ to))
  pub between : (i : ℕ) → from ≤ i → i < to → i < most_literals * used → holds table p i ≡ true → ⊥

module _ (used : ℕ) (table : List ℤ) (few : most_literals * used ≤ none) where
  abbrev test : (p from : ℕ) → ℕ → Bool
  test p from i = leb from i && holds table p i

  pub next : (p from : ℕ) → Next used table p from (next_cell used table p from)
  unfolding next_cell
  next p from = go (first (test p from) (most_literals * used)) (first_is (test p from) (most_literals * used) few)
    where
      go : (to : ℕ) → FirstIs (test p from) (most_literals * used) to → Next used table p from to
      go to (inl f) =
          let b = both_true (leb from to) (holds table p to) f.1 in
          record {
            cell = inr (f.0, b.1, leb-true from to b.0);
            between = λ i h l c y. clash (and_intro (leb from i) (holds table p i) (le-leb from i h) y) (f.2 i l);
          }
      go to (inr f) =
          record {
            cell = inl f.0;
            between = λ i h l c y. clash (and_intro (leb from i) (holds table p i) (le-leb from i h) y) (f.1 i c);
          }

  pub next_only : {p from to : ℕ} → Next used table p from to → to ≡ next_cell used table p from
  unfolding next_cell
  next_only {p} {from} {to} n =
      first_only (test p from) (most_literals * used) to (first (test p from) (most_literals * used))
      (⊎_elim
      (λ e. inr (e, λ i c. none_at i (omega (arith, e, c)) c))
      (λ h. inl (h.0, and_intro (leb from to) (holds table p to) (le-leb from to h.2) h.1, λ i l. none_at i l (omega (arith, l, h.0))))
      n.cell)
      (first_is (test p from) (most_literals * used) few)
    where
      none_at : (i : ℕ) → i < to → i < most_literals * used → test p from i ≡ false
      none_at i l c =
          false_of (test p from i) (λ y. (let b = both_true (leb from i) (holds table p i) y in n.between i (leb-true from i b.0) l c b.1))

  -- cells that do not hold p are passed
  pub next_skip : (p from to : ℕ) → from ≤ to → ((i : ℕ) → from ≤ i → i < to → holds table p i ≡ true → ⊥)
      → next_cell used table p to ≡ next_cell used table p from
  next_skip p from to h skip =
      let n = next p to in
      next_only
      (record {
        cell = ⊎_elim (λ e. inl e) (λ c. inr (c.0, c.1, omega (arith, h, c.2))) n.cell;
        between = λ i l u c y. ⊎_elim (λ s. n.between i s u c y) (λ s. skip i l s y) (le_or_lt to i);
      })

  -- a cell that holds p is the lowest from itself on
  pub next_here : (p from to : ℕ) → to < most_literals * used → holds table p to ≡ true → from ≤ to
      → ((i : ℕ) → from ≤ i → i < to → holds table p i ≡ true → ⊥) → to ≡ next_cell used table p from
  next_here p from to inside y h skip = next_only (record { cell = inr (inside, y, h); between = λ i l u c z. skip i l u z })
