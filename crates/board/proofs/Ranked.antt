-- What one rank tells: whether the literal is derived, and whether it has a support to show.
use Rattle.meaning.proofs.Kit.{◌≡◌, ◌∙◌, sym, ⊎_elim, inl, inr, ◌⊎◌, true, false, Bool, not, ◌||◌, List, ℕ, ◌<◌, arith, ltb, lt-ltb, le-ltb}
use Rattle.meaning.specs.Tests.{none}
use Rattle.meaning.specs.Literals.{has}
use Rattle.meaning.specs.Rounds.{derived, rank_of}
use Rattle.meaning.proofs.Ranks.{rank_of_is, derived_rank, held_rank}

module _ (places : ℕ) (rows : List (List ℕ)) (held : List Bool) (small : places < none) where
  abbrev rank : ℕ → ℕ
  rank p = rank_of places rows held p

  -- ---- whether the literal is derived

  rank_low : (p : ℕ) → (rank p ≡ none → ⊥) → rank p < none
  rank_low p ranked = ⊎_elim (λ f. omega (arith, f.0)) (λ f. absurd (ranked f.0)) (rank_of_is places rows held p small)

  pub not_derived : (p : ℕ) → rank p ≡ none → has (derived places rows held) p ≡ false
  not_derived p e = sym (derived_rank places rows held small p) ∙ rw e

  pub is_derived : (p : ℕ) → (rank p ≡ none → ⊥) → has (derived places rows held) p ≡ true
  is_derived p ranked = sym (derived_rank places rows held small p) ∙ lt-ltb (rank p) none (rank_low p ranked)

  -- ---- whether there is a support to show: of a derived literal that is not held

  abbrev hides : ℕ → Bool
  hides p = not (has (derived places rows held) p) || has held p

  hides_is : (p : ℕ) → p < places → hides p ≡ (not (ltb (rank p) none) || ltb (rank p) 1)
  hides_is p h = rw (derived_rank places rows held small p, held_rank places rows held small p h)

  pub hidden : (p : ℕ) → p < places → (rank p ≡ 0) ⊎ (rank p ≡ none) → hides p ≡ true
  hidden p h (inl e) = hides_is p h ∙ rw e
  hidden p h (inr e) = hides_is p h ∙ rw e

  pub shown : (p : ℕ) → p < places → (rank p ≡ 0 → ⊥) → (rank p ≡ none → ⊥) → hides p ≡ false
  shown p h some ranked = hides_is p h ∙ rw (lt-ltb (rank p) none (rank_low p ranked), le-ltb (rank p) 1 (omega arith))
