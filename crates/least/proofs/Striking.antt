-- The board with a set of candidates struck off: it is a good one, and what is derived on it is what is left.
use Rattle.meaning.proofs.Kit.{◌≡◌, ◌∙◌, refl, ⊎_elim, true, false, Bool, List, [], ◌∷◌, In, here, there, ℕ, ◌<◌, ◌*◌, eqb, ltb, ℤ, drop, set}
use Rattle.meaning.proofs.Kit.{drop-set-lt, eqb-true}
use Rattle.meaning.specs.Tests.{all}
use Rattle.meaning.specs.Ground.{struck_off}
use Rattle.candidates.specs.Sets.{chosen, set_each}
use Rattle.meaning.proofs.Tests.{one_true_lem}
use Rattle.board.specs.Furnaces.{is_furnace, held_by, with_held}
use Rattle.board.specs.Faults.{good_board}
use Rattle.board.specs.declared.Board.{Board}
use Rattle.board.proofs.TwoSets.{held_own}
use Rattle.board.proofs.Goodness.{held_good}
use Rattle.candidates.proofs.Places.{chosen_low}
use Rattle.least.specs.Effects.{struck_on}

struck_beyond : (n : ℕ) (held : List Bool) (gone : List ℕ) → ((p : ℕ) → In p gone → p < n) → drop n (struck_off held gone) ≡ drop n held
struck_beyond n held [] f = refl
struck_beyond n held (h ∷ gone) f = struck_beyond n (set held h false) gone (λ p m. f p (there m)) ∙ drop-set-lt n held h false (f h (here refl))

-- flags that are all set to false are struck off
pub struck_each : (held : List Bool) (gone : List ℕ) → set_each false held gone ≡ struck_off held gone
struck_each held [] = refl
struck_each held (h ∷ gone) = struck_each (set held h false) gone

-- ---- by the furnace's number

is_two : (furnace : ℕ) → is_furnace furnace ≡ true → (furnace ≡ 1 → ⊥) → furnace ≡ 2
unfolding is_furnace
is_two furnace e other = ⊎_elim (λ h. absurd (other (eqb-true furnace 1 h))) (λ h. eqb-true furnace 2 h) (one_true_lem (eqb furnace 1) (eqb furnace 2) e)

module _ (b : Board) (furnace : ℕ) where
  pub first_held : furnace ≡ 1 → held_by b furnace ≡ b.first
  unfolding held_by
  first_held e = rw e

  pub second_held : is_furnace furnace ≡ true → (furnace ≡ 1 → ⊥) → held_by b furnace ≡ b.second
  unfolding held_by
  second_held e other = rw (is_two furnace e other)

  module _ (places : List ℕ) (m : ℕ) {held : List Bool} where
    pub struck_first : furnace ≡ 1 → held ≡ struck_off b.first (chosen places m)
        → ◌≡◌ {A = Board} (record { symbols = b.symbols; rows = b.rows; rules = b.rules; first = held; second = b.second })
        (struck_on b furnace places m)
    unfolding struck_on held_by with_held
    struck_first e is = rw (e, is)

    pub struck_second : is_furnace furnace ≡ true → (furnace ≡ 1 → ⊥) → held ≡ struck_off b.second (chosen places m)
        → ◌≡◌ {A = Board} (record { symbols = b.symbols; rows = b.rows; rules = b.rules; first = b.first; second = held })
        (struck_on b furnace places m)
    unfolding struck_on held_by with_held
    struck_second e other is = rw (is_two furnace e other, is)

-- ---- the board

module _ (table : List ℤ) (b : Board) (furnace : ℕ) (places : List ℕ) (m : ℕ) where
  pub struck_good : all (λ p. ltb p (2 * b.symbols)) places ≡ true → good_board table (struck_on b furnace places m) ≡ good_board table b
  unfolding struck_on
  struck_good low =
      held_good b furnace (struck_off (held_by b furnace) (chosen places m))
      (struck_beyond (2 * b.symbols) (held_by b furnace) (chosen places m) (λ p h. chosen_low (2 * b.symbols) places m p low h)) table

  pub struck_held : is_furnace furnace ≡ true → held_by (struck_on b furnace places m) furnace ≡ struck_off (held_by b furnace) (chosen places m)
  unfolding struck_on
  struck_held e = held_own b furnace (struck_off (held_by b furnace) (chosen places m)) e
