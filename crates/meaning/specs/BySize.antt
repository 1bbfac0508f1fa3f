-- "fewer literals first" (01), "order by size, then by number" (02, Ticket 10): what passes a test of a list, by size, and of one size as the list
-- has it.
use Rattle.std.specs.Prelude.{◌≡◌, ◌⊎◌, Bool, ◌&&◌, ℕ, zero, suc, ◌<◌, eqb}
use mathlib.Core.List.{List, [], ◌∷◌, ◌++◌, Memᴰ as In}
use Rattle.meaning.specs.Tests.{keep}

module _ {A : Type 0} where
  -- those of size k
  unfoldable pub of_size : (A → ℕ) → (A → Bool) → List A → ℕ → List A
  of_size size test xs k = keep (λ x. eqb (size x) k && test x) xs

  -- those of a size below k, by size
  abbrev pub below_size : (A → ℕ) → (A → Bool) → List A → ℕ → List A
  below_size size test xs zero = []
  below_size size test xs (suc k) = below_size size test xs k ++ of_size size test xs k

  -- smaller, or of one size and before it
  abbrev pub BySize : (A → ℕ) → (A → A → Type 0) → A → A → Type 0
  BySize size Before x y = (size x < size y) ⊎ ((size x ≡ size y) × Before x y)

  -- each element stands so to every later one
  abbrev pub EachBefore : (A → A → Type 0) → List A → Type 0
  EachBefore So [] = Unit {0}
  EachBefore So (x ∷ xs) = ((y : A) → In y xs → So x y) × EachBefore So xs
