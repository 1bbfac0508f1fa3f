-- What listing a row does: some of its cells go in front of their lists.
use Rattle.std.specs.Prelude.{ℕ, ◌+◌, ◌≤◌, ◌<◌, ◌≡◌, ◌⊎◌, true, List, ℤ, length, get_or}
use Rattle.index.specs.Index.{holds}

-- the n cells from `base` on were listed, in tables that were heads and links before
pub record Listed (table : List ℤ) (base n : ℕ) (heads links newHeads newLinks : List ℕ) : Type 0 where
  pub long_heads : length newHeads ≡ length heads
  pub long_links : length newLinks ≡ length links
  pub head_here : (i p : ℕ) → base ≤ i → i < base + n → holds table p i ≡ true → get_or newHeads p 0 ≡ i
  pub head_other : (p : ℕ) → ((i : ℕ) → base ≤ i → i < base + n → holds table p i ≡ true → ⊥) → get_or newHeads p 0 ≡ get_or heads p 0
  pub link_here : (i p : ℕ) → base ≤ i → i < base + n → holds table p i ≡ true → get_or newLinks i 0 ≡ get_or heads p 0
  pub link_other : (i : ℕ) → (i < base) ⊎ (base + n ≤ i) → get_or newLinks i 0 ≡ get_or links i 0
