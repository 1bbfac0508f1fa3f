-- The bytes that are written of a text that keeps the form are those of its formula.
use Rattle.meaning.proofs.Kit.{◌≡◌, ◌∙◌, sym, ap, refl, true, List, ◌≤◌, ℕ, ◌*◌, arith, length}
use Rattle.chains.proofs.Words.{Formula, Parsed, good, bad, bytes_of, read_of, extent, is_good, formula_of, chain_at, most_open, whole_text}
use Rattle.chains.proofs.Words.{chain_bytes}
use Rattle.formula.proofs.Walk.{never}
use Rattle.chains.proofs.Whole.{alone_all}
use Rattle.chains.proofs.Extents.{chain_within}
use Rattle.chains.proofs.Same.{chain_same}
use Rattle.chains.proofs.Sizes.{chain_twice}

module _ (text : List ℕ) (keeps : is_good (whole_text text) ≡ true) where
  whole_chain : (f : Formula) × (used : ℕ) × (chain_at most_open text ≡ good f used) × (whole_text text ≡ good f used)
  unfolding whole_text
  whole_chain = by (whole_text text) refl keeps
    where
      by : (p : Parsed) → whole_text text ≡ p → is_good p ≡ true
          → (f : Formula) × (used : ℕ) × (chain_at most_open text ≡ good f used) × (p ≡ good f used)
      by (good f used) e k = (f, used, (alone_all (chain_at most_open text) (length text) e).0, refl)
      by (bad why at) e k = never k

  pub emitted : chain_bytes most_open text ≡ bytes_of (formula_of (whole_text text))
  emitted = let w = whole_chain in chain_same most_open text w.2 ∙ ap bytes_of (sym (ap formula_of w.3))

  pub emitted_room : length (chain_bytes most_open text) ≤ 2 * length text
  emitted_room =
      let w = whole_chain in
      let same = ap length (chain_same most_open text w.2) in
      omega (arith, same, chain_twice most_open text w.2, ap (λ p. extent (read_of p)) w.2, chain_within most_open text)

  pub emitted_most : length (bytes_of (formula_of (whole_text text))) ≤ 2 * length text
  emitted_most = omega (arith, ap length emitted, emitted_room)
