-- Laws of tables of ranks: the places whose rank is below k, and the ranks of the literals.
use Rattle.meaning.proofs.Kit.{◌≡◌, ◌∙◌, sym, refl, false, Bool, List, [], ◌∷◌, ◌≤◌, ℕ, ◌<◌, suc, zero, not-suc-le-zero, le_of_suc-le-suc, ltb}
use Rattle.meaning.proofs.Kit.{length, get_or, length-map}
use Rattle.meaning.specs.Tests.{none, tabulate}
use Rattle.meaning.specs.Literals.{has}
use Rattle.meaning.specs.Rounds.{by_rows, after, rank_of, ranks_of}
use Rattle.meaning.proofs.Tables.{length_tabulate, get_d_tabulate, tabulate_ext, map_tabulate}
use Rattle.meaning.proofs.Rounds.{reached_length}
use Rattle.meaning.proofs.Ranks.{rank_below}
use Rattle.findings.specs.Ranks.{below}

-- ---- the places whose rank is below k

-- a place is among them exactly if its rank is below k
pub below_rank : (k : ℕ) (ranks : List ℕ) (p : ℕ) → p < length ranks → has (below k ranks) p ≡ ltb (get_or ranks p 0) k
unfolding below
below_rank k [] p h = absurd (not-suc-le-zero h)
below_rank k (r ∷ ranks) zero h = refl
below_rank k (r ∷ ranks) (suc p) h = below_rank k ranks p (le_of_suc-le-suc h)

pub length_below : (k : ℕ) (ranks : List ℕ) → length (below k ranks) ≡ length ranks
unfolding below
length_below k ranks = length-map ranks (λ r. ltb r k)

-- the places whose number passes are known from their numbers
pub below_tabulate : (k places : ℕ) (f : ℕ → ℕ) (known : List Bool) → length known ≡ places → ((p : ℕ) → p < places → ltb (f p) k ≡ has known p)
    → below k (tabulate places f) ≡ known
unfolding below
below_tabulate k places f known long h = map_tabulate (λ r. ltb r k) places f ∙ sym (tabulate_ext false places _ known long (λ p b. sym (h p b)))

-- a place of a list is the same whatever stands past its end
pub any_default : (l : List ℕ) (p d e : ℕ) → p < length l → get_or l p d ≡ get_or l p e
any_default [] p d e h = absurd (not-suc-le-zero h)
any_default (r ∷ l) zero d e h = refl
any_default (r ∷ l) (suc p) d e h = any_default l p d e (le_of_suc-le-suc h)

-- ---- the ranks of the literals

module _ (places : ℕ) (rows : List (List ℕ)) (held : List Bool) where
  pub length_ranks_of : length (ranks_of places rows held) ≡ places
  unfolding ranks_of
  length_ranks_of = length_tabulate places _

  pub get_d_ranks_of : (p : ℕ) → p < places → get_or (ranks_of places rows held) p 0 ≡ rank_of places rows held p
  unfolding ranks_of
  get_d_ranks_of p h = get_d_tabulate places _ p 0 h

  pub below_ranks_of : places < none → (k : ℕ) → k ≤ places → below (suc k) (ranks_of places rows held) ≡ after places rows held k
  unfolding ranks_of
  below_ranks_of small k l =
      below_tabulate (suc k) places _ _ (reached_length places (by_rows rows) held k) (λ p h. rank_below places rows held small k p l)
