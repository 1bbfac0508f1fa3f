-- What the final ranks tell: the supports, the labels and the derived literals of document 01.
use Rattle.meaning.proofs.Kit.{◌≡◌, ◌∙◌, sym, ap, refl, ap₂, ⊎_elim, inl, inr, ◌⊎◌, true, false, Bool, cond, List, [], ◌≤◌, ℕ, ◌<◌, ◌-◌, ◌+◌, suc}
use Rattle.meaning.proofs.Kit.{◌*◌, zero, arith, eqb, ltb, get_or, eq-eqb}
use Rattle.meaning.specs.Tests.{none, tabulate}
use Rattle.meaning.specs.Literals.{has}
use Rattle.meaning.specs.Rounds.{by_rows, after, derived, rank_of, first_giver, support_at, support_of, ranks_of, label_of, labels_of}
use Rattle.meaning.proofs.Tables.{get_d_tabulate, tabulate_same}
use Rattle.meaning.proofs.Rounds.{reached_length}
use Rattle.meaning.proofs.Ranks.{rank_of_is, derived_rank}
use Rattle.findings.specs.Ranks.{below, support_from, labels_from}
use Rattle.findings.proofs.RankTables.{below_tabulate, get_d_ranks_of, below_ranks_of}

module _ (places : ℕ) (rows : List (List ℕ)) (held : List Bool) (small : places < none) where
  pub support_from_is : (p : ℕ) → p < places → support_from rows (ranks_of places rows held) p ≡ support_of places rows held p
  unfolding support_from support_of
  support_from_is p h =
      ap (λ r. support_at (λ k. below (suc k) (ranks_of places rows held)) rows r p) (get_d_ranks_of places rows held p h)
      ∙ same (rank_of places rows held p) (⊎_elim (λ f. inl f.0) (λ f. inr f.0) (rank_of_is places rows held p small))
    where
      same : (r : ℕ) → (r ≤ places) ⊎ (r ≡ none)
          → support_at (λ k. below (suc k) (ranks_of places rows held)) rows r p ≡ support_at (after places rows held) rows r p
      same zero o = unfold support_at in refl
      same (suc k) (inl l) =
          unfold support_at in
          ap (λ known. cond (eqb (suc k) none) none (first_giver known rows p)) (below_ranks_of places rows held small k (omega arith))
      same (suc k) (inr e) = unfold support_at in rw (eq-eqb (suc k) none e)

  -- the supports of n places, from one on
  pub supports_are : {ranks : List ℕ} → ranks ≡ ranks_of places rows held → (n from : ℕ) → from + n ≤ places
      → tabulate n (λ i. support_from rows ranks (from + i)) ≡ tabulate n (λ i. support_of places rows held (from + i))
  supports_are is n from room = tabulate_same 0 n n _ _ refl (λ i h. rw is (support_from_is (from + i) (omega arith)))

  pub below_derived : below none (ranks_of places rows held) ≡ derived places rows held
  unfolding ranks_of
  below_derived = below_tabulate none places _ _ (reached_length places (by_rows rows) held places) (λ p h. derived_rank places rows held small p)

  ranked : (p : ℕ) → p < places → ltb (get_or (ranks_of places rows held) p none) none ≡ has (derived places rows held) p
  unfolding ranks_of
  ranked p h = ap (λ r. ltb r none) (get_d_tabulate places (rank_of places rows held) p none h) ∙ derived_rank places rows held small p

pub labels_from_is : (symbols : ℕ) (rows : List (List ℕ)) (held : List Bool) → 2 * symbols < none
    → labels_from symbols (ranks_of (2 * symbols) rows held) ≡ labels_of symbols rows held
unfolding labels_from labels_of
labels_from_is symbols rows held small =
    tabulate_same 0 symbols symbols _ _ refl
    (λ s h.
    (let first : 2 * (suc s - 1) ≡ 2 * s = omega arith in
    rw first
    (ap₂ label_of (ranked (2 * symbols) rows held small (2 * s) (omega arith)) (ranked (2 * symbols) rows held small (2 * s + 1) (omega arith)))))

-- without rows there is no support
pub no_supports : (places : ℕ) (held : List Bool) (n from : ℕ) → tabulate n (λ i. none) ≡ tabulate n (λ i. support_of places [] held (from + i))
unfolding support_of
no_supports places held n from = tabulate_same 0 n n _ _ refl (λ i h. sym (never (rank_of places [] held (from + i)) (from + i)))
  where
    either : (t : Bool) → cond t none none ≡ none
    either true = refl
    either false = refl

    never : (r p : ℕ) → support_at (after places [] held) [] r p ≡ none
    never zero p = unfold support_at in refl
    never (suc k) p = unfold support_at first_giver in either (eqb (suc k) none)
