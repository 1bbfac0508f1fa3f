-- The table of ranks, round by round: what a round makes of it, and that the last one has the ranks themselves.
use Rattle.meaning.proofs.Kit.{◌≡◌, ◌∙◌, sym, ap, refl, ⊎_elim, inl, inr, ◌⊎◌, true, false, Bool, cond, ◌&&◌, List, [], ◌≤◌, ℕ, ◌<◌, ◌+◌, suc, zero}
use Rattle.meaning.proofs.Kit.{add-one, arith, eqb, ltb, length, get_or, ext_get_or, lt-ltb, le-ltb}
use Rattle.meaning.specs.Tests.{tabulate, none}
use Rattle.meaning.specs.Rounds.{by_rows, after, rank_by, ranks_of}
use Rattle.meaning.proofs.Tests.{clash, or_right}
use Rattle.meaning.specs.Literals.{has}
use Rattle.meaning.proofs.Tables.{length_tabulate, get_d_tabulate, tabulate_same, le_or_lt}
use Rattle.meaning.proofs.Rounds.{reached_length, earlier}
use Rattle.meaning.proofs.Ranks.{after_start, after_more, rank_by_is, rank_by_below, rank_by_next, rank_by_final}
use Rattle.findings.specs.Ranks.{below}
use Rattle.findings.proofs.RankTables.{below_tabulate}
use Rattle.rounds.specs.Ranks.{mark, ranks_after, start_ranks, ranks_by}
use Rattle.rounds.specs.Visits.{Settled}
use Rattle.rounds.proofs.Marking.{get_d_mark, mark_never}

-- ---- round by round

-- what is lower than the rank that is written stays
low_stays : (k r : ℕ) (t : Bool) → cond t k r < k → cond t k r ≡ r
low_stays k r true h = absurd (omega arith)
low_stays k r false h = refl

module _ (places : ℕ) (rows : List (List ℕ)) (held : List Bool) where
  get_d_ranks_by : (k p : ℕ) → p < places → get_or (ranks_by places rows held k) p 0 ≡ rank_by places rows held k p
  unfolding ranks_by
  get_d_ranks_by k p h = get_d_tabulate places _ p 0 h

  below_ranks_by : (k : ℕ) → suc k ≤ none → below (suc k) (ranks_by places rows held k) ≡ after places rows held k
  unfolding ranks_by
  below_ranks_by k small =
      below_tabulate (suc k) places _ _ (reached_length places (by_rows rows) held k) (λ p h. rank_by_below places rows held k p small)

  -- one round more of ranks
  ranks_after_is : (k : ℕ) → suc (suc k) ≤ none → ranks_after (suc k) rows (ranks_by places rows held k) ≡ ranks_by places rows held (suc k)
  unfolding ranks_after mark ranks_by
  ranks_after_is k small =
      let known : below (suc k) (tabulate places (rank_by places rows held k)) ≡ after places rows held k =
      unfold ranks_by in below_ranks_by k (omega arith) in
      tabulate_same 0 _ places _ _ (length_tabulate places _)
      (λ p b. rw (get_d_tabulate places (rank_by places rows held k) p 0 b, known) (rank_by_next places rows held k p b small))

  -- where the ranks stay the same the round adds nothing,
  ranks_stay : (k : ℕ) → suc (suc k) ≤ none → ranks_by places rows held (suc k) ≡ ranks_by places rows held k
      → after places rows held (suc k) ≡ after places rows held k
  ranks_stay k small e =
      ext_get_or false (after places rows held (suc k)) (after places rows held k)
      (reached_length places (by_rows rows) held (suc k) ∙ sym (reached_length places (by_rows rows) held k)) same
    where
      r : ℕ → ℕ
      r p = rank_by places rows held k p

      wider : (p : ℕ) → ltb (r p) (suc (suc k)) ≡ ltb (r p) (suc k)
      wider p =
          ⊎_elim
          (λ f. rw (lt-ltb (r p) (suc (suc k)) (omega (arith, f.0)), lt-ltb (r p) (suc k) f.0))
          (λ f. rw (le-ltb (r p) (suc (suc k)) (omega (arith, f.0)), le-ltb (r p) (suc k) (omega (arith, f.0))))
          (rank_by_is places rows held k p (omega arith))

      same : (p : ℕ) → p < length (after places rows held (suc k))
          → get_or (after places rows held (suc k)) p false ≡ get_or (after places rows held k) p false
      same p h =
          let b : p < places = rw (reached_length places (by_rows rows) held (suc k)) at h in
          let stay : rank_by places rows held (suc k) p ≡ r p = sym (get_d_ranks_by (suc k) p b) ∙ ap (λ l. get_or l p 0) e ∙ get_d_ranks_by k p b in
          sym (rank_by_below places rows held (suc k) p small) ∙ ap (λ x. ltb x (suc (suc k))) stay ∙ wider p
          ∙ rank_by_below places rows held k p (omega arith)

  -- and where it adds nothing they are the final ones
  ranks_final : (k : ℕ) → k ≤ places → places < none → after places rows held (suc k) ≡ after places rows held k
      → ranks_by places rows held k ≡ ranks_of places rows held
  unfolding ranks_by ranks_of
  ranks_final k l small e = tabulate_same 0 places places _ _ refl (λ p h. rank_by_final places rows held k places p e l small)

  pub start_ranks_is : start_ranks places held ≡ ranks_by places rows held zero
  unfolding ranks_by rank_by start_ranks
  start_ranks_is = tabulate_same 0 places places _ _ refl (λ p h. rw (after_start places rows held p h))

  -- the ranks below k + 1 are told by k rounds
  below_earlier : (k : ℕ) → suc (suc k) ≤ none → below (suc k) (ranks_by places rows held (suc k)) ≡ after places rows held k
  unfolding ranks_by
  below_earlier k small = below_tabulate (suc k) places _ _ (reached_length places (by_rows rows) held k) (λ p h. same p)
    where
      r : ℕ → ℕ
      r p = rank_by places rows held (suc k) p

      same : (p : ℕ) → ltb (r p) (suc k) ≡ has (after places rows held k) p
      same p =
          ⊎_elim
          (λ f. ⊎_elim
          (λ h. lt-ltb (r p) (suc k) (omega (arith, h)) ∙ sym (earlier places (by_rows rows) held (r p) k h p f.1))
          (λ h. le-ltb (r p) (suc k) (omega (arith, h)) ∙ sym (f.2 k h))
          (le_or_lt (r p) k))
          (λ f. le-ltb (r p) (suc k) (omega (arith, f.0)) ∙ sym (f.1 k (omega arith)))
          (rank_by_is places rows held (suc k) p small)

  -- what the rows give from the ranks below k + 1 has a rank after k + 1 rounds
  settled_by : (k : ℕ) → suc (suc k) ≤ none → Settled (suc k) rows (ranks_by places rows held (suc k))
  unfolding ranks_by
  settled_by k small p b g n =
      let inside : p < places = rw length_tabulate at b in
      let known = after places rows held k in
      let given : by_rows rows known p ≡ true = rw (below_earlier k small) at g in
      ⊎_elim
      (λ f. omega (arith, f.0, get_d_ranks_by (suc k) p inside, n))
      (λ f. clash (after_more places rows held k p inside ∙ or_right (has known p) (by_rows rows known p) given) (f.1 (suc k) (omega arith)))
      (rank_by_is places rows held (suc k) p small)

  -- ---- a round, k + 1, from the ranks l to the ranks m

  pub record Turn (k : ℕ) (l m : List ℕ) : Type 0 where
    pub small : suc (suc k) ≤ none
    pub before : l ≡ ranks_by places rows held k
    pub step : m ≡ ranks_after (k + 1) rows l

  module _ {k : ℕ} {l m : List ℕ} (t : Turn k l m) where
    open t use {small, before, step}

    pub round_ranks : m ≡ ranks_by places rows held (k + 1)
    round_ranks = step ∙ ap (ranks_after (k + 1) rows) before ∙ rw (add-one k) (ranks_after_is k small)

    -- after one that adds nothing the ranks are the final ones
    pub round_last : k ≤ places → places < none → m ≡ l → m ≡ ranks_of places rows held
    round_last early few same =
        let still : ranks_by places rows held (suc k) ≡ ranks_by places rows held k = rw (← add-one k) (sym round_ranks ∙ same ∙ before) in
        same ∙ before ∙ ranks_final k early few (ranks_stay k small still)

    -- no place has a rank above k before it,
    pub round_low : (p : ℕ) → p < places → (get_or l p 0 ≡ none → ⊥) → get_or l p 0 ≤ k
    round_low p b n =
        let same : get_or l p 0 ≡ rank_by places rows held k p = ap (λ x. get_or x p 0) before ∙ get_d_ranks_by k p b in
        ⊎_elim (λ f. omega (arith, f.0, same)) (λ f. absurd (n (same ∙ f.0))) (rank_by_is places rows held k p (omega (arith, small)))

    -- so none has rank k + 1,
    pub round_new : (p : ℕ) → p < places → get_or l p 0 ≡ k + 1 → ⊥
    round_new p b e = omega (arith, e, round_low p b (λ n. omega (arith, e, n, small)))

    -- a rank up to k was there before it,
    pub round_old : (p : ℕ) → p < length l → get_or m p 0 < k + 1 → get_or m p 0 ≡ get_or l p 0
    unfolding ranks_after
    round_old p b low =
        let is = ap (λ x. get_or x p 0) step ∙ get_d_mark (k + 1) _ l p b in
        is ∙ low_stays (k + 1) (get_or l p 0) (eqb (get_or l p 0) none && by_rows rows (below (k + 1) l) p) (rw is at low)

    -- and nothing is left to be given by lower ranks than k, but at the start
    pub round_settled : (k ≡ 0) ⊎ Settled k rows l
    round_settled = go k small before
      where
        go : (j : ℕ) → suc (suc j) ≤ none → l ≡ ranks_by places rows held j → (j ≡ 0) ⊎ Settled j rows l
        go zero s e = inl refl
        go (suc j) s e = inr (rw e (settled_by j (omega arith)))

-- without rows the ranks before the first round are the last ones
pub no_rows : (places : ℕ) (held : List Bool) → places < none → start_ranks places held ≡ ranks_of places [] held
no_rows places held small =
    round_last places [] held
    (record { small = omega arith; before = start_ranks_is places [] held; step = unfold ranks_after in mark_never 1 _ _ (λ p. refl) })
    (omega arith) small refl
