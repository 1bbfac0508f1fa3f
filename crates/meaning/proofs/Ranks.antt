-- Laws of ranks: what they are, the rule of the rounds in 01's words, and that no rank is above 2S.
use Rattle.meaning.proofs.Kit.{◌≡◌, ◌∙◌, sym, ap, refl, ⊎_elim, inl, inr, ◌⊎◌, ◌≢◌, true, false, Bool, cond, ◌&&◌, not, ◌||◌, List, In, ◌≤◌, ℕ}
use Rattle.meaning.proofs.Kit.{◌<◌, ◌-◌, ◌+◌, suc, ◌*◌, zero, zero-le, arith, eqb, ltb, length, ne_eqb, not-true, eqb-true, ltb-true, lt-ltb}
use Rattle.meaning.proofs.Kit.{le-ltb, eqb-false}
use Rattle.meaning.specs.Tests.{any, from, none, first}
use Rattle.meaning.specs.Literals.{opp, has, Within}
use Rattle.meaning.specs.Rounds.{gives, by_rows, reached, after, derived, rank_by, rank_of}
use Rattle.meaning.specs.Promises.{GivenIn, RankGiven, RankZero, RankRule, RoundsEnd, DerivedRanked, RankBound}
use Rattle.meaning.proofs.Tests.{true_or_false, both_true, and_intro, not_intro, false_of, clash, or_right, any_found, any_at, in_from}
use Rattle.meaning.proofs.Tables.{le_or_lt, FirstIs, first_is, first_only, get_d_tabulate}
use Rattle.meaning.proofs.Literals.{same_set}
use Rattle.meaning.proofs.Rounds.{reached_below, reached_length, next_at, next_keeps, settled, earlier, stays}
use Rattle.meaning.proofs.Gives.{gives_words, gives_of}

-- no round after as many as there are places adds anything
last_round : (places : ℕ) (rows : List (List ℕ)) (held : List Bool) (k : ℕ) → places ≤ k → after places rows held k ≡ derived places rows held
unfolding reached
last_round places rows held k l =
    let same : places + (k - places) ≡ k = omega arith in
    rw same at (stays places (by_rows rows) held places (k - places) (settled places (by_rows rows) held))

module _ (places : ℕ) (rows : List (List ℕ)) (held : List Bool) where
  -- the test that a rank is the first to pass
  abbrev at : ℕ → ℕ → Bool
  at p k = has (after places rows held k) p

  pub after_start : (p : ℕ) → p < places → has (after places rows held zero) p ≡ has held p
  unfolding reached
  after_start p h = get_d_tabulate places _ p false h

  -- one round, place by place
  pub after_more : (k p : ℕ) → p < places
      → has (after places rows held (suc k)) p ≡ (has (after places rows held k) p || by_rows rows (after places rows held k) p)
  unfolding reached
  after_more k p h = next_at places (by_rows rows) (after places rows held k) p h

  -- ---- the rank as far as k rounds tell

  pub rank_by_is : (k p : ℕ) → suc k ≤ none → FirstIs (λ j. has (after places rows held j) p) (suc k) (rank_by places rows held k p)
  unfolding rank_by
  rank_by_is k p small = first_is (at p) (suc k) small

  -- a literal has a rank within k rounds exactly if round k has it
  pub rank_by_below : (k p : ℕ) → suc k ≤ none → ltb (rank_by places rows held k p) (suc k) ≡ has (after places rows held k) p
  rank_by_below k p small =
      ⊎_elim
      (λ f. lt-ltb (rank_by places rows held k p) (suc k) f.0
      ∙ sym (earlier places (by_rows rows) held (rank_by places rows held k p) k (omega (arith, f.0)) p f.1))
      (λ f. le-ltb (rank_by places rows held k p) (suc k) (omega (arith, f.0)) ∙ sym (f.1 k (omega arith)))
      (rank_by_is k p small)

  -- the rank after one round more, from the rank before it
  pub rank_by_next : (k p : ℕ) → p < places → suc (suc k) ≤ none
      → cond (eqb (rank_by places rows held k p) none && by_rows rows (after places rows held k) p) (suc k) (rank_by places rows held k p)
      ≡ rank_by places rows held (suc k) p
  unfolding rank_by
  rank_by_next k p b small =
      ⊎_elim
      (λ f. rw (ne_eqb (first (at p) (suc k)) none (λ e. omega (arith, f.0, e)), lt-ltb _ _ f.0))
      (λ f. rw (le-ltb (first (at p) (suc k)) (suc k) (omega (arith, f.0)), f.0, after_more k p b, f.1 k (omega arith)))
      (rank_by_is k p (omega arith))

  -- where a round adds nothing, the ranks so far are the ranks after any number of rounds
  pub rank_by_final : (k n p : ℕ) → after places rows held (suc k) ≡ after places rows held k → k ≤ n → suc n ≤ none
      → rank_by places rows held k p ≡ rank_by places rows held n p
  rank_by_final k n p e l small =
      first_only (at p) (suc n) r (rank_by places rows held n p) (⊎_elim found missing (rank_by_is k p (omega arith))) (rank_by_is n p small)
    where
      r : ℕ
      r = rank_by places rows held k p

      found : (r < suc k) × (at p r ≡ true) × ((i : ℕ) → i < r → at p i ≡ false) → FirstIs (at p) (suc n) r
      found f = inl (omega (arith, f.0), f.1, f.2)

      late : ((i : ℕ) → i < suc k → at p i ≡ false) → (i : ℕ) → (i ≤ k) ⊎ (k < i) → at p i ≡ false
      late f i (inl h) = f i (omega arith)
      late f i (inr h) =
          let same : k + (i - k) ≡ i = omega arith in
          let stay : after places rows held i ≡ after places rows held k = rw same at (stays places (by_rows rows) held k (i - k) e) in
          rw stay (f k (omega arith))

      missing : (r ≡ none) × ((i : ℕ) → i < suc k → at p i ≡ false) → FirstIs (at p) (suc n) r
      missing f = inr (f.0, λ i h. late f.1 i (le_or_lt i k))

  -- ---- the rank

  -- the least k with the literal known after k rounds, which is at most the number of places; or none, if it never is
  abbrev pub RankIs : ℕ → ℕ → Type 0
  RankIs p r =
      ((r ≤ places) × (has (after places rows held r) p ≡ true) × ((k : ℕ) → k < r → has (after places rows held k) p ≡ false))
      ⊎ ((r ≡ none) × ((k : ℕ) → has (after places rows held k) p ≡ false))

  pub rank_of_is : (p : ℕ) → places < none → RankIs p (rank_of places rows held p)
  rank_of_is p small =
      ⊎_elim
      (λ f. inl (omega (arith, f.0), f.1, f.2))
      (λ f. inr (
        f.0,
        λ k. ⊎_elim (λ l. f.1 k (omega arith)) (λ l. rw (last_round places rows held k (omega arith)) (f.1 places (omega arith)))
            (le_or_lt k places),
      ))
      (rank_by_is places p small)

  -- a rank is k or below exactly if round k has the literal,
  pub rank_below : places < none → (k p : ℕ) → k ≤ places → ltb (rank_of places rows held p) (suc k) ≡ has (after places rows held k) p
  rank_below small k p l = ⊎_elim found (λ f. le-ltb r (suc k) (omega (arith, f.0)) ∙ sym (f.1 k)) (rank_of_is p small)
    where
      r : ℕ
      r = rank_of places rows held p

      found : (r ≤ places) × (at p r ≡ true) × ((i : ℕ) → i < r → at p i ≡ false) → ltb r (suc k) ≡ at p k
      found f =
          ⊎_elim
          (λ b. lt-ltb r (suc k) (omega arith) ∙ sym (earlier places (by_rows rows) held r k b p f.1))
          (λ b. le-ltb r (suc k) b ∙ sym (f.2 k b))
          (le_or_lt r k)

  pub rank_le : places < none → (k p : ℕ) → k ≤ places → has (after places rows held k) p ≡ true → rank_of places rows held p ≤ k
  rank_le small k p l h = let b = ltb-true (rank_of places rows held p) (suc k) (rank_below small k p l ∙ h) in omega arith

  pub le_rank : places < none → (k p : ℕ) → k ≤ places → rank_of places rows held p ≤ k → has (after places rows held k) p ≡ true
  le_rank small k p l h = sym (rank_below small k p l) ∙ lt-ltb (rank_of places rows held p) (suc k) (omega arith)

  -- and there is one exactly if the literal is derived
  pub derived_rank : places < none → (p : ℕ) → ltb (rank_of places rows held p) none ≡ has (derived places rows held) p
  derived_rank small p =
      ⊎_elim (λ f. lt-ltb r none (omega (arith, f.0)) ∙ sym (le_rank small places p (omega arith) f.0))
      (λ f. le-ltb r none (omega (arith, f.0)) ∙ sym (f.1 places)) (rank_of_is p small)
    where
      r : ℕ
      r = rank_of places rows held p

  -- rank 0 is that of the held premises
  pub held_rank : places < none → (p : ℕ) → p < places → ltb (rank_of places rows held p) 1 ≡ has held p
  held_rank small p h = rank_below small zero p zero-le ∙ after_start p h

  -- some row gives a literal its rank
  pub given_at_rank : (k p : ℕ) → p < places → places < none → rank_of places rows held p ≡ suc k → suc k < none
      → by_rows rows (after places rows held k) p ≡ true
  given_at_rank k p b small e l =
      ⊎_elim
      (λ f. sym (ap (λ t. t || by_rows rows (after places rows held k) p) (f.2 k (omega arith)))
      ∙ sym (after_more k p b) ∙ ap (at p) (sym e) ∙ f.1)
      (λ f. absurd (omega (arith, f.0)))
      (rank_of_is p small)

-- ---- the same in the words of the promises

pub rank_zero : RankZero
rank_zero places rows held p small b = (
  λ e. sym (held_rank places rows held small p b) ∙ lt-ltb (rank_of places rows held p) 1 (omega (arith, e)),
  λ h. (let l = ltb-true (rank_of places rows held p) 1 (held_rank places rows held small p b ∙ h) in omega arith),
)

pub derived_ranked : DerivedRanked
derived_ranked places rows held p small = (
  λ l. sym (derived_rank places rows held small p) ∙ lt-ltb (rank_of places rows held p) none l,
  λ h. ltb-true (rank_of places rows held p) none (derived_rank places rows held small p ∙ h),
)

pub rank_given : RankGiven
rank_given places rows held p k small low = (to, back)
  where
    rank : ℕ
    rank = rank_of places rows held p

    at : ℕ → Bool
    at j = has (after places rows held j) p

    to : rank_of places rows held p ≡ k → GivenIn places rows held p k
    to e =
        rw e at (⊎_elim {C = GivenIn places rows held p rank} (λ f. (f.1, f.2)) (λ f. absurd (omega (arith, f.0)))
        (rank_of_is places rows held p small))

    back : GivenIn places rows held p k → rank_of places rows held p ≡ k
    back g =
        ⊎_elim
        (λ f.
        let not-less : ¬ (rank < k) = λ l. clash f.1 (g.1 rank l) in
        let not_more : ¬ (k < rank) = λ l. clash g.0 (f.2 k l) in
        omega arith)
        (λ f. clash g.0 (f.1 k)) (rank_of_is places rows held p small)

pub rank_bound : RankBound
rank_bound S rows held p k g =
    ⊎_elim (λ l. l)
    (λ l. (let e = last_round (2 * S) rows held k (omega arith) in clash (rw e at g.0) (g.1 (2 * S) l)))
    (le_or_lt k (2 * S))

-- a round gives some literal its rank, or nothing is added from there on
pub rounds_end : RoundsEnd
unfolding reached
rounds_end places rows held k = go (any adds (from 0 places)) refl
  where
    now : List Bool
    now = after places rows held k

    then : List Bool
    then = after places rows held (suc k)

    adds : ℕ → Bool
    adds p = has then p && not (has now p)

    new : (p : ℕ) → has then p ≡ true → has now p ≡ false → GivenIn places rows held p (suc k)
    new p h n = (h, λ j l. false_of (has (after places rows held j) p) (λ t. clash (earlier places (by_rows rows) held j k (omega arith) p t) n))

    still : any adds (from 0 places) ≡ false → (m : ℕ) → k ≤ m → after places rows held m ≡ after places rows held k
    still e m l =
        let same : k + (m - k) ≡ m = omega arith in
        rw same at (stays places (by_rows rows) held k (m - k)
        (same_set then now long back (next_keeps places (by_rows rows) now (reached_length places (by_rows rows) held k))))
      where
        long : length then ≡ length now
        long = reached_length places (by_rows rows) held (suc k) ∙ sym (reached_length places (by_rows rows) held k)

        back : Within then now
        back p h =
            let b = reached_below places (by_rows rows) held (suc k) p h in
            ⊎_elim (λ t. t)
            (λ n. clash (any_at adds (in_from 0 places p (omega arith) (omega arith))
            (and_intro (has then p) (not (has now p)) h (not_intro (has now p) n))) e)
            (true_or_false (has now p))

    go : (b : Bool) → any adds (from 0 places) ≡ b
        → ((p : ℕ) × GivenIn places rows held p (suc k)) ⊎ ((m : ℕ) → k ≤ m → after places rows held m ≡ after places rows held k)
    go true e =
        let f = any_found adds (from 0 places) e in
        let w = both_true (has then f.0) (not (has now f.0)) f.2 in
        inl (f.0, new f.0 w.0 (not-true (has now f.0) w.1))
    go false e = inr (still e)

-- the rule of the rounds in 01's words
pub rank_rule : RankRule
rank_rule places rows held k p small l b = (to, back)
  where
    now : List Bool
    now = after places rows held k

    rank : ℕ → ℕ
    rank q = rank_of places rows held q

    Row : Type 0
    Row = (row : List ℕ) × In row rows × In p row × ((q : ℕ) → In q row → q ≢ p → rank_of places rows held (opp q) ≤ k)

    to : rank_of places rows held p ≡ suc k → (k < rank_of places rows held p) × Row
    to e =
        let r = any_found (λ (row : List ℕ). gives now row p) rows (given_at_rank places rows held k p b small e (omega arith)) in
        let w = gives_words now r.0 p r.2 in (
          omega arith,
          (
            r.0,
            r.1,
            w.0,
            λ q m d. ⊎_elim (λ x. absurd (d x)) (λ x. rank_le places rows held small k (opp q) (omega arith) x)
                (w.1 q m),
          ),
        )

    back : (k < rank_of places rows held p) × Row → rank_of places rows held p ≡ suc k
    back x =
        let r = x.1 in
        let g = gives_of now r.0 p r.2
        (λ q m. ⊎_elim (λ e. inl (eqb-true q p e)) (λ e. inr (le_rank places rows held small k (opp q) (omega arith) (r.3 q m (eqb-false q p e))))
        (true_or_false (eqb q p))) in
        let h = after_more places rows held k p b ∙ or_right (has now p) (by_rows rows now p) (any_at (λ (row : List ℕ). gives now row p) r.1 g) in
        let c = rank_le places rows held small (suc k) p l h in
        let a = x.0 in
        omega arith
