-- Laws of reaching: ranks fall from a literal to the opposites of its support's other literals, so that `reaches` has steps enough.
use Rattle.meaning.proofs.Kit.{◌≡◌, ap, refl, ⊎_elim, ◌≢◌, true, false, Bool, cond, ◌&&◌, not, List, [], ◌∷◌, In, in_nil, ◌≤◌, ℕ, ◌<◌, suc}
use Rattle.meaning.proofs.Kit.{zero, arith, eqb, length, get_or, eqb-false}
use Rattle.meaning.specs.Tests.{none}
use Rattle.meaning.specs.Literals.{opp, has}
use Rattle.meaning.specs.Rounds.{by_rows, after, rank_of, support_of}
use Rattle.meaning.specs.Ground.{reaches_in, reaches}
use Rattle.meaning.specs.Promises.{PremiseReaches, OthersReach}
use Rattle.meaning.proofs.Tests.{any_same}
use Rattle.meaning.proofs.Literals.{has_below}
use Rattle.meaning.proofs.Rounds.{reached_length}
use Rattle.meaning.proofs.Gives.{gives_words}
use Rattle.meaning.proofs.Ranks.{rank_of_is, rank_le}
use Rattle.meaning.proofs.Supports.{support_of_held, support_of_none, support_of_is}

-- past the last row there is nothing
pub past_end : (rows : List (List ℕ)) (r : ℕ) → length rows ≤ r → get_or rows r [] ≡ []
past_end [] r h = refl
past_end (row ∷ rows) zero h = absurd (omega arith)
past_end (row ∷ rows) (suc r) h = past_end rows r (omega arith)

module _ (places : ℕ) (rows : List (List ℕ)) (held : List Bool) (small : places < none) (few : length rows ≤ none) where
  abbrev rank : ℕ → ℕ
  rank p = rank_of places rows held p

  abbrev support : ℕ → List ℕ
  support p = get_or rows (support_of places rows held p) []

  no_support : (p q : ℕ) → support_of places rows held p ≡ none → In q (support p) → ⊥
  no_support p q e m = in_nil (rw (e, past_end rows none few) at m)

  -- the opposite of another literal of a literal's support has a smaller rank
  pub ranks_fall : (p q : ℕ) → p < places → In q (get_or rows (support_of places rows held p) []) → q ≢ p
      → (opp q < places) × (rank_of places rows held (opp q) < rank_of places rows held p) × (rank_of places rows held (opp q) < places)
  ranks_fall p q b m d =
      ⊎_elim (λ f. go (rank p) refl f.0) (λ f. absurd (no_support p q (support_of_none places rows held p f.0) m))
      (rank_of_is places rows held p small)
    where
      known : (k : ℕ) → suc k ≤ places → rank p ≡ suc k → has (after places rows held k) (opp q) ≡ true
          → (opp q < places) × (rank (opp q) < rank p) × (rank (opp q) < places)
      known k l e h =
          let c = rank_le places rows held small k (opp q) (omega arith) h in
          let a = has_below (after places rows held k) (opp q) h in
          let s = reached_length places (by_rows rows) held k in
          (omega arith, omega arith, omega arith)

      go : (n : ℕ) → rank p ≡ n → n ≤ places → (opp q < places) × (rank (opp q) < rank p) × (rank (opp q) < places)
      go zero e l = absurd (no_support p q (support_of_held places rows held p e) m)
      go (suc k) e l =
          let s = support_of_is places rows held k p b small few e (omega arith) in
          ⊎_elim (λ x. absurd (d x)) (λ h. known k l e h) ((gives_words (after places rows held k) (support p) p s.1).1 q m)

  -- steps beyond the rank change nothing
  abbrev in_steps : ℕ → ℕ → ℕ → Bool
  in_steps n p h = reaches_in n (support_of places rows held) rows held p h

  enough : (n m p h : ℕ) → p < places → rank p < n → rank p < m → in_steps n p h ≡ in_steps m p h
  unfolding reaches_in
  enough zero m p h b l r = absurd (omega arith)
  enough (suc n) zero p h b l r = absurd (omega arith)
  enough (suc n) (suc m) p h b l r = rest (λ q c s t. enough n m (opp q) h c s t)
    where
      rest : ((q : ℕ) → opp q < places → rank (opp q) < n → rank (opp q) < m → in_steps n (opp q) h ≡ in_steps m (opp q) h)
          → in_steps (suc n) p h ≡ in_steps (suc m) p h
      rest ih = ap (cond (has held p) (eqb p h)) (any_same _ _ (support p) (λ q i. each q i (eqb q p) refl))
        where
          each : (q : ℕ) → In q (support p) → (t : Bool) → eqb q p ≡ t → (not t && in_steps n (opp q) h) ≡ (not t && in_steps m (opp q) h)
          each q i true e = refl
          each q i false e =
              let f = ranks_fall p q b i (eqb-false q p e) in
              let below = f.1 in
              ih q f.0 (omega arith) (omega arith)

pub premise_reaches : PremiseReaches
unfolding reaches reaches_in
premise_reaches places rows held p h e = rw e

pub others_reach : OthersReach
unfolding reaches reaches_in
others_reach places rows held p h small few b e =
    rw e (any_same _ _ (get_or rows (support_of places rows held p) []) (λ q i. each q i (eqb q p) refl))
  where
    steps : ℕ → ℕ → Bool
    steps n q = reaches_in n (support_of places rows held) rows held q h

    each : (q : ℕ) → In q (get_or rows (support_of places rows held p) []) → (t : Bool) → eqb q p ≡ t
        → (not t && steps places (opp q)) ≡ (not t && steps (suc places) (opp q))
    each q i true d = refl
    each q i false d =
        let f = ranks_fall places rows held small few p q b i (eqb-false q p d) in
        let l = f.2 in
        enough places rows held small few places (suc places) (opp q) h f.0 l (omega arith)
