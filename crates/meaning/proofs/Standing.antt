-- A literal stands on the premises that it reaches: they are held, and wherever they are held, with these rows, the round of its rank has it.
use Rattle.meaning.proofs.Kit.{◌≡◌, ◌∙◌, sym, refl, ⊎_elim, inl, inr, ◌≢◌, true, false, Bool, ◌&&◌, not, List, [], In, ◌≤◌, ℕ, ◌<◌, ◌-◌, suc}
use Rattle.meaning.proofs.Kit.{zero, zero-le, arith, eqb, length, get_or, ne_eqb, eq-eqb, not-true, eqb-true, eqb-false, ltb-false}
use Rattle.meaning.specs.Tests.{none}
use Rattle.meaning.specs.Literals.{opp, has}
use Rattle.meaning.specs.Rounds.{gives, by_rows, after, derived, rank_of, support_of}
use Rattle.meaning.specs.Ground.{reaches}
use Rattle.meaning.proofs.Tests.{true_or_false, both_true, and_intro, or_right, not_intro, any_found, any_at, in_at}
use Rattle.meaning.proofs.Rounds.{earlier}
use Rattle.meaning.proofs.Gives.{gives_words, gives_of}
use Rattle.meaning.proofs.Ranks.{after_start, after_more, held_rank, rank_zero, rank_le}
use Rattle.meaning.proofs.Supports.{support_of_is}
use Rattle.meaning.proofs.Reach.{ranks_fall, premise_reaches, others_reach}

module _ (places : ℕ) (rows : List (List ℕ)) (held : List Bool) (small : places < none) (few : length rows ≤ none) where
  abbrev rank : ℕ → ℕ
  rank p = rank_of places rows held p

  abbrev row : ℕ → List ℕ
  row p = get_or rows (support_of places rows held p) []

  abbrev reach : ℕ → ℕ → Bool
  reach p x = reaches places rows held p x

  -- what is reached is a held premise
  held_in : (n p x : ℕ) → p < places → rank p < n → reach p x ≡ true → (x < places) × (has held x ≡ true)
  held_in zero p x b l e = absurd (omega arith)
  held_in (suc n) p x b l e = ⊎_elim itself (another (λ q. held_in n q x)) (true_or_false (has held p))
    where
      itself : has held p ≡ true → (x < places) × (has held x ≡ true)
      itself t = let same = eqb-true p x (sym (premise_reaches places rows held p x t) ∙ e) in (rw same at b, rw same at t)

      another : ((q : ℕ) → q < places → rank q < n → reach q x ≡ true → (x < places) × (has held x ≡ true)) → has held p ≡ false
          → (x < places) × (has held x ≡ true)
      another ih o =
          let f = any_found (λ (q : ℕ). not (eqb q p) && reach (opp q) x) (row p) (sym (others_reach places rows held p x small few b o) ∙ e) in
          let q = f.0 in
          let g = both_true (not (eqb q p)) (reach (opp q) x) f.2 in
          let fall = ranks_fall places rows held small few p q b f.1 (eqb-false q p (not-true (eqb q p) g.0)) in
          ih (opp q) fall.0 (omega (arith, fall.1)) g.1

  pub reached_held : (p x : ℕ) → p < places → reaches places rows held p x ≡ true → (x < places) × (has held x ≡ true)
  reached_held p x b e = held_in (suc (rank p)) p x b (omega arith) e

  -- a literal that is not held reaches what the opposites of its support's other literals reach
  pub reaches_on : (p : ℕ) → p < places → has held p ≡ false → (q : ℕ) → In q (get_or rows (support_of places rows held p) []) → q ≢ p
      → (x : ℕ) → reaches places rows held (opp q) x ≡ true → reaches places rows held p x ≡ true
  reaches_on p b o q m e x r =
      others_reach places rows held p x small few b o
      ∙ any_at (λ (y : ℕ). not (eqb y p) && reach (opp y) x) m
      (and_intro (not (eqb q p)) (reach (opp q) x) (not_intro (eqb q p) (ne_eqb q p e)) r)

  -- its support contains it, and is one of the rows
  pub supported : (p : ℕ) → p < places → has held p ≡ false → rank_of places rows held p ≤ places
      → (support_of places rows held p < length rows) × In p (get_or rows (support_of places rows held p) [])
  supported p b o l =
      let above = ltb-false (rank p) 1 (held_rank places rows held small p b ∙ o) in
      let s = support_of_is places rows held (rank p - 1) p b small few (omega arith) (omega arith) in
      (s.0, (gives_words (after places rows held (rank p - 1)) (row p) p s.1).0)

  -- ---- on a board that has these rows, and maybe others, and holds what the literal reaches

  module _ (more : List (List ℕ)) (now : List Bool) (kept : (row : List ℕ) → In row rows → In row more) where
    abbrev Covered : ℕ → Type 0
    Covered p = (x : ℕ) → reach p x ≡ true → has now x ≡ true

    -- every round has what is held,
    at_start : (n p : ℕ) → p < places → has held p ≡ true → Covered p → has (after places more now n) p ≡ true
    at_start n p b t c =
        earlier places (by_rows more) now zero n zero-le p
        (after_start places more now p b ∙ c p (premise_reaches places rows held p p t ∙ eq-eqb p p refl))

    -- and each round what has its rank by then
    pub in_round : (n p : ℕ) → n ≤ places → p < places → rank_of places rows held p ≤ n
        → ((x : ℕ) → reaches places rows held p x ≡ true → has now x ≡ true) → has (after places more now n) p ≡ true
    in_round zero p top b l c = at_start zero p b ((rank_zero places rows held p small b).0 (omega arith)) c
    in_round (suc n) p top b l c = ⊎_elim (λ t. at_start (suc n) p b t c) (another (in_round n)) (true_or_false (has held p))
      where
        another : ((q : ℕ) → n ≤ places → q < places → rank q ≤ n → Covered q → has (after places more now n) q ≡ true) → has held p ≡ false
            → has (after places more now (suc n)) p ≡ true
        another ih o =
            let s = supported p b o (omega arith) in
            after_more places more now n p b
            ∙ or_right (has (after places more now n) p) (by_rows more (after places more now n) p)
            (any_at (λ (r : List ℕ). gives (after places more now n) r p) (kept (row p) (in_at rows (support_of places rows held p) [] s.0))
            (gives_of (after places more now n) (row p) p s.1
            (λ q m. ⊎_elim (λ e. inl (eqb-true q p e)) (λ e. inr (before q m (eqb-false q p e))) (true_or_false (eqb q p)))))
          where
            before : (q : ℕ) → In q (row p) → q ≢ p → has (after places more now n) (opp q) ≡ true
            before q m e =
                let fall = ranks_fall places rows held small few p q b m e in
                ih (opp q) (omega arith) fall.0 (omega (arith, fall.1)) (λ x r. c x (reaches_on p b o q m e x r))

    -- so it is derived there
    pub stands : (p : ℕ) → p < places → has (derived places rows held) p ≡ true → Covered p → has (derived places more now) p ≡ true
    stands p b h c = in_round places p (omega arith) b (rank_le places rows held small places p (omega arith) h) c
