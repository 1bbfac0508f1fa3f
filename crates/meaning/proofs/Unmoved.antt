-- 02, Ticket 9: with any premises between its ground and those held, a derived literal has the same rank, the same support and the same ground.
use Rattle.meaning.proofs.Kit.{◌≡◌, ◌∙◌, sym, ap, refl, ⊎_elim, true, false, Bool, ◌&&◌, not, false≢true, List, [], ◌∷◌, In, here, there, ◌≤◌}
use Rattle.meaning.proofs.Kit.{ℕ, ◌<◌, suc, zero, arith, eqb, length, get_or, set, get_or-set_other, eq-eqb, eqb-false}
use Rattle.meaning.specs.Tests.{any, none}
use Rattle.meaning.specs.Literals.{opp, has, Within}
use Rattle.meaning.specs.Rounds.{by_rows, derived, rank_of, support_of}
use Rattle.meaning.specs.Ground.{reaches, ground, struck_off}
use Rattle.meaning.specs.Promises.{GaveRank, GroundHeld, GroundEnough, OnlyGround, OutsideWithdrawn}
use Rattle.meaning.proofs.Tests.{true_or_false, false_of, clash, any_same}
use Rattle.meaning.proofs.Tables.{length_tabulate, get_d_tabulate, tabulate_same}
use Rattle.meaning.proofs.Literals.{has_below}
use Rattle.meaning.proofs.Rounds.{reached_below}
use Rattle.meaning.proofs.Ranks.{rank_of_is, rank_le, rank_zero}
use Rattle.meaning.proofs.Supports.{support_of_held, support_rule}
use Rattle.meaning.proofs.Reach.{ranks_fall, premise_reaches, others_reach}
use Rattle.meaning.proofs.Standing.{reached_held, reaches_on, supported, in_round, stands}
use Rattle.meaning.proofs.Growth.{known_before}

-- a derived literal is one of the places
pub derived_below : (places : ℕ) (rows : List (List ℕ)) (held : List Bool) (p : ℕ) → has (derived places rows held) p ≡ true → p < places
derived_below places rows held p h = reached_below places (by_rows rows) held places p h

-- ---- fewer premises

module _ (places : ℕ) (rows : List (List ℕ)) (held now : List Bool) (small : places < none) (fewer : Within now held) where
  -- know no more in any round: no literal has a smaller rank
  no_sooner : (p : ℕ) → rank_of places rows held p ≤ rank_of places rows now p
  no_sooner p =
      ⊎_elim (λ f. rank_le places rows held small (rank_of places rows now p) p f.0
      (known_before places rows now held fewer (rank_of places rows now p) p f.1))
      (λ f. ⊎_elim (λ g. omega (arith, f.0, g.0)) (λ g. omega (arith, f.0, g.0)) (rank_of_is places rows held p small))
      (rank_of_is places rows now p small)

  -- ---- that have what a literal reaches

  module _ (few : length rows < none) where
    abbrev rank : ℕ → ℕ
    rank p = rank_of places rows held p

    abbrev row : ℕ → List ℕ
    row p = get_or rows (support_of places rows held p) []

    abbrev Covered : ℕ → Type 0
    Covered p = (x : ℕ) → reaches places rows held p x ≡ true → has now x ≡ true

    same_rank : (p : ℕ) → p < places → rank p ≤ places → Covered p → rank_of places rows now p ≡ rank p
    same_rank p b l c =
        let known = in_round places rows held small (omega arith) rows now (λ r m. m) (rank p) p l b (omega arith) c in
        omega (arith, rank_le places rows now small (rank p) p l known, no_sooner p)

    -- the same row is the lowest that gives it its rank
    same_support : (p : ℕ) → p < places → rank p ≤ places → Covered p → support_of places rows now p ≡ support_of places rows held p
    same_support p b l c = ⊎_elim itself another (true_or_false (has held p))
      where
        r : ℕ
        r = support_of places rows held p

        itself : has held p ≡ true → support_of places rows now p ≡ r
        itself t =
            let z = (rank_zero places rows held p small b).1 t in
            support_of_held places rows now p (same_rank p b l c ∙ z) ∙ sym (support_of_held places rows held p z)

        another : has held p ≡ false → support_of places rows now p ≡ r
        another o =
            let s = supported places rows held small (omega arith) p b o l in
            let low : r < none = omega (arith, s.0, few) in
            let f = (support_rule places rows held p r small few b low).0 refl in
            let same = same_rank p b l c in
            (support_rule places rows now p r small few b low).1
            (omega (arith, same, f.0), omega (arith, same, f.1), (f.2.0, f.2.1, λ q m e. still q m e), λ i h g. f.3 i h (earlier i g))
          where
            -- it gave the rank, and gives it
            still : (q : ℕ) → In q (row p) → (q ≡ p → ⊥) → rank_of places rows now (opp q) < rank_of places rows now p
            still q m e =
                let fall = ranks_fall places rows held small (omega arith) p q b m e in
                let covered : Covered (opp q) = λ x t. c x (reaches_on places rows held small (omega arith) p b o q m e x t) in
                let other = same_rank (opp q) fall.0 (omega (arith, fall.2)) covered in
                omega (arith, other, same_rank p b l c, fall.1)

            -- one that gives it now gave it before
            earlier : (i : ℕ) → GaveRank places rows now p i → GaveRank places rows held p i
            earlier i g = (g.0, g.1, λ q m e. omega (arith, g.2 q m e, no_sooner (opp q), same_rank p b l c))

    -- and it reaches the same premises
    same_reach : (n p x : ℕ) → p < places → rank p ≤ places → rank p < n → Covered p → reaches places rows now p x ≡ reaches places rows held p x
    same_reach zero p x b l h c = absurd (omega arith)
    same_reach (suc n) p x b l h c = ⊎_elim itself (another (λ q. same_reach n q x)) (true_or_false (has held p))
      where
        itself : has held p ≡ true → reaches places rows now p x ≡ reaches places rows held p x
        itself t =
            let here = c p (premise_reaches places rows held p p t ∙ eq-eqb p p refl) in
            premise_reaches places rows now p x here ∙ sym (premise_reaches places rows held p x t)

        another : ((q : ℕ) → q < places → rank q ≤ places → rank q < n → Covered q → reaches places rows now q x ≡ reaches places rows held q x)
            → has held p ≡ false → reaches places rows now p x ≡ reaches places rows held p x
        another ih o =
            others_reach places rows now p x small (omega arith) b (false_of (has now p) (λ e. clash (fewer p e) o))
            ∙ ap (λ (r : ℕ). any (λ q. not (eqb q p) && reaches places rows now (opp q) x) (get_or rows r [])) (same_support p b l c)
            ∙ any_same _ _ (row p) (λ q m. each q m (eqb q p) refl)
            ∙ sym (others_reach places rows held p x small (omega arith) b o)
          where
            each : (q : ℕ) → In q (row p) → (t : Bool) → eqb q p ≡ t
                → (not t && reaches places rows now (opp q) x) ≡ (not t && reaches places rows held (opp q) x)
            each q m true e = refl
            each q m false e =
                let d = eqb-false q p e in
                let fall = ranks_fall places rows held small (omega arith) p q b m d in
                ih (opp q) fall.0 (omega (arith, fall.2)) (omega (arith, fall.1))
                (λ y r. c y (reaches_on places rows held small (omega arith) p b o q m d y r))

-- ---- the promises

pub ground_below : (places : ℕ) (rows : List (List ℕ)) (held : List Bool) (p x : ℕ) → has (ground places rows held p) x ≡ true → x < places
unfolding ground
ground_below places rows held p x e = omega (arith, has_below (ground places rows held p) x e, length_tabulate places (reaches places rows held p))

pub ground_held : GroundHeld
unfolding ground
ground_held places rows held p small few b x e =
    let low = ground_below places rows held p x e in
    (reached_held places rows held small (omega arith) p x b (sym (get_d_tabulate places (reaches places rows held p) x false low) ∙ e)).1

pub ground_enough : GroundEnough
unfolding ground
ground_enough places rows held now p small few d covers fewer =
    record {
      derived = stands places rows held small (omega arith) rows now (λ r m. m) p b d c;
      rank = same_rank places rows held now small fewer few p b l c;
      support = same_support places rows held now small fewer few p b l c;
      ground =
          tabulate_same false places places (reaches places rows now p) (reaches places rows held p) refl
          (λ x h. same_reach places rows held now small fewer few (suc (rank_of places rows held p)) p x b l (omega arith) c);
    }
  where
    b : p < places
    b = derived_below places rows held p d

    l : rank_of places rows held p ≤ places
    l = rank_le places rows held small places p (omega arith) d

    c : (x : ℕ) → reaches places rows held p x ≡ true → has now x ≡ true
    c x r =
        let low = (reached_held places rows held small (omega (arith, few)) p x b r).0 in
        covers x (get_d_tabulate places (reaches places rows held p) x false low ∙ r)

pub only_ground : OnlyGround
only_ground places rows held p small few d =
    ground_enough places rows held (ground places rows held p) p small few d (λ x e. e)
    (ground_held places rows held p small few (derived_below places rows held p d))

-- ---- premises struck off

-- nothing is held that was not,
pub set_fewer : (held : List Bool) (h p : ℕ) → has (set held h false) p ≡ true → has held p ≡ true
set_fewer [] h p e = e
set_fewer (b ∷ held) zero zero e = absurd (false≢true e)
set_fewer (b ∷ held) zero (suc p) e = e
set_fewer (b ∷ held) (suc h) zero e = e
set_fewer (b ∷ held) (suc h) (suc p) e = set_fewer held h p e

pub struck_fewer : (held : List Bool) (gone : List ℕ) → Within (struck_off held gone) held
struck_fewer held [] p e = e
struck_fewer held (h ∷ gone) p e = set_fewer held h p (struck_fewer (set held h false) gone p e)

-- and what is not struck off stays
pub struck_keeps : (held : List Bool) (gone : List ℕ) (p : ℕ) → has held p ≡ true → (In p gone → ⊥) → has (struck_off held gone) p ≡ true
struck_keeps held [] p e out = e
struck_keeps held (h ∷ gone) p e out =
    struck_keeps (set held h false) gone p (get_or-set_other held h p false false (λ q. out (here q)) ∙ e) (λ m. out (there m))

pub outside_withdrawn : OutsideWithdrawn
outside_withdrawn places rows held p gone small few d outside =
    ground_enough places rows held (struck_off held gone) p small few d
    (λ x e. struck_keeps held gone x (ground_held places rows held p small few (derived_below places rows held p d) x e) (λ m. clash e (outside x m)))
    (struck_fewer held gone)
