-- Laws of the queue's frontier: the places of the last rank stand at its end, and those of the ranks before it come before them.
use Rattle.meaning.proofs.Kit.{◌≡◌, ◌∙◌, sym, ap, refl, subst, ⊎_elim, ◌⊎◌, true, false, Bool, cond, List, [], ◌∷◌, ◌++◌, ◌≤◌, ℕ, ◌<◌, ◌+◌, suc, zero}
use Rattle.meaning.proofs.Kit.{add-zero, add-one, arith, length, get_or, set, get_or-set_other, get_or-set_same, below_none}
use Rattle.meaning.specs.Tests.{tabulate, none}
use Rattle.meaning.specs.Literals.{has}
use Rattle.meaning.proofs.Tests.{clash}
use Rattle.meaning.proofs.Tables.{length_tabulate, get_d_tabulate, tabulate_snoc, le_or_lt}
use Rattle.findings.specs.Queue.{counted, Queued, AllQueued}
use Rattle.findings.proofs.Queueing.{same_or_not, counted_le}
use Rattle.rounds.specs.Ranks.{start_ranks}
use Rattle.rounds.specs.Queue.{ranked, Premises, Frontier}

-- ---- round by round

-- only what stands in the queue before its end matters
pub frontier_kept : {l q r : List ℕ} {k from to : ℕ} → from ≤ to → ((i : ℕ) → i < to → get_or r i 0 ≡ get_or q i 0)
    → Frontier l q k from to → Frontier l r k from to
frontier_kept up same front =
    record {
      has = λ p b e. (let f = front.has p b e in (f.0, f.1, f.2, same f.0 f.2 ∙ f.3));
      lower = λ p b e. (let f = front.lower p b e in (f.0, f.1, same f.0 (omega (arith, f.1, up)) ∙ f.2));
      inside = λ i h. rw (same i h) (front.inside i h);
    }

-- the places of a rank that no place had are those that were put; a lower rank was there before
pub frontier_next : {l m q r : List ℕ} {k from t e : ℕ} → from ≤ t → length m ≡ length l → Frontier l q k from t → Queued ranked 0 l m q t r e
    → ((p : ℕ) → p < length l → get_or l p 0 ≡ k + 1 → ⊥) → ((p : ℕ) → p < length l → get_or m p 0 < k + 1 → get_or m p 0 ≡ get_or l p 0)
    → Frontier m r (k + 1) t e
frontier_next {l} {m} {q} {r} {k} {from} {t} {e} up long front w new old =
    record {
      has = λ p b is. (let c : p < length l = rw long at b in ⊎_elim (λ y. absurd (new p c (sym y ∙ is))) (λ y. y) (w.put p c));
      lower = λ p b low. (let c : p < length l = rw long at b in before p c (omega (arith, old p c low, low)));
      inside = λ i c. rw long (within i c (le_or_lt t i));
    }
  where
    before : (p : ℕ) → p < length l → get_or l p 0 ≤ k → (i : ℕ) × (i < t) × (get_or r i 0 ≡ p)
    before p c low =
        ⊎_elim
        (λ y. (let f = front.has p c y in (f.0, f.2, w.kept f.0 f.2 ∙ f.3)))
        (λ y. (let f = front.lower p c (omega (arith, y, low)) in let s : f.0 < t = omega (arith, f.1, up) in (f.0, s, w.kept f.0 s ∙ f.2)))
        (same_or_not (get_or l p 0) k)

    within : (i : ℕ) → i < e → (t ≤ i) ⊎ (i < t) → get_or r i 0 < length l
    within i c s = ⊎_elim (λ h. w.inside i h c) (λ h. rw (w.kept i h) (front.inside i h)) s

-- where no rank is above k all that have one stand in the queue
pub frontier_all : {l q : List ℕ} {k from to : ℕ} → from ≤ to → to ≤ length l → Frontier l q k from to
    → ((p : ℕ) → p < length l → (get_or l p 0 ≡ none → ⊥) → get_or l p 0 ≤ k) → AllQueued l q to
frontier_all {l} {q} {k} {to = to} up few front low = record { few = few; has = at; inside = front.inside }
  where
    at : (p : ℕ) → p < length l → (get_or l p 0 ≡ none → ⊥) → (i : ℕ) × (i < to) × (get_or q i 0 ≡ p)
    at p b n =
        ⊎_elim
        (λ y. (let f = front.has p b y in (f.0, f.2, f.3)))
        (λ y. (let f = front.lower p b (omega (arith, low p b n, y)) in (f.0, omega (arith, f.1, up), f.2)))
        (same_or_not (get_or l p 0) k)

-- ---- the premises, place by place

counted_snoc : (l : List ℕ) (r : ℕ) → counted ranked (l ++ r ∷ []) ≡ counted ranked l + cond (ranked r) 1 0
unfolding counted
counted_snoc [] r = omega arith
counted_snoc (x ∷ l) r = omega (arith, counted_snoc l r)

module _ {held : List Bool} where
  pub premises_none : {q : List ℕ} → Premises 0 held q 0
  unfolding counted start_ranks
  premises_none = record { count = refl; each = below_none _; inside = below_none _ }

  module _ {p : ℕ} {q : List ℕ} {e : ℕ} (w : Premises p held q e) where
    -- one place more
    count_more : {t : Bool} → has held p ≡ t → counted ranked (start_ranks (p + 1) held) ≡ e + cond (ranked (cond t 0 none)) 1 0
    unfolding start_ranks
    count_more {t} is =
        rw (add-one p) (ap (counted ranked) (tabulate_snoc p (λ i. cond (has held i) 0 none)))
        ∙ counted_snoc (tabulate p (λ i. cond (has held i) 0 none)) (cond (has held p) 0 none)
        ∙ rw (w.count, is)

    -- there is a place in the queue for each
    pub premises_few : e ≤ p
    unfolding start_ranks
    premises_few = omega (arith, w.count, counted_le ranked (start_ranks p held), length_tabulate p (λ i. cond (has held i) 0 none))

    -- a premise,
    pub premises_held : has held p ≡ true → p < length q → Premises (p + 1) held (set q e p) (e + 1)
    premises_held is room =
        let free : e < length q = omega (arith, premises_few) in
        record {
          count = sym (count_more is);
          each = λ i h y. ⊎_elim
              (λ x. (e, omega arith, get_or-set_same q e p 0 free ∙ sym x))
              (λ d. (let f = w.each i (omega (arith, d)) y in
              (f.0, omega (arith, f.1), get_or-set_other q e f.0 p 0 (λ s. omega (arith, s, f.1)) ∙ f.2)))
              (same_or_not i p);
          inside = λ j h. ⊎_elim
              (λ x. omega (arith, ap (λ i. get_or (set q e p) i 0) x ∙ get_or-set_same q e p 0 free))
              (λ d. rw (get_or-set_other q e j p 0 d) (omega (arith, w.inside j (omega (arith, d)))))
              (same_or_not j e);
        }

    -- or none
    pub premises_not : has held p ≡ false → Premises (p + 1) held q e
    premises_not is =
        record {
          count = sym (count_more is ∙ omega arith);
          each = λ i h y. ⊎_elim
              (λ x. clash (subst (λ z. has held z ≡ true) x y) is)
              (λ d. w.each i (omega (arith, d)) y)
              (same_or_not i p);
          inside = λ j h. omega (arith, w.inside j h);
        }

  -- several that are not held
  pub premises_past : {p : ℕ} {q : List ℕ} {e : ℕ} → Premises p held q e → (n : ℕ) → ((i : ℕ) → i < n → has held (p + i) ≡ false)
      → Premises (p + n) held q e
  premises_past {p} w zero out = rw (add-zero p) w
  premises_past {p} {q} {e} w (suc n) out =
      let next : p + n + 1 ≡ p + suc n = omega arith in
      subst (λ x. Premises x held q e) next (premises_not (premises_past w n (λ i h. out i (omega arith))) (out n (omega arith)))

  -- all of them: the places of rank 0 before the first round
  pub premises_all : {e : ℕ} {l q : List ℕ} → l ≡ start_ranks (length l) held → Premises (length l) held q e
      → (e ≡ counted ranked l) × Frontier l q 0 0 e
  unfolding start_ranks
  premises_all {e} {l} {q} is w = (
    w.count ∙ ap (counted ranked) (sym is),
    record {
      has = λ p b z. (let f = w.each p b (zero_held p b z) in (f.0, omega arith, f.1, f.2));
      lower = λ p b z. absurd (omega arith);
      inside = w.inside;
    },
  )
    where
      zero_held : (p : ℕ) → p < length l → get_or l p 0 ≡ 0 → has held p ≡ true
      zero_held p h z = go (has held p) (sym (ap (λ x. get_or x p 0) is ∙ get_d_tabulate (length l) (λ i. cond (has held i) 0 none) p 0 h) ∙ z)
        where
          go : (t : Bool) → cond t 0 none ≡ 0 → t ≡ true
          go true y = refl
          go false y = absurd (omega (arith, y))
