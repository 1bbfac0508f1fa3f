-- Writing the supports of the places that stand in a queue, over none.
use Rattle.meaning.proofs.Kit.{◌≡◌, ◌∙◌, ap, refl, ⊎_elim, inl, inr, ◌⊎◌, List, ◌≤◌, ℕ, ◌<◌, ◌-◌, ◌+◌, arith, length, get_or, set, length-set}
use Rattle.meaning.proofs.Kit.{get_or-set_other, get_or-set_same}
use Rattle.meaning.specs.Tests.{tabulate, none}
use Rattle.meaning.proofs.Tables.{get_d_tabulate, tabulate_ext}
use Rattle.findings.specs.Ranks.{support_from}
use Rattle.findings.specs.Queue.{AllQueued}
use Rattle.findings.proofs.Queueing.{same_or_not}
use Rattle.findings.proofs.Givers.{support_from_none}

-- of the n places from `from` on each has what f says or none, and those that stand in the queue before `at` have what f says
pub record Searched (f : ℕ → ℕ) (queue : List ℕ) (from n at : ℕ) (supports : List ℕ) : Type 0 where
  pub long : length supports ≡ n
  either : (i : ℕ) → i < n → (get_or supports i 0 ≡ f (from + i)) ⊎ (get_or supports i 0 ≡ none)
  passed : (i : ℕ) → i < n → (j : ℕ) → j < at → get_or queue j 0 ≡ from + i → get_or supports i 0 ≡ f (from + i)

pub searched_none : {f : ℕ → ℕ} {queue : List ℕ} {from : ℕ} (supports : List ℕ) → supports ≡ tabulate (length supports) (λ i. none)
    → Searched f queue from (length supports) 0 supports
searched_none supports e =
    record {
      long = refl;
      either = λ i h. inr (ap (λ l. get_or l i 0) e ∙ get_d_tabulate (length supports) (λ (k : ℕ). none) i 0 h);
      passed = λ i h j b z. absurd (omega arith);
    }

module _ {f : ℕ → ℕ} {queue : List ℕ} {from n at : ℕ} {supports : List ℕ} (w : Searched f queue from n at supports) where
  -- the queue's next place is one of these: it gets its support,
  pub searched_put : (v : ℕ) → from ≤ get_or queue at 0 → get_or queue at 0 - from < length supports → v ≡ f (get_or queue at 0)
      → Searched f queue from n (at + 1) (set supports (get_or queue at 0 - from) v)
  searched_put v low h e =
      record {
        long = length-set supports k v ∙ w.long;
        either = λ i b. ⊎_elim (λ z. inl (here i z)) (λ d. rw (other i d) (w.either i b)) (same_or_not i k);
        passed = λ i b j c z. ⊎_elim (λ y. here i y) (λ d. other i d ∙ w.passed i b j (before i j c d z) z) (same_or_not i k);
      }
    where
      k : ℕ
      k = get_or queue at 0 - from

      here : (i : ℕ) → i ≡ k → get_or (set supports k v) i 0 ≡ f (from + i)
      here i z =
          let same : get_or queue at 0 ≡ from + i = omega (arith, z, low) in
          ap (λ x. get_or (set supports k v) x 0) z ∙ get_or-set_same supports k v 0 h ∙ e ∙ ap f same

      other : (i : ℕ) → (i ≡ k → ⊥) → get_or (set supports k v) i 0 ≡ get_or supports i 0
      other i d = get_or-set_other supports k i v 0 d

      before : (i j : ℕ) → j < at + 1 → (i ≡ k → ⊥) → get_or queue j 0 ≡ from + i → j < at
      before i j c d z =
          ⊎_elim (λ y. absurd (d (let q : get_or queue at 0 ≡ from + i = rw y at z in omega (arith, q)))) (λ y. omega (arith, c, y)) (same_or_not j at)

  -- or it is not
  pub searched_left : (get_or queue at 0 < from) ⊎ (length supports ≤ get_or queue at 0 - from) → Searched f queue from n (at + 1) supports
  searched_left out =
      record {
        long = w.long;
        either = w.either;
        passed = λ i b j c z. ⊎_elim (λ y. absurd (none_at i b (rw y at z))) (λ y. w.passed i b j (omega (arith, c, y)) z) (same_or_not j at);
      }
    where
      none_at : (i : ℕ) → i < n → get_or queue at 0 ≡ from + i → ⊥
      none_at i b q = ⊎_elim (λ x. omega (arith, q, x)) (λ x. omega (arith, q, x, b, w.long)) out

-- at the queue's end a place that does not stand in it has no rank, and so no support
pub searched_all : (rows : List (List ℕ)) {ranks queue : List ℕ} {from n at : ℕ} {supports : List ℕ}
    → Searched (support_from rows ranks) queue from n at supports → AllQueued ranks queue at → from + n ≤ length ranks
    → supports ≡ tabulate n (λ i. support_from rows ranks (from + i))
searched_all rows {ranks} {queue} {from} {n} {at} {supports} w q room = tabulate_ext 0 n _ supports w.long each
  where
    each : (i : ℕ) → i < n → get_or supports i 0 ≡ support_from rows ranks (from + i)
    each i h =
        ⊎_elim
        (λ e. ⊎_elim (λ s. s) (λ s. s ∙ support_from_none rows ranks (from + i) e) (w.either i h))
        (λ d. (let stands = q.has (from + i) (omega (arith, room, h)) d in w.passed i h stands.0 stands.1 stands.2))
        (same_or_not (get_or ranks (from + i) 0) none)
