-- A list written over the front of another, an element at a time.
use Rattle.meaning.proofs.Kit.{◌≡◌, ◌∙◌, sym, ap, List, ◌++◌, ◌≤◌, ℕ, ◌<◌, ◌+◌, suc, add-one, arith, length, get_or, drop, take, set, length-set}
use Rattle.meaning.proofs.Kit.{length-take-le, drop-cons, take-suc, take-length, append_snoc, set_at}

module _ {A : Type 0} where
  -- the first k elements of `new` are written
  pub record Copied (new old to : List A) (k : ℕ) : Type 0 where
    pub within : k ≤ length new
    pub same : length to ≡ length old
    pub is : to ≡ take k new ++ drop k old

  module _ (new old : List A) (fits : length new ≤ length old) where
    pub copied_more : (z : A) (to : List A) (k : ℕ) → Copied new old to k → k < length new → Copied new old (set to k (get_or new k z)) (k + 1)
    copied_more z to k c h =
        let inside : k < length old = omega arith in
        let front = length-take-le k new (omega arith) in
        record {
          within = omega arith;
          same = length-set to k (get_or new k z) ∙ c.same;
          is =
              ap (λ (l : List A). set l k (get_or new k z)) (c.is ∙ ap (λ (l : List A). take k new ++ l) (drop-cons old k z inside))
              ∙ set_at (take k new) (get_or old k z) (drop (suc k) old) (get_or new k z) k front
              ∙ rw (add-one, take-suc new k z) (sym (append_snoc (take k new) (get_or new k z) (drop (suc k) old)));
        }

    pub copied_all : (to : List A) (k : ℕ) → Copied new old to k → length new ≤ k → to ≡ new ++ drop (length new) old
    copied_all to k c h = let all : k ≡ length new = omega (arith, c.within) in c.is ∙ rw (all, take-length new)
