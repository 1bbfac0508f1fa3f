-- A list made from another by a loop, an element a turn.
use Rattle.meaning.proofs.Kit.{◌≡◌, ◌∙◌, sym, refl, List, map, ◌≤◌, ℕ, ◌<◌, ◌+◌, add-one, arith, length, get_or, take, set, length-set, length-map}
use Rattle.meaning.proofs.Kit.{list_get_or_map, take_all, take-suc, take-suc-set}

module _ {A B : Type 0} (f : A → B) (xs : List A) where
  -- the first k elements of `made` are those of the list to be made
  pub record Made (made : List B) (k : ℕ) : Type 0 where
    pub within : k ≤ length xs
    pub long : length made ≡ length xs
    pub is : take k made ≡ take k (map f xs)

  pub made_none : {made : List B} → length made ≡ length xs → Made made 0
  made_none e = record { within = omega arith; long = e; is = refl }

  pub made_more : (z : A) {v : B} (made : List B) (k : ℕ) → Made made k → k < length xs → v ≡ f (get_or xs k z) → Made (set made k v) (k + 1)
  made_more z {v} made k m h e =
      let inside : k < length made = omega (arith, m.long) in
      let more : k < length (map f xs) = omega (arith, length-map xs f) in
      record {
        within = omega arith;
        long = length-set made k v ∙ m.long;
        is = rw (add-one, take-suc-set made k v inside, take-suc (map f xs) k (f z) more, m.is, e, list_get_or_map f xs k z);
      }

  pub made_all : (made : List B) (k : ℕ) → Made made k → length xs ≤ k → made ≡ map f xs
  made_all made k m h = sym (take_all k made (omega (arith, m.long))) ∙ m.is ∙ take_all k (map f xs) (omega (arith, length-map xs f))
