-- Laws of a queue: how many places of a list pass, and how each that comes to pass is put at the end.
use Rattle.meaning.proofs.Kit.{◌≡◌, ◌∙◌, sym, refl, ⊎_elim, inl, inr, ◌⊎◌, true, false, Bool, cond, List, [], ◌∷◌, ◌≤◌, ℕ, ◌<◌, ◌+◌, suc, zero}
use Rattle.meaning.proofs.Kit.{not-suc-le-zero, le_of_suc-le-suc, arith, eqb, length, get_or, set, get_or-set_other, get_or-set_same, ext_get_or, eqb-true}
use Rattle.meaning.proofs.Kit.{eqb-false}
use Rattle.meaning.proofs.Tests.{true_or_false}
use Rattle.meaning.proofs.Tables.{le_or_lt}
use Rattle.findings.specs.Queue.{counted, Room, Queued}

-- two numbers are the same, or they differ
pub same_or_not : (a b : ℕ) → (a ≡ b) ⊎ (a ≡ b → ⊥)
same_or_not a b = ⊎_elim (λ e. inl (eqb-true a b e)) (λ e. inr (eqb-false a b e)) (true_or_false (eqb a b))

module _ {A : Type 0} (test : A → Bool) where
  -- ---- how many pass

  one : (x : A) → cond (test x) 1 0 ≤ 1
  one x = go (test x)
    where
      go : (t : Bool) → cond t 1 0 ≤ 1
      go true = omega arith
      go false = omega arith

  pub counted_le : (l : List A) → counted test l ≤ length l
  unfolding counted
  counted_le [] = omega arith
  counted_le (x ∷ l) = omega (arith, counted_le l, one x)

  module _ (d : A) where
    -- where one does not there are fewer than places,
    counted_room : (l : List A) (p : ℕ) → p < length l → test (get_or l p d) ≡ false → counted test l < length l
    unfolding counted
    counted_room [] p h e = absurd (not-suc-le-zero h)
    counted_room (x ∷ l) zero h e = rw e (omega (arith, counted_le l))
    counted_room (x ∷ l) (suc p) h e = omega (arith, counted_room l p (le_of_suc-le-suc h) e, one x)

    -- and one more once it does
    counted_set : (l : List A) (p : ℕ) (x : A) → p < length l → test (get_or l p d) ≡ false → test x ≡ true
        → counted test (set l p x) ≡ counted test l + 1
    unfolding counted
    counted_set [] p x h e t = absurd (not-suc-le-zero h)
    counted_set (y ∷ l) zero x h e t = rw (e, t) (omega arith)
    counted_set (y ∷ l) (suc p) x h e t = omega (arith, counted_set l p x (le_of_suc-le-suc h) e t)

-- ---- places put at the end

-- there is a place for the next one
pub queued_free : {A : Type 0} {test : A → Bool} {l : List A} {q : List ℕ} {t : ℕ} (d : A) → Room test l q t
    → (p : ℕ) → p < length l → test (get_or l p d) ≡ false → t < length q
queued_free {test} {l} d room p b e = omega (arith, counted_room test d l p b e, room.count, room.long)

module _ {A : Type 0} {test : A → Bool} {d : A} {l : List A} {q : List ℕ} {t : ℕ} where
  pub queued_none : t ≡ counted test l → Queued test d l l q t q t
  queued_none e = record { count = e; more = omega arith; kept = λ i h. refl; put = λ p b. inl refl; inside = λ i h b. absurd (omega arith) }

  module _ (room : Room test l q t) where
    pub queued_one : (p : ℕ) (x : A) → p < length l → test (get_or l p d) ≡ false → test x ≡ true → Queued test d l (set l p x) q t (set q t p) (t + 1)
    queued_one p x b e s =
        let free : t < length q = queued_free d room p b e in
        record {
          count = omega (arith, counted_set test d l p x b e s, room.count);
          more = omega arith;
          kept = λ i h. get_or-set_other q t i p 0 (λ z. omega (arith, z));
          put = λ y c.
              ⊎_elim (λ z. inr (t, omega arith, omega arith, get_or-set_same q t p 0 free ∙ sym z))
              (λ n. inl (get_or-set_other l p y x d n)) (same_or_not y p);
          inside = λ i h c. (let z : i ≡ t = omega arith in rw (z, get_or-set_same q t p 0 free) b);
        }

    -- the room is kept
    pub room_after : {m : List A} {r : List ℕ} {e : ℕ} → Queued test d l m q t r e → length m ≡ length l → length r ≡ length q → Room test m r e
    room_after w a b = record { count = w.count; long = omega (arith, room.long); few = omega (arith, room.few) }

  -- one after the other
  pub queued_more : {m n : List A} {r s : List ℕ} {e f : ℕ} → length m ≡ length l → Queued test d l m q t r e → Queued test d m n r e s f
      → Queued test d l n q t s f
  queued_more {m} {n} {r} {s} {e} {f} long v w =
      record {
        count = w.count;
        more = omega (arith, v.more, w.more);
        kept = λ i h. w.kept i (omega (arith, v.more)) ∙ v.kept i h;
        put = λ p b. at p b (w.put p (rw long b)) (v.put p b);
        inside = λ i h c. within i h (le_or_lt e i) c;
      }
    where
      at : (p : ℕ) → p < length l
          → (get_or n p d ≡ get_or m p d) ⊎ ((i : ℕ) × (e ≤ i) × (i < f) × (get_or s i 0 ≡ p))
          → (get_or m p d ≡ get_or l p d) ⊎ ((i : ℕ) × (t ≤ i) × (i < e) × (get_or r i 0 ≡ p))
          → (get_or n p d ≡ get_or l p d) ⊎ ((i : ℕ) × (t ≤ i) × (i < f) × (get_or s i 0 ≡ p))
      at p b (inl x) (inl y) = inl (x ∙ y)
      at p b (inl x) (inr y) = inr (y.0, y.1, omega (arith, y.2, w.more), w.kept y.0 y.2 ∙ y.3)
      at p b (inr x) y = inr (x.0, omega (arith, x.1, v.more), x.2, x.3)

      within : (i : ℕ) → t ≤ i → (e ≤ i) ⊎ (i < e) → i < f → get_or s i 0 < length l
      within i h (inl x) c = rw (← long) (w.inside i x c)
      within i h (inr x) c = rw (w.kept i x) (v.inside i h x)

  -- where nothing was put nothing was written
  pub queued_same : {m : List A} {r : List ℕ} → length m ≡ length l → Queued test d l m q t r t → m ≡ l
  queued_same {m} long w = ext_get_or d m l long (λ p b. ⊎_elim (λ e. e) (λ x. absurd (omega (arith, x.1, x.2))) (w.put p (rw long at b)))
