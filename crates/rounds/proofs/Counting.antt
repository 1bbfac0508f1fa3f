-- Laws of counting the open literals of rows: how the count falls when one more literal is ruled out.
use Rattle.meaning.proofs.Kit.{◌≡◌, ◌∙◌, sym, ap, refl, subst, ⊎_elim, inl, inr, ◌⊎◌, ◌≢◌, true, false, Bool, cond, ◌||◌, or-false, List, [], ◌∷◌}
use Rattle.meaning.proofs.Kit.{◌++◌, map, In, here, there, ◌≤◌, ℕ, ◌<◌, ◌+◌, suc, add-one, arith, eqb, ℤ, length, get_or, take, length-map}
use Rattle.meaning.proofs.Kit.{length-take-le, get_or-take, take-suc, ext_get_or, ne_eqb}
use Rattle.meaning.specs.Tests.{member}
use Rattle.meaning.specs.Literals.{opp, has}
use Rattle.meaning.specs.Rounds.{gives}
use Rattle.meaning.proofs.Tests.{true_or_false, clash, any_append, in_member}
use Rattle.meaning.proofs.Literals.{opp_opp}
use Rattle.meaning.proofs.Tables.{get_d_tabulate, map_tabulate}
use Rattle.meaning.proofs.Gives.{gives_words}
use Rattle.literals.specs.Row.{numbers_at, decode, rows_in, Fit}
use Rattle.literals.proofs.Decoding.{length_rows}
use Rattle.literals.proofs.Differing.{Differ, row_differs}
use Rattle.findings.proofs.Queueing.{same_or_not}
use Rattle.rounds.specs.Visits.{open_count, Touched, Counts, Struck}

-- ---- the open literals of one row, where f says what is known

at_most : (t : Bool) → cond t 0 1 ≤ 1
at_most true = omega arith
at_most false = omega arith

-- where nothing is known all are open, and where all opposites are known none is
open_all : (row : List ℕ) → open_count (λ x. false) row ≡ length row
unfolding open_count
open_all [] = refl
open_all (q ∷ row) = omega (arith, open_all row)

open_none : (f : ℕ → Bool) (row : List ℕ) → ((q : ℕ) → In q row → f (opp q) ≡ true) → open_count f row ≡ 0
unfolding open_count
open_none f [] h = refl
open_none f (q ∷ row) h = rw (h q (here refl)) (omega (arith, open_none f row (λ x m. h x (there m))))

module _ (f g : ℕ → Bool) where
  -- where no less is known there are no more of them
  pub open_fewer : ((x : ℕ) → f x ≡ true → g x ≡ true) → (row : List ℕ) → open_count g row ≤ open_count f row
  unfolding open_count
  open_fewer h [] = omega arith
  open_fewer h (q ∷ row) = omega (arith, open_fewer h row, go (f (opp q)) (g (opp q)) (h (opp q)))
    where
      go : (s t : Bool) → (s ≡ true → t ≡ true) → cond t 0 1 ≤ cond s 0 1
      go true t e = rw (e refl) (omega arith)
      go false t e = at_most t

  open_same : (row : List ℕ) → ((q : ℕ) → In q row → f (opp q) ≡ g (opp q)) → open_count f row ≡ open_count g row
  unfolding open_count
  open_same [] h = refl
  open_same (q ∷ row) h = rw (h q (here refl), open_same row (λ x m. h x (there m)))

  -- x comes to be known
  module _ (x : ℕ) (more : (y : ℕ) → g y ≡ (f y || eqb x y)) where
    others : (q : ℕ) → opp x ≢ q → g (opp q) ≡ f (opp q)
    others q d = more (opp q) ∙ rw (ne_eqb x (opp q) (λ e. d (ap opp e ∙ opp_opp q))) (or-false (f (opp q)))

    -- a row without its opposite counts as before,
    open_apart : (row : List ℕ) → member (opp x) row ≡ false → open_count f row ≡ open_count g row
    open_apart row out = open_same row (λ q m. sym (others q (λ e. clash (in_member m) (subst (λ y. member y row ≡ false) e out))))

    -- and no row more than one less
    open_one : (row : List ℕ) → Differ row → open_count f row ≤ suc (open_count g row)
    unfolding open_count
    open_one [] d = omega arith
    open_one (q ∷ row) d =
        ⊎_elim
        (λ e. omega (arith, at_most (f (opp q)), open_same row (λ y m. sym (others y (λ z. d.0 y m (sym z ∙ e))))))
        (λ n. omega (arith, open_one row d.1, ap {B = ℕ} (λ t. cond t 0 1) (others q n)))
        (same_or_not (opp x) q)

-- a row that gives a literal has that one open at most
open_but : (f : ℕ → Bool) (p : ℕ) (row : List ℕ) → Differ row → ((q : ℕ) → In q row → (q ≡ p) ⊎ (f (opp q) ≡ true)) → open_count f row ≤ 1
unfolding open_count
open_but f p [] d h = omega arith
open_but f p (q ∷ row) d h =
    ⊎_elim
    (λ e. omega (arith, at_most (f (opp q)), open_none f row (λ x m. ⊎_elim (λ z. absurd (d.0 x m (z ∙ sym e))) (λ z. z) (h x (there m)))))
    (λ e. rw e (omega (arith, open_but f p row d.1 (λ x m. h x (there m)))))
    (h q (here refl))

pub gives_open : (known : List Bool) (p : ℕ) (row : List ℕ) → Differ row → gives known row p ≡ true → open_count (has known) row ≤ 1
gives_open known p row d g = open_but (has known) p row d (gives_words known row p g).1

-- ---- the counts of all rows

-- before anything is taken from the queue each row counts its literals
module _ (used : ℕ) (table : List ℤ) {counts : List ℕ} (e : counts ≡ map length (rows_in used table)) where
  pub counts_long : length counts ≡ used
  counts_long = ap length e ∙ length-map (rows_in used table) length ∙ length_rows used table

  pub counts_at : (r : ℕ) → r < used → get_or counts r 0 ≡ length (decode (numbers_at table r))
  unfolding rows_in
  counts_at r h =
      ap (λ l. get_or l r 0) (e ∙ map_tabulate length used (λ i. decode (numbers_at table i)))
      ∙ get_d_tabulate used (λ i. length (decode (numbers_at table i))) r 0 h

  pub counts_start : {queue : List ℕ} → Counts used table queue 0 counts
  counts_start = record { each = λ r h. inr (omega (arith, counts_at r h, open_all (decode (numbers_at table r)))) }

module _ {used : ℕ} {table : List ℤ} where
  -- only what stands in the queue before `at` matters
  pub counts_kept : {queue longer counts : List ℕ} {at : ℕ} → at ≤ length queue → length longer ≡ length queue
      → ((i : ℕ) → i < at → get_or longer i 0 ≡ get_or queue i 0) → Counts used table queue at counts → Counts used table longer at counts
  counts_kept {queue} {longer} {counts} {at} room long same w =
      record {
        each = subst
            (λ (l : List ℕ). (r : ℕ) → r < used
            → (get_or counts r 0 ≤ 1) ⊎ (get_or counts r 0 ≤ open_count (λ x. member x l) (decode (numbers_at table r))))
            part w.each;
      }
    where
      part : take at queue ≡ take at longer
      part = ext_get_or 0 (take at queue) (take at longer) (length-take-le at queue room ∙ sym (length-take-le at longer (omega (arith, long))))
          (λ i b. (let h : i < at = omega (arith, b, length-take-le at queue room) in
          get_or-take at queue i 0 h ∙ sym (same i h) ∙ sym (get_or-take at longer i 0 h)))

  -- one more literal is ruled out: the opposite of the place at `at`
  module _ (queue : List ℕ) (at : ℕ) {old new : List ℕ} {p : ℕ} (is : p ≡ opp (get_or queue at 0)) (w : Struck used table p old new) where
    pub counts_next : {places : ℕ} → Fit places used table → at < length queue → Counts used table queue at old → Counts used table queue (at + 1) new
    counts_next fit room c =
        record { each = λ r h. ⊎_elim (λ m. with_it r h m) (λ m. without r h m) (true_or_false (member p (decode (numbers_at table r)))) }
      where
        before : ℕ → Bool
        before x = member x (take at queue)

        after : ℕ → Bool
        after x = member x (take (at + 1) queue)

        more : (y : ℕ) → after y ≡ (before y || eqb (get_or queue at 0) y)
        more y =
            let longer : take (at + 1) queue ≡ take at queue ++ get_or queue at 0 ∷ [] = rw (add-one at) (take-suc queue at 0 room) in
            ap (member y) longer ∙ any_append (λ q. eqb q y) (take at queue) (get_or queue at 0 ∷ [])
            ∙ ap (λ t. before y || t) (or-false (eqb (get_or queue at 0) y))

        with_it : (r : ℕ) → r < used → member p (decode (numbers_at table r)) ≡ true
            → (get_or new r 0 ≤ 1) ⊎ (get_or new r 0 ≤ open_count after (decode (numbers_at table r)))
        with_it r h m =
            let one = open_one before after (get_or queue at 0) more (decode (numbers_at table r)) (row_differs fit r h) in
            ⊎_elim (λ e. inl e) (λ e. ⊎_elim (λ d. inl (omega (arith, e, d))) (λ d. inr (omega (arith, e, d, one))) (c.each r h)) (w.less r h m)

        without : (r : ℕ) → r < used → member p (decode (numbers_at table r)) ≡ false
            → (get_or new r 0 ≤ 1) ⊎ (get_or new r 0 ≤ open_count after (decode (numbers_at table r)))
        without r h m =
            let out : member (opp (get_or queue at 0)) (decode (numbers_at table r)) ≡ false = rw is at m in
            let same : get_or new r 0 ≡ get_or old r 0 = ⊎_elim (λ e. e) (λ e. clash e m) (w.same r) in
            let still = open_apart before after (get_or queue at 0) more (decode (numbers_at table r)) out in
            ⊎_elim (λ d. inl (omega (arith, same, d))) (λ d. inr (omega (arith, same, d, still))) (c.each r h)

    module _ {from : ℕ} where
      -- a row touched up to here that counts one literal or none was touched before and counted so, or contains the literal
      pub touched_split : (r : ℕ) → Touched table queue from (at + 1) r × (get_or new r 0 ≤ 1)
          → (Touched table queue from at r × (get_or old r 0 ≤ 1)) ⊎ ((member p (decode (numbers_at table r)) ≡ true) × (get_or new r 0 ≤ 1))
      touched_split r d = ⊎_elim (λ m. inr (m, d.1)) (λ m. inl (earlier m, few m)) (true_or_false (member p (decode (numbers_at table r))))
        where
          few : member p (decode (numbers_at table r)) ≡ false → get_or old r 0 ≤ 1
          few m = omega (arith, d.1, ⊎_elim {C = get_or new r 0 ≡ get_or old r 0} (λ e. e) (λ e. clash e m) (w.same r))

          earlier : member p (decode (numbers_at table r)) ≡ false → Touched table queue from at r
          earlier m =
              let t = d.0 in
              ⊎_elim
              (λ z. clash (subst (λ x. member x (decode (numbers_at table r)) ≡ true) (ap (λ i. opp (get_or queue i 0)) z ∙ sym is) t.3) m)
              (λ z. (t.0, t.1, omega (arith, t.2, z), t.3))
              (same_or_not t.0 at)

      -- a row counts as it did first, or was touched
      pub touched_next : (first : List ℕ) → from ≤ at → ((r : ℕ) → (get_or old r 0 ≡ get_or first r 0) ⊎ Touched table queue from at r)
          → (r : ℕ) → (get_or new r 0 ≡ get_or first r 0) ⊎ Touched table queue from (at + 1) r
      touched_next first h was r =
          ⊎_elim
          (λ e. ⊎_elim (λ d. inl (e ∙ d)) (λ t. inr (t.0, t.1, omega (arith, t.2), t.3)) (was r))
          (λ m. inr (at, h, omega arith, subst (λ x. member x (decode (numbers_at table r)) ≡ true) is m))
          (w.same r)
