-- Propagation that leaves off at the first violated row or premise, in whatever order it works, and rounds that go on to the end find a
-- conflict on the same boards.
use Rattle.meaning.proofs.Kit.{◌≡◌, ◌∙◌, sym, ap, refl, subst, ⊎_elim, inl, inr, ◌⊎◌, true, false, Bool, ◌&&◌, not, List, [], ◌∷◌, map, In}
use Rattle.meaning.proofs.Kit.{here, in_of_map, in_map, in_append_left, in_append_right, in_append, ℕ, ◌<◌, ◌+◌, suc, ◌*◌, zero, arith}
use Rattle.meaning.proofs.Kit.{eqb, length, set, length-set, get_or-set_other, get_or-set_same, not-true, eqb-true, eqb-false}
use Rattle.meaning.specs.Tests.{any, keep, from}
use Rattle.meaning.specs.Literals.{opp, has, Within, conflict}
use Rattle.meaning.specs.Rounds.{gives, by_rows, reached, derived}
use Rattle.meaning.specs.LeavingOff.{constraints, violated, violation, WorksTo, start, work, LeavesOff}
use Rattle.meaning.specs.Promises.{BothFind, WorkEnds}
use Rattle.meaning.proofs.Tests.{true_or_false, both_true, and_intro, not_intro, clash, any_found, any_at, all_at, all_of, in_keep, keep_in}
use Rattle.meaning.proofs.Tests.{from_in, in_from}
use Rattle.meaning.proofs.Tables.{length_tabulate, get_d_tabulate}
use Rattle.meaning.proofs.Literals.{has_below, opp_even, opp_odd, even_or_odd, conflict_at, conflict_found}
use Rattle.meaning.proofs.Rounds.{reached_below, count, count_le, fewer, closed, premises_in, start_cases, closure_least}
use Rattle.meaning.proofs.Gives.{gives_words, gives_of, gives_grow}
use Rattle.meaning.proofs.Ways.{rows_grow}

-- ---- a set with one literal more

module _ (known : List Bool) (p : ℕ) (b : p < length known) where
  abbrev more : List Bool
  more = set known p true

  more_has : (q : ℕ) → has more q ≡ true → (q ≡ p) ⊎ (has known q ≡ true)
  more_has q h =
      ⊎_elim (λ e. inl (eqb-true q p e)) (λ e. inr (sym (get_or-set_other known p q true false (eqb-false q p e)) ∙ h)) (true_or_false (eqb q p))

  more_new : has more p ≡ true
  more_new = get_or-set_same known p true false b

  more_keeps : Within known more
  more_keeps q h =
      ⊎_elim (λ e. rw (eqb-true q p e) more_new) (λ e. get_or-set_other known p q true false (eqb-false q p e) ∙ h) (true_or_false (eqb q p))

module _ (places : ℕ) (rows : List (List ℕ)) (held : List Bool) where
  -- ---- what is known on the way

  known_length : {known : List Bool} → WorksTo places rows held known → length known ≡ places
  known_length start = length_tabulate places _
  known_length (work {known = known} row p k v m b g) = length-set known p true ∙ known_length k

  known_premises : {known : List Bool} → WorksTo places rows held known → (q : ℕ) → q < places → has held q ≡ true → has known q ≡ true
  known_premises start q l h = get_d_tabulate places (λ (p : ℕ). has held p) q false l ∙ h
  known_premises (work {known = known} row p k v m b g) q l h = more_keeps known p (omega (arith, known_length k)) q (known_premises k q l h)

  -- it is derived,
  known_derived : {known : List Bool} → WorksTo places rows held known → (q : ℕ) → has known q ≡ true → has (derived places rows held) q ≡ true
  unfolding reached
  known_derived start q h = let r = start_cases places (by_rows rows) held q h in premises_in places (by_rows rows) held q r.0 r.1
  known_derived (work {known = known} row p k v m b g) q h =
      let all_Known = derived places rows held in
      let given : gives all_Known row p ≡ true = gives_grow known all_Known row p (λ x t. known_derived k x t) g in
      ⊎_elim (λ e. rw e (closed places (by_rows rows) held p b (any_at (λ (r : List ℕ). gives all_Known r p) m given)))
      (λ e. known_derived k q e) (more_has known p (omega (arith, known_length k)) q h)

  -- and stands on a premise or a row
  known_why : {known : List Bool} → WorksTo places rows held known → (q : ℕ) → has known q ≡ true
      → (has held q ≡ true) ⊎ ((row : List ℕ) × In row rows × (gives known row q ≡ true))
  unfolding reached
  known_why start q h = inl (start_cases places (by_rows rows) held q h).1
  known_why (work {known = known} row p k v m b g) q h =
      let room : p < length known = omega (arith, known_length k) in
      let grow : (r : List ℕ) (x : ℕ) → gives known r x ≡ true → gives (set known p true) r x ≡ true =
      λ r x. gives_grow known (set known p true) r x (more_keeps known p room) in
      ⊎_elim (λ e. inr (row, m, rw e (grow row p g)))
      (λ e. ⊎_elim (λ a. inl a) (λ a. inr (a.0, a.1, grow a.0 q a.2)) (known_why k q e))
      (more_has known p room q h)

  -- ---- a violation, and a literal known with its opposite

  clash_violates : {known : List Bool} → WorksTo places rows held known → (p : ℕ) → has known p ≡ true → has known (opp p) ≡ true
      → violation places rows held known ≡ true
  clash_violates {known} k p h o = ⊎_elim premise by_row (known_why k p h)
    where
      low : p < places
      low = omega (arith, has_below known p h, known_length k)

      premise : has held p ≡ true → violation places rows held known ≡ true
      premise e =
          any_at (violated known)
          (in_append_right rows (in_map (λ (x : ℕ). x ∷ [])
          (in_keep (λ (x : ℕ). has held x) (in_from 0 places p (omega arith) (omega (arith, low))) e)))
          (and_intro (has known (opp p)) true o refl)

      by_row : (row : List ℕ) × In row rows × (gives known row p ≡ true) → violation places rows held known ≡ true
      by_row r =
          let w = gives_words known r.0 p r.2 in
          any_at (violated known) (in_append_left (map (λ (x : ℕ). x ∷ []) (keep (λ (x : ℕ). has held x) (from 0 places))) r.1)
          (all_of (λ (q : ℕ). has known (opp q)) r.0 (λ q m. ⊎_elim (λ e. rw e o) (λ e. e) (w.1 q m)))

-- the literal whose opposite stands at one of 2S places stands at one of them too
opp_below : (S q : ℕ) → opp q < 2 * S → q < 2 * S
opp_below S q l = ⊎_elim (λ v. omega (arith, opp_even q v)) (λ d. omega (arith, opp_odd q d)) (even_or_odd q)

module _ (S : ℕ) (rows : List (List ℕ)) (held known : List Bool) (some : (row : List ℕ) → In row rows → 0 < length row)
    (k : WorksTo (2 * S) rows held known) where
  abbrev all_derived : List Bool
  all_derived = derived (2 * S) rows held

  row_conflict : (row : List ℕ) → In row rows → violated known row ≡ true → conflict all_derived ≡ true
  row_conflict [] m v = absurd (let z = some [] m in omega arith)
  row_conflict (q ∷ row) m v =
      let out : (x : ℕ) → In x (q ∷ row) → has all_derived (opp x) ≡ true =
      λ x i. known_derived (2 * S) rows held k (opp x) (all_at (λ (y : ℕ). has known (opp y)) v i) in
      let low = reached_below (2 * S) (by_rows rows) held (2 * S) (opp q) (out q (here refl)) in
      conflict_at all_derived q
      (closed (2 * S) (by_rows rows) held q (opp_below S q (omega arith))
      (any_at (λ (r : List ℕ). gives all_derived r q) m (gives_of all_derived (q ∷ row) q (here refl) (λ x i. inr (out x i)))))
      (out q (here refl))

  premise_conflict : (row : List ℕ) → In row (map (λ (p : ℕ). p ∷ []) (keep (λ (p : ℕ). has held p) (from 0 (2 * S)))) → violated known row ≡ true
      → conflict all_derived ≡ true
  premise_conflict row m v =
      let w = in_of_map (λ (p : ℕ). p ∷ []) (keep (λ (p : ℕ). has held p) (from 0 (2 * S))) m in
      let p = w.0 in
      let h = keep_in (λ (x : ℕ). has held x) (from 0 (2 * S)) w.1 in
      let o : violated known (p ∷ []) ≡ true = subst (λ (r : List ℕ). violated known r ≡ true) (sym w.2) v in
      conflict_at all_derived p (premises_in (2 * S) (by_rows rows) held p (omega (arith, (from_in 0 (2 * S) p h.0).1)) h.1)
      (known_derived (2 * S) rows held k (opp p) (both_true (has known (opp p)) true o).0)

  violation_conflict : violation (2 * S) rows held known ≡ true → conflict all_derived ≡ true
  violation_conflict e =
      let f = any_found (violated known) (constraints (2 * S) rows held) e in
      ⊎_elim (λ m. row_conflict f.0 m f.2) (λ m. premise_conflict f.0 m f.2) (in_append rows f.1)

  conflict_violation : LeavesOff (2 * S) rows held known → conflict all_derived ≡ true → violation (2 * S) rows held known ≡ true
  conflict_violation off c =
      ⊎_elim (λ v. v)
      (λ given.
      let within =
      closure_least (2 * S) (by_rows rows) (rows_grow rows) held known (record { premises = known_premises (2 * S) rows held k; given = given }) in
      let r = conflict_found all_derived c in
      clash_violates (2 * S) rows held k r.0 (within r.0 r.1) (within (opp r.0) r.2))
      off

pub both_find : BothFind
both_find S rows held known some k off = (violation_conflict S rows held known some k, conflict_violation S rows held known some k off)

-- ---- the work comes to an end: each step adds a literal

module _ (places : ℕ) (rows : List (List ℕ)) (held : List Bool) where
  abbrev End : Type 0
  End = (known : List Bool) × WorksTo places rows held known × LeavesOff places rows held known

  goes_on_lem : (n : ℕ) (known : List Bool) → WorksTo places rows held known → places < n + count known → End
  goes_on_lem zero known k l = absurd (omega (arith, count_le known, known_length places rows held k))
  goes_on_lem (suc n) known k l = next (violation places rows held known) refl (λ p b h. goes_on_lem n (set known p true) b h)
    where
      new : ℕ → Bool
      new p = by_rows rows known p && not (has known p)

      next : (v : Bool) → violation places rows held known ≡ v
          → ((p : ℕ) → WorksTo places rows held (set known p true) → places < n + count (set known p true) → End) → End
      next true e on = (known, k, inl e)
      next false e on = add (any new (from 0 places)) refl
        where
          grown : (p : ℕ) → p < places → has known p ≡ false → count known < count (set known p true)
          grown p b o =
              let room : p < length known = omega (arith, known_length places rows held k) in
              ⊎_elim (λ q. clash (ap (λ (s : List Bool). has s p) q ∙ more_new known p room) o) (λ c. c)
              (fewer known (set known p true) (sym (length-set known p true)) (more_keeps known p room))

          add : (a : Bool) → any new (from 0 places) ≡ a → End
          add true f =
              let w = any_found new (from 0 places) f in
              let t = both_true (by_rows rows known w.0) (not (has known w.0)) w.2 in
              let b : w.0 < places = omega (arith, (from_in 0 places w.0 w.1).1) in
              let r = any_found (λ (row : List ℕ). gives known row w.0) rows t.0 in
              on w.0 (work r.0 w.0 k e r.1 b r.2) (omega (arith, l, grown w.0 b (not-true (has known w.0) t.1)))
          add false f = (known, k, inr (λ p b g. ⊎_elim (λ h. h) (λ h. clash (found p b g h) f) (true_or_false (has known p))))
            where
              found : (p : ℕ) → p < places → by_rows rows known p ≡ true → has known p ≡ false → any new (from 0 places) ≡ true
              found p b g h =
                  any_at new (in_from 0 places p (omega arith) (omega arith))
                  (and_intro (by_rows rows known p) (not (has known p)) g (not_intro (has known p) h))

pub work_ends : WorkEnds
work_ends places rows held = goes_on_lem places rows held (suc places) _ start (omega arith)
