-- What is noted of a set by the sets with one candidate fewer, and by how the literal stands with it held alone, is its note.
use Rattle.meaning.proofs.Kit.{◌≡◌, ◌∙◌, sym, ap, refl, ⊎_elim, inl, inr, ◌⊎◌, true, false, Bool, cond, ◌&&◌, not, ◌||◌, List, In, ℕ, ◌<◌, ◌-◌, suc}
use Rattle.meaning.proofs.Kit.{◌^◌, arith, length, get_or}
use Rattle.meaning.specs.Tests.{any, keep, from, tabulate, bit}
use Rattle.meaning.specs.Literals.{has, opp, conflict}
use Rattle.candidates.specs.Sets.{size, sets_of}
use Rattle.smallest.specs.Smallest.{by_alone, derives, clashes, smaller_derives, carries, smallest}
use Rattle.candidates.specs.Promises.{Inside}
use Rattle.meaning.proofs.Tests.{true_or_false, both_true, and_intro, one_true_lem, or_left, or_right, false_of, clash, any_found, any_at, any_imp}
use Rattle.meaning.proofs.Tests.{any_same, from_in}
use Rattle.meaning.proofs.Tables.{length_tabulate, get_d_tabulate}
use Rattle.meaning.proofs.BySize.{below_size_same, all_count}
use Rattle.candidates.proofs.ChosenSets.{fewer_inside, fewer_below, size_le}
use Rattle.smallest.proofs.Smallest.{derives_more, clashes_more, one_fewer, of_carries}
use Rattle.board.specs.Asking.{standing_whole}
use Rattle.board.specs.declared.asking.Standing.TheVariants.{Conflict, Stands, RuledOut, Open}
use Rattle.std.specs.Prelude.{Ok}
use Rattle.smallest.specs.declared.search.Note.{Note}
use Rattle.smallest.specs.declared.search.Note.TheVariants.{GoesOn, Stops, Listed}
use Rattle.smallest.specs.Search.{stops, stops_at, lists, note_of, notes_of, stops_fewer, standing_note, listed_in, listed_below}

module _ (places : ℕ) (rows : List (List ℕ)) (cands : List ℕ) (p : ℕ) where
  abbrev n : ℕ
  n = length cands

  abbrev gets : ℕ → Bool
  gets m = derives places rows cands p m

  abbrev stop : ℕ → Bool
  stop m = stops places rows cands p m

  abbrev smaller : ℕ → Bool
  smaller m = smaller_derives places rows cands p m

  abbrev note : ℕ → Note
  note m = note_of places rows cands p m

  stops_more : (a m : ℕ) → Inside a m → stop a ≡ true → stop m ≡ true
  stops_more a m w e =
      ⊎_elim (λ c. or_left (clashes places rows cands m) (gets m) (clashes_more places rows cands p a m w c))
      (λ d. or_right (clashes places rows cands m) (gets m) (derives_more places rows cands p a m w d))
      (one_true_lem (clashes places rows cands a) (gets a) e)

  -- ---- what a note tells

  carried_stops : (m : ℕ) → carries places rows cands p m ≡ true → stop m ≡ true
  carried_stops m e = or_right (clashes places rows cands m) (gets m) (of_carries places rows cands p m e).0

  stop_noted : (m : ℕ) → stops_at (note m) ≡ stop m
  unfolding note_of
  stop_noted m = go (carries places rows cands p m) (stop m) (carried_stops m)
    where
      go : (c s : Bool) → (c ≡ true → s ≡ true) → stops_at (cond c Listed (cond s Stops GoesOn)) ≡ s
      go true s f = sym (f refl)
      go false true f = refl
      go false false f = refl

  pub listed_noted : (m : ℕ) → lists (note_of places rows cands p m) ≡ carries places rows cands p m
  unfolding note_of
  listed_noted m = go (carries places rows cands p m) (stop m)
    where
      go : (c s : Bool) → lists (cond c Listed (cond s Stops GoesOn)) ≡ c
      go true s = refl
      go false true = refl
      go false false = refl

  -- ---- one candidate fewer

  abbrev fewer : ℕ → ℕ → Bool
  fewer m i = bit i m && stop (m - 2 ^ i)

  -- where a set with one candidate fewer stops, the set stops and is not listed
  stopped : (m : ℕ) → m < 2 ^ n → any (fewer m) (from 0 n) ≡ true → (stop m ≡ true) × (carries places rows cands p m ≡ false)
  stopped m l e =
      let r = any_found (fewer m) (from 0 n) e in
      let i = r.0 in
      let s = both_true (bit i m) (stop (m - 2 ^ i)) r.2 in
      let w = fewer_inside i m s.0 in
      let out : carries places rows cands p m ≡ true → ⊥ = λ c.
      let k = of_carries places rows cands p m c in
      ⊎_elim (λ q. clash (clashes_more places rows cands p (m - 2 ^ i) m w q) k.1)
      (λ d. clash (any_at (λ j. bit j m && gets (m - 2 ^ j)) r.1 (and_intro (bit i m) (gets (m - 2 ^ i)) s.0 d))
      (sym (one_fewer places rows cands p m l) ∙ k.2))
      (one_true_lem (clashes places rows cands (m - 2 ^ i)) (gets (m - 2 ^ i)) s.1) in
      (stops_more (m - 2 ^ i) m w s.1, false_of (carries places rows cands p m) out)

  -- where none does, no smaller set derives the literal
  gone_on : (m : ℕ) → m < 2 ^ n → any (fewer m) (from 0 n) ≡ false → smaller m ≡ false
  gone_on m l e =
      false_of (smaller m)
      (λ s. clash (any_imp (λ i. bit i m && gets (m - 2 ^ i)) (fewer m) (from 0 n) each (sym (one_fewer places rows cands p m l) ∙ s)) e)
    where
      each : (i : ℕ) → In i (from 0 n) → bit i m && gets (m - 2 ^ i) ≡ true → fewer m i ≡ true
      each i h t =
          let r = both_true (bit i m) (gets (m - 2 ^ i)) t in
          and_intro (bit i m) (stop (m - 2 ^ i)) r.0 (or_right (clashes places rows cands (m - 2 ^ i)) (gets (m - 2 ^ i)) r.1)

  -- ---- the note

  standing_noted : (m : ℕ) → smaller m ≡ false → standing_note (Ok (standing_whole (by_alone places rows cands m) p)) ≡ note m
  unfolding note_of carries derives clashes
  standing_noted m s =
      rw s (go (conflict (by_alone places rows cands m)) (has (by_alone places rows cands m) p) (has (by_alone places rows cands m) (opp p)))
    where
      go : (c d o : Bool) → standing_note (Ok (cond c Conflict (cond d Stands (cond o RuledOut Open)))) ≡ cond (d && (not c && true)) Listed (cond (c || d) Stops GoesOn)
      go true true o = refl
      go true false o = refl
      go false true o = refl
      go false false true = refl
      go false false false = refl

  -- by notes that are those of the sets before it
  module _ (notes : List Note) (m : ℕ) (l : m < 2 ^ n) (before : (a : ℕ) → a < m → get_or notes a GoesOn ≡ note_of places rows cands p a) where
    fewer_noted : stops_fewer notes n m ≡ any (fewer m) (from 0 n)
    unfolding stops_fewer
    fewer_noted = any_same (λ i. bit i m && stops_at (get_or notes (m - 2 ^ i) GoesOn)) (fewer m) (from 0 n) (λ i h. each i (true_or_false (bit i m)))
      where
        each : (i : ℕ) → (bit i m ≡ true) ⊎ (bit i m ≡ false) → (bit i m && stops_at (get_or notes (m - 2 ^ i) GoesOn)) ≡ fewer m i
        each i (inl e) = rw e (ap stops_at (before (m - 2 ^ i) (fewer_below i m e)) ∙ stop_noted (m - 2 ^ i))
        each i (inr e) = rw e

    pub note_is : cond (stops_fewer notes (length cands) m) Stops (standing_note (Ok (standing_whole (by_alone places rows cands m) p)))
        ≡ note_of places rows cands p m
    note_is = ⊎_elim halted free (true_or_false (any (fewer m) (from 0 n)))
      where
        halted : any (fewer m) (from 0 n) ≡ true
            → cond (stops_fewer notes n m) Stops (standing_note (Ok (standing_whole (by_alone places rows cands m) p))) ≡ note m
        halted e = let r = stopped m l e in rw (fewer_noted, e) (sym (unfold note_of in rw (r.1, r.0)))

        free : any (fewer m) (from 0 n) ≡ false
            → cond (stops_fewer notes n m) Stops (standing_note (Ok (standing_whole (by_alone places rows cands m) p))) ≡ note m
        free e = rw (fewer_noted, e) (standing_noted m (gone_on m l e))

  -- ---- the list

  notes_long : length (notes_of places rows cands p) ≡ 2 ^ n
  unfolding notes_of
  notes_long = length_tabulate (2 ^ n) note

  pub listed_are : listed_below (notes_of places rows cands p) (length cands) (suc (length cands)) ≡ smallest places rows cands p
  unfolding notes_of smallest
  listed_are =
      below_size_same (size n) (listed_in (notes_of places rows cands p)) (carries places rows cands p) (sets_of n) each (suc n)
    where
      each : (m : ℕ) → In m (sets_of n) → listed_in (tabulate (2 ^ n) note) m ≡ carries places rows cands p m
      each m h =
          let b = from_in 0 (2 ^ n) m h in
          ap lists (get_d_tabulate (2 ^ n) note m GoesOn (omega arith)) ∙ listed_noted m

  -- counted by number they are as many
  pub counted : let notes = notes_of places rows cands p in
      length (keep (listed_in notes) (from 0 (length notes))) ≡ length (smallest places rows cands p)
  counted =
      ap (λ (k : ℕ). length (keep (listed_in (notes_of places rows cands p)) (from 0 k))) notes_long
      ∙ sym (all_count (size n) (listed_in (notes_of places rows cands p)) (sets_of n) (suc n) (λ m h. omega (arith, size_le n m)))
      ∙ ap length listed_are
