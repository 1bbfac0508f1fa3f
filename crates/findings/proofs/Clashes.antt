-- The symbols whose two literals both have a rank, and the one that blame takes, as scans find them: there is one exactly if there is a conflict.
use Rattle.meaning.proofs.Kit.{◌≡◌, ◌∙◌, sym, ap, refl, ap₂, ⊎_elim, inl, inr, ◌⊎◌, true, false, Bool, ◌&&◌, ◌||◌, and-false, and-true, List, ◌≤◌, ℕ}
use Rattle.meaning.proofs.Kit.{◌<◌, ◌-◌, ◌+◌, suc, ◌*◌, ◌/◌, add-one, arith, eqb, ltb, length, get_or, ne_eqb, eq-eqb, ltb-true, lt-ltb, le-ltb}
use Prim.Native.Nat.{max}
use Rattle.std.specs.Prelude.{Option, Some, None}
use Rattle.findings.proofs.Searching.{found_some}
use Rattle.meaning.specs.Tests.{none, first, first_smallest}
use Rattle.meaning.specs.Literals.{has, conflict}
use Rattle.meaning.specs.Rounds.{derived, ranks_of, label}
use Rattle.meaning.specs.Ground.{larger_rank, blamed}
use Rattle.meaning.proofs.Tests.{clash, false_of, and_intro, both_true, same_test}
use Rattle.meaning.proofs.Tables.{first_is, first_smallest_is, first_smallest_same}
use Rattle.meaning.proofs.Literals.{opp_even, has_below, conflict_at, conflict_pair}
use Rattle.meaning.proofs.Blame.{label_is_3}
use Rattle.findings.proofs.RankTables.{length_below, below_rank, length_ranks_of, get_d_ranks_of}
use Rattle.findings.proofs.Final.{below_derived}
use Rattle.findings.specs.Ranks.{below, clash_in, larger_in, earliest_in, found}

-- ---- the test on a symbol

pub clash_yes : (ranks : List ℕ) (s : ℕ) → ltb (get_or ranks (2 * s) 0) none ≡ true → ltb (get_or ranks (2 * s + 1) 0) none ≡ true
    → clash_in ranks s ≡ true
unfolding clash_in
clash_yes ranks s a b = rw (a, b)

pub clash_no : (ranks : List ℕ) (s : ℕ) → (ltb (get_or ranks (2 * s) 0) none ≡ false) ⊎ (ltb (get_or ranks (2 * s + 1) 0) none ≡ false)
    → clash_in ranks s ≡ false
unfolding clash_in
clash_no ranks s (inl a) = rw a
clash_no ranks s (inr b) = rw (b, and-false (ltb (get_or ranks (2 * s) 0) none))

-- ---- the scan for the one that blame takes

-- both literals have a rank exactly if the larger one is a rank
clash_larger : (ranks : List ℕ) (s : ℕ) → clash_in ranks s ≡ ltb (larger_in ranks s) none
unfolding clash_in larger_in
clash_larger ranks s =
    let a = get_or ranks (2 * s) 0 in
    let b = get_or ranks (2 * s + 1) 0 in
    same_test (ltb a none && ltb b none) (ltb (max a b) none)
    (λ e. (let both = both_true (ltb a none) (ltb b none) e in
    lt-ltb (max a b) none (omega (arith, ltb-true a none both.0, ltb-true b none both.1))))
    (λ e. (let l = ltb-true (max a b) none e in
    and_intro (ltb a none) (ltb b none) (lt-ltb a none (omega arith)) (lt-ltb b none (omega arith))))

-- what is found among the first symbols, and its larger rank
pub record Found (ranks : List ℕ) (s : ℕ) (one : Option ℕ) (least : ℕ) : Type 0 where
  n : ℕ
  pub told : one ≡ found n
  pub is : n ≡ first_smallest (clash_in ranks) (larger_in ranks) s
  rank : ((n ≡ none) × (least ≡ none)) ⊎ ((n < none) × (least < none) × (least ≡ larger_in ranks n))

pub found_none : (ranks : List ℕ) → Found ranks 0 None none
found_none ranks = record { n = none; told = refl; is = refl; rank = inl (refl, refl) }

module _ {ranks : List ℕ} {s : ℕ} {one : Option ℕ} {least : ℕ} (f : Found ranks s one least) where
  -- one symbol more takes its place exactly if its larger rank is smaller
  taken : clash_in ranks s && (eqb f.n none || ltb (larger_in ranks s) (larger_in ranks f.n)) ≡ ltb (larger_in ranks s) least
  taken =
      ⊎_elim (λ r. rw (eq-eqb f.n none r.0, r.1, and-true (clash_in ranks s)) (clash_larger ranks s))
      (λ r. (let small = r.1 in
      rw (ne_eqb f.n none (λ e. omega (arith, r.0)), ← r.2)
      (same_test (clash_in ranks s && ltb (larger_in ranks s) least) (ltb (larger_in ranks s) least)
      (λ e. (both_true (clash_in ranks s) (ltb (larger_in ranks s) least) e).1)
      (λ e. (let l = ltb-true (larger_in ranks s) least e in
      and_intro (clash_in ranks s) (ltb (larger_in ranks s) least) (clash_larger ranks s ∙ lt-ltb (larger_in ranks s) none (omega arith)) e)))))
      f.rank

  pub found_more : s < none → larger_in ranks s < least → Found ranks (s + 1) (Some s) (larger_in ranks s)
  found_more small l =
      let few : least ≤ none = ⊎_elim (λ r. omega (arith, r.1)) (λ r. omega (arith, r.1)) f.rank in
      record {
        n = s;
        told = found_some small;
        is = rw (add-one, ← f.is, taken, lt-ltb (larger_in ranks s) least l);
        rank = inr (small, omega arith, refl);
      }

  pub found_kept : least ≤ larger_in ranks s → Found ranks (s + 1) one least
  found_kept l = record { n = f.n; told = f.told; is = rw (add-one, ← f.is, taken, le-ltb (larger_in ranks s) least l); rank = f.rank }

-- what is found among all of them
pub earliest_below : (ranks : List ℕ) → length ranks < none → (earliest_in ranks < length ranks / 2) ⊎ (earliest_in ranks ≡ none)
unfolding earliest_in
earliest_below ranks small =
    ⊎_elim (λ f. inl f.0) (λ f. inr f.0) (first_smallest_is (clash_in ranks) (larger_in ranks) (length ranks / 2) (omega arith))

-- ---- there is one exactly if there is a conflict

module _ (ranks : List ℕ) (small : length ranks < none) where
  abbrev known : List Bool
  known = below none ranks

  clash_is : (s : ℕ) → s < length ranks / 2 → clash_in ranks s ≡ (has known (2 * s) && has known (2 * s + 1))
  unfolding clash_in
  clash_is s h = rw (below_rank none ranks (2 * s) (omega arith), below_rank none ranks (2 * s + 1) (omega arith))

  pub clash_none : first (clash_in ranks) (length ranks / 2) ≡ none → conflict (below none ranks) ≡ false
  clash_none e =
      false_of (conflict known)
      (λ c. (let r = conflict_pair known c in
      let s = r.0 in
      let low : s < length ranks / 2 = omega (arith, has_below known (2 * s + 1) r.2, length_below none ranks) in
      let here = clash_is s low ∙ and_intro (has known (2 * s)) (has known (2 * s + 1)) r.1 r.2 in
      ⊎_elim (λ f. omega (arith, f.0)) (λ f. clash here (f.1 s low)) (first_is (clash_in ranks) (length ranks / 2) (omega arith))))

  pub clash_some : (first (clash_in ranks) (length ranks / 2) ≡ none → ⊥) → conflict (below none ranks) ≡ true
  clash_some e =
      let s = first (clash_in ranks) (length ranks / 2) in
      ⊎_elim
      (λ f. (let both = both_true (has known (2 * s)) (has known (2 * s + 1)) (sym (clash_is s f.0) ∙ f.1) in
      conflict_at known (2 * s) both.0 (rw (opp_even (2 * s) (omega arith)) both.1)))
      (λ f. absurd (e f.0))
      (first_is (clash_in ranks) (length ranks / 2) (omega arith))

-- ---- by the final ranks

module _ (symbols : ℕ) (rows : List (List ℕ)) (held : List Bool) (small : 2 * symbols < none) where
  abbrev final : List ℕ
  final = ranks_of (2 * symbols) rows held

  half : length final / 2 ≡ symbols
  half = omega (arith, length_ranks_of (2 * symbols) rows held)

  few : length final < none
  few = omega (arith, length_ranks_of (2 * symbols) rows held)

  -- what the scan of the final ranks finds
  pub clash_final : {ranks : List ℕ} {s : ℕ} → ranks ≡ ranks_of (2 * symbols) rows held → s ≡ first (clash_in ranks) (length ranks / 2)
      → s ≡ first (clash_in (ranks_of (2 * symbols) rows held)) symbols
  clash_final is e = e ∙ rw (is, half)

  known_is : below none final ≡ derived (2 * symbols) rows held
  known_is = below_derived (2 * symbols) rows held small

  label_three : (s : ℕ) → s < symbols → clash_in final s ≡ eqb (label (derived (2 * symbols) rows held) (suc s)) 3
  label_three s h =
      let pair : 2 * (suc s - 1) ≡ 2 * s = omega arith in
      rw (pair, ← known_is)
      (clash_is final few s (omega (arith, half)) ∙ sym (label_is_3 (has (below none final) (2 * s)) (has (below none final) (2 * s + 1))))

  larger_rank_lem : (s : ℕ) → s < symbols → larger_in final s ≡ larger_rank (2 * symbols) rows held (suc s)
  unfolding larger_in larger_rank
  larger_rank_lem s h =
      let pair : 2 * (suc s - 1) ≡ 2 * s = omega arith in
      rw pair (ap₂ max (get_d_ranks_of (2 * symbols) rows held (2 * s) (omega arith)) (get_d_ranks_of (2 * symbols) rows held (2 * s + 1) (omega arith)))

  pub earliest_is_blamed : suc (earliest_in (ranks_of (2 * symbols) rows held)) ≡ blamed symbols rows held
  unfolding blamed earliest_in
  earliest_is_blamed =
      rw half
      (ap suc (first_smallest_same symbols (clash_in final) (λ s. eqb (label (derived (2 * symbols) rows held) (suc s)) 3)
      (larger_in final) (λ s. larger_rank (2 * symbols) rows held (suc s)) (omega arith) label_three larger_rank_lem))

  -- there is one where some symbol clashes
  pub earliest_some : (first (clash_in (ranks_of (2 * symbols) rows held)) symbols ≡ none → ⊥) → earliest_in (ranks_of (2 * symbols) rows held) < symbols
  unfolding earliest_in
  earliest_some e =
      let lowest = first (clash_in final) symbols in
      let found = first_is (clash_in final) symbols (omega arith) in
      rw half
      (⊎_elim (λ f. f.0)
      (λ f. ⊎_elim (λ g. clash g.1 (f.1 lowest g.0)) (λ g. absurd (e g.0)) found)
      (first_smallest_is (clash_in final) (larger_in final) symbols (omega arith)))

  pub conflict_none : first (clash_in (ranks_of (2 * symbols) rows held)) symbols ≡ none → conflict (derived (2 * symbols) rows held) ≡ false
  conflict_none e = rw (← known_is) (clash_none final few (rw half e))

  pub conflict_some : (first (clash_in (ranks_of (2 * symbols) rows held)) symbols ≡ none → ⊥) → conflict (derived (2 * symbols) rows held) ≡ true
  conflict_some e = rw (← known_is) (clash_some final few (λ z. e (rw half at z)))
