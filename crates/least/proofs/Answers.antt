-- What the call answers, by the tests that it has made.
use Rattle.meaning.proofs.Kit.{◌≡◌, ◌∙◌, sym, ap, refl, true, false, Bool, List, [], ◌∷◌, ◌≤◌, ℕ, ◌<◌, suc, ◌*◌, ◌^◌, arith, ℤ, pow_mono, length}
use Rattle.meaning.proofs.Kit.{⊎_elim, eqb, eqb-true, le-leb, lt-leb}
use Rattle.meaning.specs.Tests.{all, keep, none}
use Rattle.meaning.proofs.Tests.{true_or_false}
use Rattle.meaning.specs.Literals.{has}
use Rattle.candidates.specs.Sets.{chosen, size, passing}
use Rattle.least.specs.Least.{ends}
use Rattle.candidates.proofs.ChosenSets.{size_le, passing_all, passing_chosen}
use Rattle.least.proofs.Least.{least_found, least_none, least_below}
use Rattle.literals.specs.Literal.{in_range}
use Rattle.literals.specs.declared.refusal.Refusal.TheVariants.{BadBoard, BadLiteral, NotHeld, BadFurnace, BadCandidates, ConflictStays}
use Rattle.board.specs.Furnaces.{is_furnace, held_by}
use Rattle.board.specs.Faults.{good_board}
use Rattle.board.specs.Ranking.{rows_on}
use Rattle.board.specs.declared.Board.{Board}
use Rattle.std.specs.Prelude.{Ok, Err}
use Rattle.std.specs.Option.{unwrap_or}
use Rattle.findings.specs.Ranks.{found}
use Rattle.candidates.specs.Given.{most_candidates, places_of, repeats}
use Rattle.least.specs.Withdrawing.{leaves_conflict, least_at, least_faults, least_answer}
use Rattle.least.specs.Search.{Searched, stay_answer, given_answer}

-- ---- 18, or the set

module _ (table : List ℤ) (b : Board) (furnace : ℕ) (places : List ℕ) where
  pub stays : leaves_conflict table b furnace places ≡ true
      → record { outcome = Err ConflictStays; set = none } ≡ stay_answer table b furnace places
  stays e = rw e

  pub ended : leaves_conflict table b furnace places ≡ false → {set : ℕ} → set ≡ least_at table b furnace places
      → record { outcome = Ok tt; set = set } ≡ stay_answer table b furnace places
  ended e {set} is = rw (e, is)

-- ---- 1, 16, 2, 17 of too many, or those

module _ (table : List ℤ) (b : Board) (furnace : ℕ) (cands : List ℤ) where
  pub bad_board : good_board table b ≡ false → record { outcome = Err BadBoard; set = none } ≡ least_answer table b furnace cands
  unfolding least_answer least_faults
  bad_board e = rw e

  module _ (good : good_board table b ≡ true) where
    pub bad_furnace : is_furnace furnace ≡ false → record { outcome = Err BadFurnace; set = none } ≡ least_answer table b furnace cands
    unfolding least_answer least_faults
    bad_furnace e = rw (good, e)

    module _ (named : is_furnace furnace ≡ true) where
      pub bad_literal : all (in_range b.symbols) cands ≡ false
          → record { outcome = Err BadLiteral; set = none } ≡ least_answer table b furnace cands
      unfolding least_answer least_faults
      bad_literal e = rw (good, named, e)

      module _ (range : all (in_range b.symbols) cands ≡ true) where
        pub too_many_lem : most_candidates < length cands → record { outcome = Err BadCandidates; set = none } ≡ least_answer table b furnace cands
        unfolding least_answer least_faults
        too_many_lem h = rw (good, named, range, lt-leb (length cands) most_candidates h)

        pub not_many : length cands ≤ most_candidates → given_answer table b furnace cands ≡ least_answer table b furnace cands
        unfolding least_answer least_faults
        not_many h = rw (good, named, range, le-leb (length cands) most_candidates h)

-- ---- the sets of no more than 12

pub sets_few : (n : ℕ) → n ≤ most_candidates → 2 ^ n ≤ 4096
sets_few n h = pow_mono h

-- the set, as the search finds it,
module _ (table : List ℤ) (b : Board) (furnace : ℕ) (places : List ℕ) where
  abbrev test : ℕ → Bool
  test = ends (2 * b.symbols) (rows_on table b) (held_by b furnace) places

  pub first_found : {m known : ℕ} {cores : List ℕ} → Searched test (length places) (size (length places) m) m known cores → m < 2 ^ length places
      → test m ≡ true → m ≡ least_at table b furnace places
  unfolding least_at
  first_found {m} s l e = sym (least_found (2 * b.symbols) (rows_on table b) (held_by b furnace) places m l e s.smaller s.lower)

  -- or finds none
  pub none_found : {k known : ℕ} {cores : List ℕ} → Searched test (length places) k 0 known cores → length places < k
      → none ≡ least_at table b furnace places
  unfolding least_at
  none_found s h =
      sym (least_none (2 * b.symbols) (rows_on table b) (held_by b furnace) places (λ a l. s.smaller a l (omega (arith, size_le (length places) a))))

-- and the number that its answer stands for
pub found_or_none : (n : ℕ) → unwrap_or (found n) none ≡ n
found_or_none n = ⊎_elim (λ t. rw t (sym (eqb-true n none t))) (λ f. rw f refl) (true_or_false (eqb n none))

kept_all : (cands : List ℕ) → keep (λ c. true) cands ≡ cands
kept_all [] = refl
kept_all (c ∷ cands) = ap (λ (l : List ℕ). c ∷ l) (kept_all cands)

-- the highest number has every candidate
pub all_chosen : (places : List ℕ) (m : ℕ) → suc m ≡ 2 ^ length places → chosen places m ≡ places
all_chosen places m e =
    let is : m ≡ passing (λ c. true) places = omega (arith, e, passing_all places) in
    ap (chosen places) is ∙ passing_chosen (λ c. true) places ∙ kept_all places

-- where withdrawing all of them ends the conflict there is a set, one of theirs
pub least_few : (table : List ℤ) (b : Board) (furnace : ℕ) (places : List ℕ) → length places ≤ most_candidates
    → leaves_conflict table b furnace places ≡ false → least_at table b furnace places < 4096
unfolding least_at
least_few table b furnace places h quiet =
    omega (arith, sets_few (length places) h, least_below (2 * b.symbols) (rows_on table b) (held_by b furnace) places quiet)
