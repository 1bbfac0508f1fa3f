-- 02, Ticket 4: the symbol that blame takes, and that the premises that it marks are enough for the conflict.
use Rattle.meaning.proofs.Kit.{◌≡◌, ◌∙◌, sym, ap, refl, ⊎_elim, true, false, Bool, ◌&&◌, ◌||◌, List, In, ◌≤◌, ℕ, ◌<◌, ◌-◌, ◌+◌, suc, ◌*◌}
use Rattle.meaning.proofs.Kit.{arith, eqb, length, eq-eqb, eqb-true}
use Rattle.meaning.specs.Tests.{none, first_smallest}
use Rattle.meaning.specs.Literals.{place, has, Within, conflict}
use Rattle.meaning.specs.Rounds.{by_rows, derived, label, label_of}
use Rattle.meaning.specs.Ground.{reaches, larger_rank, blamed, blame}
use Rattle.meaning.specs.Promises.{HasLabel3, Earliest, BlamedIs, BlameHeld, BlameEnough}
use Rattle.meaning.proofs.Tests.{both_true, one_true_lem, or_left, or_right, clash}
use Rattle.meaning.proofs.Tables.{length_tabulate, get_d_tabulate, Ahead, first_smallest_is}
use Rattle.meaning.proofs.Literals.{has_below, opp_place, place_below, conflict_at, conflict_pair}
use Rattle.meaning.proofs.Rounds.{reached_length}
use Rattle.meaning.proofs.Standing.{reached_held, stands}

-- ---- the symbols with label 3

pub label_is_3 : (a b : Bool) → eqb (label_of a b) 3 ≡ (a && b)
label_is_3 true true = refl
label_is_3 true false = refl
label_is_3 false true = refl
label_is_3 false false = refl

module _ (symbols : ℕ) (rows : List (List ℕ)) (held : List Bool) where
  abbrev known : List Bool
  known = derived (2 * symbols) rows held

  -- both literals of such a symbol are derived,
  both_derived : (s : ℕ) → HasLabel3 symbols rows held s → (has known (place s true) ≡ true) × (has known (place s false) ≡ true)
  both_derived s h =
      let a = has known (place s true) in
      let b = has known (place s false) in both_true a b (sym (label_is_3 a b) ∙ eq-eqb (label_of a b) 3 h.2)

  -- and a board in conflict has one
  some_symbol : conflict known ≡ true → (s : ℕ) × HasLabel3 symbols rows held s
  some_symbol c =
      let f = conflict_pair known c in
      let low = has_below known (2 * f.0 + 1) f.2 in
      let long = reached_length (2 * symbols) (by_rows rows) held (2 * symbols) in
      let first : 2 * (suc f.0 - 1) ≡ 2 * f.0 = omega arith in
      (suc f.0, (omega arith, omega arith, rw (first, f.1, f.2)))

-- ---- the one that blame takes

module _ (symbols : ℕ) (rows : List (List ℕ)) (held : List Bool) (small : 2 * symbols < none)
    (c : conflict (derived (2 * symbols) rows held) ≡ true) where
  -- by numbers from 0, as `blamed` counts: the larger rank, and whether the label is 3
  abbrev larger : ℕ → ℕ
  larger i = larger_rank (2 * symbols) rows held (suc i)

  abbrev has_3 : ℕ → Bool
  has_3 i = eqb (label (derived (2 * symbols) rows held) (suc i)) 3

  counted : (t : ℕ) → HasLabel3 symbols rows held t → (suc (t - 1) ≡ t) × (t - 1 < symbols) × (has_3 (t - 1) ≡ true)
  counted t h =
      let low = h.0 in
      let high = h.1 in
      let same : suc (t - 1) ≡ t = omega arith in
      (same, omega arith, eq-eqb (label (derived (2 * symbols) rows held) (suc (t - 1))) 3 (rw same h.2))

  blamed_earliest : Earliest symbols rows held (blamed symbols rows held)
  unfolding blamed
  blamed_earliest = ⊎_elim found never (first_smallest_is has_3 larger symbols (omega arith))
    where
      i : ℕ
      i = first_smallest has_3 larger symbols

      found : (i < symbols) × (has_3 i ≡ true) × ((j : ℕ) → j < symbols → has_3 j ≡ true → Ahead larger i j) → Earliest symbols rows held (suc i)
      found f =
          record {
            label_3 = (omega arith, omega (arith, f.0), eqb-true (label (derived (2 * symbols) rows held) (suc i)) 3 f.1);
            smallest = λ t h. (let k = counted t h in rw k.0 at (f.2 (t - 1) k.1 k.2).0);
            lowest =
                λ t h e. (let k = counted t h in
                omega (arith, h.0, (f.2 (t - 1) k.1 k.2).1 (ap (larger_rank (2 * symbols) rows held) k.0 ∙ e)));
          }

      never : (i ≡ none) × ((j : ℕ) → j < symbols → has_3 j ≡ false) → Earliest symbols rows held (suc i)
      never f = let t = some_symbol symbols rows held c in let k = counted t.0 t.1 in clash k.2 (f.1 (t.0 - 1) k.1)

pub blamed_is : BlamedIs
blamed_is symbols rows held s small c = (λ e. rw e at first, only)
  where
    r : ℕ
    r = blamed symbols rows held

    first : Earliest symbols rows held r
    first = blamed_earliest symbols rows held small c

    larger : ℕ → ℕ
    larger t = larger_rank (2 * symbols) rows held t

    only : Earliest symbols rows held s → r ≡ s
    only x =
        let equal : larger r ≡ larger s = omega (arith, first.smallest s x.label_3, x.smallest r first.label_3) in
        omega (arith, first.lowest s x.label_3 (sym equal), x.lowest r first.label_3 equal)

-- ---- the premises that it marks

pub length_blame : (symbols : ℕ) (rows : List (List ℕ)) (held : List Bool) → length (blame symbols rows held) ≡ 2 * symbols
unfolding blame
length_blame symbols rows held = length_tabulate (2 * symbols) _

-- a place is marked exactly if one of the symbol's two literals reaches it
pub blame_at : (symbols : ℕ) (rows : List (List ℕ)) (held : List Bool) (x : ℕ) → x < 2 * symbols
    → let s = blamed symbols rows held in
    has (blame symbols rows held) x ≡ (reaches (2 * symbols) rows held (place s true) x || reaches (2 * symbols) rows held (place s false) x)
unfolding blame
blame_at symbols rows held x h = get_d_tabulate (2 * symbols) _ x false h

module _ (symbols : ℕ) (rows : List (List ℕ)) (held : List Bool) (small : 2 * symbols < none) (few : length rows ≤ none)
    (c : conflict (derived (2 * symbols) rows held) ≡ true) where
  abbrev places : ℕ
  places = 2 * symbols

  abbrev s : ℕ
  s = blamed symbols rows held

  abbrev marks : List Bool
  marks = blame symbols rows held

  has_label_3 : HasLabel3 symbols rows held s
  has_label_3 = (blamed_earliest symbols rows held small c).label_3

  below : (b : Bool) → place s b < places
  below b = place_below symbols s b has_label_3.0 has_label_3.1

  abbrev either : ℕ → Bool
  either x = reaches places rows held (place s true) x || reaches places rows held (place s false) x

  reach_marked : (b : Bool) (x : ℕ) → reaches places rows held (place s b) x ≡ true → has marks x ≡ true
  reach_marked b x r = blame_at symbols rows held x (reached_held places rows held small few (place s b) x (below b) r).0 ∙ one b r
    where
      one : (b : Bool) → reaches places rows held (place s b) x ≡ true → either x ≡ true
      one true e = or_left (reaches places rows held (place s true) x) (reaches places rows held (place s false) x) e
      one false e = or_right (reaches places rows held (place s true) x) (reaches places rows held (place s false) x) e

  marked_held : Within marks held
  marked_held x e =
      let low : x < places = omega (arith, has_below marks x e, length_blame symbols rows held) in
      ⊎_elim
      (λ r. (reached_held places rows held small few (place s true) x (below true) r).1)
      (λ r. (reached_held places rows held small few (place s false) x (below false) r).1)
      (one_true_lem (reaches places rows held (place s true) x) (reaches places rows held (place s false) x) (sym (blame_at symbols rows held x low) ∙ e))

  module _ (more : List (List ℕ)) (now : List Bool) (kept : (row : List ℕ) → In row rows → In row more) (w : Within marks now) where
    still : (b : Bool) → has (derived places rows held) (place s b) ≡ true → has (derived places more now) (place s b) ≡ true
    still b d = stands places rows held small few more now kept (place s b) (below b) d (λ x r. w x (reach_marked b x r))

    still_conflict : conflict (derived places more now) ≡ true
    still_conflict =
        let both = both_derived symbols rows held s has_label_3 in
        conflict_at (derived places more now) (place s true) (still true both.0) (rw (opp_place s true) (still false both.1))

pub blame_held : BlameHeld
blame_held symbols rows held small few c = marked_held symbols rows held small few c

pub blame_enough : BlameEnough
blame_enough symbols rows more held now small few c kept w = still_conflict symbols rows held small few c more now kept w
