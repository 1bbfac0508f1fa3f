-- The cells of a sound table: which row a cell's literal stands in, and that a row holds each of its literals once.
use Rattle.meaning.proofs.Kit.{◌≡◌, ◌∙◌, sym, ap, refl, subst, ⊎_elim, true, not, false≢true, true≢false, List, [], ◌∷◌, ◌≤◌, ℕ, ◌<◌, ◌+◌, suc, ◌*◌}
use Rattle.meaning.proofs.Kit.{zero, ◌/◌, ◌%◌, arith, eqb, ℤ, pos, nat_abs, length, get_or, drop, length-take, get_or-take, get_or-drop, ne_eqb, eq-eqb}
use Rattle.meaning.proofs.Kit.{eqb-true, eqb-false}
use Rattle.meaning.specs.Tests.{member, none}
use Rattle.meaning.proofs.Tests.{true_or_false, both_true, one_true_lem, or_left, or_right}
use Rattle.meaning.proofs.Tables.{le_or_lt}
use Rattle.literals.specs.Literal.{place_of}
use Rattle.literals.specs.Row.{most_literals, numbers_at, rising, decode, Fit}
use Rattle.literals.proofs.Places.{literal_at_place}
use Rattle.literals.proofs.Decoding.{decode_zero, decode_literal, Climbs, rising_cons, sound_decoded, sound_rising, zeros_small}
use Rattle.literals.proofs.Scanning.{number_at}
use Rattle.index.specs.Index.{in_cell, empty, holds}

-- there are few cells
pub few_cells : {places used : ℕ} {table : List ℤ} → Fit places used table → most_literals * used ≤ none
few_cells f = omega (arith, f.2.rows)

-- ---- what a cell holds

-- a number that is not 0 is a literal
abbrev pub Some : ℤ → Type 0
Some l = nat_abs l ≡ 0 → ⊥

pub holds_words : (table : List ℤ) (p i : ℕ) → holds table p i ≡ true → Some (in_cell table i) × (place_of (in_cell table i) ≡ p)
unfolding holds empty
holds_words table p i h =
    let b = both_true (not (eqb (nat_abs (in_cell table i)) 0)) (eqb (place_of (in_cell table i)) p) h in
    (λ z. true≢false (sym b.0 ∙ ap not (eq-eqb (nat_abs (in_cell table i)) 0 z)), eqb-true (place_of (in_cell table i)) p b.1)

pub holds_of : (table : List ℤ) (p i : ℕ) → Some (in_cell table i) → place_of (in_cell table i) ≡ p → holds table p i ≡ true
unfolding holds empty
holds_of table p i n e = rw (ne_eqb (nat_abs (in_cell table i)) 0 n) (eq-eqb (place_of (in_cell table i)) p e)

-- ---- the numbers of a row

-- a literal of a row is one of its numbers
Found : ℕ → List ℤ → Type 0
Found p ls = (j : ℕ) × (j < length ls) × Some (get_or ls j (pos 0)) × (place_of (get_or ls j (pos 0)) ≡ p)

number_of : (p : ℕ) (ls : List ℤ) → member p (decode ls) ≡ true → Found p ls
unfolding decode Found
number_of p [] e = absurd (false≢true e)
number_of p (l ∷ ls) e =
    ⊎_elim (λ h. absurd (false≢true (rw (decode_zero l ls (omega arith)) at e)))
    (λ h. ⊎_elim (λ f. (zero, omega arith, omega arith, eqb-true (place_of l) p f))
    (λ m. (let r = number_of p ls m in (suc r.0, omega (arith, r.1), r.2, r.3)))
    (one_true_lem (eqb (place_of l) p) (member p (decode ls)) (rw (decode_literal l ls (omega arith)) at e)))
    (le_or_lt (nat_abs l) 0)

-- symbols rise from above `last` on, up to the first 0: where a literal stands, so does one at the front
climbs : (S last : ℕ) (l : ℤ) (ls : List ℤ) → rising S last (l ∷ ls) ≡ true → (j : ℕ) → Some (get_or (l ∷ ls) j (pos 0)) → Climbs S last l ls
climbs S last l ls e zero n = ⊎_elim (λ z. absurd (n z.0)) (λ c. c) (rising_cons S last l ls e)
climbs S last l ls e (suc j) n = ⊎_elim (λ z. absurd (n (zeros_small ls z.1 j))) (λ c. c) (rising_cons S last l ls e)

-- number j is a literal, among numbers that rise: it is one of those that are decoded
record Among (last : ℕ) (ls : List ℤ) (j : ℕ) : Type 0 where
  above : last < nat_abs (get_or ls j (pos 0))
  short : j < length (decode ls)
  decoded : member (place_of (get_or ls j (pos 0))) (decode ls) ≡ true

rising_at : (S last : ℕ) (ls : List ℤ) → rising S last ls ≡ true → (j : ℕ) → Some (get_or ls j (pos 0)) → Among last ls j
rising_at S last [] e j n = absurd (n refl)
rising_at S last (l ∷ ls) e zero n =
    let split = decode_literal l ls n in
    record {
      above = (climbs S last l ls e zero n).up;
      short = omega (arith, ap length split);
      decoded = rw split (or_left (eqb (place_of l) (place_of l)) (member (place_of l) (decode ls)) (eq-eqb (place_of l) (place_of l) refl));
    }
rising_at S last (l ∷ ls) e (suc i) n =
    let c = climbs S last l ls e (suc i) n in
    let split = decode_literal l ls (omega (arith, c.some)) in
    let r = rising_at S (nat_abs l) ls c.others i n in
    let m = get_or ls i (pos 0) in
    record {
      above = omega (arith, c.up, r.above);
      short = omega (arith, ap length split, r.short);
      decoded = rw split (or_right (eqb (place_of l) (place_of m)) (member (place_of m) (decode ls)) r.decoded);
    }

-- before a literal there is none of its symbol
rising_two : (S last : ℕ) (ls : List ℤ) → rising S last ls ≡ true → (i j : ℕ) → i < j → Some (get_or ls j (pos 0))
    → nat_abs (get_or ls i (pos 0)) < nat_abs (get_or ls j (pos 0))
rising_two S last [] e i j h n = absurd (n refl)
rising_two S last (l ∷ ls) e i zero h n = absurd (omega arith)
rising_two S last (l ∷ ls) e zero (suc j) h n = (rising_at S (nat_abs l) ls (climbs S last l ls e (suc j) n).others j n).above
rising_two S last (l ∷ ls) e (suc i) (suc j) h n = rising_two S (nat_abs l) ls (climbs S last l ls e (suc j) n).others i j (omega arith) n

-- ---- the cells of a row

-- a row's cells hold the numbers of its places
pub cell_number : (table : List ℤ) (r j : ℕ) → j < most_literals → in_cell table (most_literals * r + j) ≡ number_at table r j
cell_number table r j h =
    let row : (8 * r + j) / 8 ≡ r = omega arith in
    let place : (8 * r + j) % 8 ≡ j = omega arith in
    rw (row, place)

number_at_lem : (table : List ℤ) (r j : ℕ) → j < most_literals → get_or (numbers_at table r) j (pos 0) ≡ in_cell table (most_literals * r + j)
unfolding numbers_at
number_at_lem table r j h = get_or-take 8 (drop (9 * r) table) j (pos 0) h ∙ get_or-drop (9 * r) table j (pos 0) ∙ sym (cell_number table r j h)

-- a cell's number, of those of its row
in_row : (table : List ℤ) (i : ℕ) → get_or (numbers_at table (i / most_literals)) (i % most_literals) (pos 0) ≡ in_cell table i
in_row table i =
    let whole : 8 * (i / 8) + i % 8 ≡ i = omega arith in
    number_at_lem table (i / 8) (i % 8) (omega arith) ∙ ap (λ x. in_cell table x) whole

-- a literal of a row stands in one of the row's cells
pub cell_of : (table : List ℤ) (r p : ℕ) → member p (decode (numbers_at table r)) ≡ true
    → (i : ℕ) × (most_literals * r ≤ i) × (i < most_literals * r + most_literals) × (holds table p i ≡ true)
unfolding Found
cell_of table r p e =
    let f = number_of p (numbers_at table r) e in
    let j = f.0 in
    let short : j < 8 = unfold numbers_at in omega (arith, f.1, length-take 8 (drop (9 * r) table)) in
    let same = number_at_lem table r j short in
    (8 * r + j, omega arith, omega arith, holds_of table p (8 * r + j) (rw same at f.2) (rw same at f.3))

module _ {places used : ℕ} {table : List ℤ} (fit : Fit places used table) where
  rises : (r : ℕ) → r < used → rising fit.0 0 (numbers_at table r) ≡ true
  rises r h = sound_rising fit.0 (numbers_at table r) (fit.2.sound r h)

  module _ {i : ℕ} (inside : i < most_literals * used) where
    row_low : i / most_literals < used
    row_low = omega arith

    here : Some (in_cell table i) → Among 0 (numbers_at table (i / most_literals)) (i % most_literals)
    here n = rising_at fit.0 0 (numbers_at table (i / most_literals)) (rises (i / most_literals) row_low) (i % most_literals) (rw (in_row table i) n)

    -- the row of a cell contains the literal that the cell holds
    pub cell_contains : (p : ℕ) → holds table p i ≡ true → member p (decode (numbers_at table (i / most_literals))) ≡ true
    cell_contains p h =
        let w = holds_words table p i h in
        subst (λ q. member q (decode (numbers_at table (i / most_literals))) ≡ true) (ap place_of (in_row table i) ∙ w.1) (here w.0).decoded

    -- as many of its cells as it has literals hold one, and the others none
    pub cell_some : i % most_literals < length (decode (numbers_at table (i / most_literals))) → Some (in_cell table i)
    cell_some h z =
        let row = numbers_at table (i / most_literals) in
        let d = sound_decoded fit.0 row (fit.2.sound (i / most_literals) row_low) (i % most_literals) h in
        omega (arith, d.literal, ap nat_abs (in_row table i), z)

    pub cell_zero : length (decode (numbers_at table (i / most_literals))) ≤ i % most_literals → nat_abs (in_cell table i) ≡ 0
    cell_zero h =
        ⊎_elim (λ e. eqb-true (nat_abs (in_cell table i)) 0 e)
        (λ e. absurd (omega (arith, (here (eqb-false (nat_abs (in_cell table i)) 0 e)).short, h)))
        (true_or_false (eqb (nat_abs (in_cell table i)) 0))

    -- no cell before it in its row holds the same literal
    pub cell_alone : (p j : ℕ) → j / most_literals ≡ i / most_literals → j < i → holds table p j ≡ true → holds table p i ≡ true → ⊥
    cell_alone p j same before y h =
        let v = holds_words table p j y in
        let w = holds_words table p i h in
        let row = numbers_at table (i / 8) in
        let at_j : get_or row (j % 8) (pos 0) ≡ in_cell table j = rw (← same) (in_row table j) in
        let two : nat_abs (in_cell table j) < nat_abs (in_cell table i) =
        rw (at_j, in_row table i) at
        (rising_two fit.0 0 row (rises (i / 8) row_low) (j % 8) (i % 8) (omega (arith, same, before)) (rw (in_row table i) w.0)) in
        let some-j : 1 ≤ nat_abs (in_cell table j) = let n = v.0 in omega arith in
        let equal : in_cell table j ≡ in_cell table i =
        cc (literal_at_place (in_cell table j) some-j, literal_at_place (in_cell table i) (omega (arith, two)), v.1, w.1) in
        omega (arith, two, ap nat_abs equal)
