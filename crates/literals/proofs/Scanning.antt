-- Going through a row of a sound table number by number: what is left of the row.
use Rattle.meaning.proofs.Kit.{◌≡◌, ◌∙◌, sym, ap, refl, List, [], ◌∷◌, In, ◌≤◌, ℕ, ◌<◌, ◌+◌, ◌*◌, add-one, arith, ℤ, pos, nat_abs, neg_ℤ, length, get_or}
use Rattle.meaning.proofs.Kit.{drop, take, length-drop, drop_of_length-le, length-take-le, drop-cons, get_or-take, get_or-drop, w16, SFits, of_z, to_z-of_z}
use Rattle.meaning.specs.Literals.{opp}
use Rattle.meaning.specs.Tests.{none}
use Rattle.meaning.proofs.Literals.{opp_in}
use Rattle.literals.specs.Literal.{place_of}
use Rattle.literals.specs.Row.{width, most_literals, numbers_at, decode, rows_in, Fit}
use Rattle.literals.proofs.Signed.{back, back_abs, zero_bits, bits_zero}
use Rattle.literals.proofs.Places.{place_bound}
use Rattle.literals.proofs.Opposites.{opposite_abs, opposite_at}
use Rattle.literals.proofs.Decoding.{length_rows, decode_zero, decode_literal, sound_in, sound_small}

-- the rows up to one of a sound table's are sound
pub fit_row : (places used : ℕ) (table : List ℤ) → Fit places used table → (r : ℕ) → r < used → Fit places (r + 1) table
fit_row places used table f r h =
    let s = f.2 in (
      f.0,
      f.1,
      record {
        symbols = s.symbols;
        rows = omega (arith, s.rows);
        room = omega (arith, s.room);
        sound = λ i m. s.sound i (omega arith);
      },
    )

-- there are few places, and few rows
pub few_places : {places used : ℕ} {table : List ℤ} → Fit places used table → places ≤ 400
few_places f = omega (arith, f.1, f.2.symbols)

pub few_rows : {places used : ℕ} {table : List ℤ} → Fit places used table → length (rows_in used table) ≤ none
few_rows {used} {table} f = omega (arith, length_rows used table, f.2.rows)

-- the numbers of row r from the jth on
rest : List ℤ → ℕ → ℕ → List ℤ
rest table r j = drop j (numbers_at table r)

-- the literals of row r from the jth on
pub left : List ℤ → ℕ → ℕ → List ℕ
left table r j = decode (rest table r j)

pub left_all : (table : List ℤ) (r : ℕ) → left table r 0 ≡ decode (numbers_at table r)
unfolding left rest
left_all table r = refl

-- the number there
abbrev pub number_at : List ℤ → ℕ → ℕ → ℤ
number_at table r j = get_or table (width * r + j) (pos 0)

module _ {places : ℕ} {table : List ℤ} (r : ℕ) (f : Fit places (r + 1) table) where
  length_numbers : length (numbers_at table r) ≡ most_literals
  unfolding numbers_at
  length_numbers = length-take-le 8 (drop (9 * r) table) (simp length-drop (omega (arith, f.2.room)))

  -- past its eighth number a row has nothing left
  pub left_last : (j : ℕ) → most_literals ≤ j → left table r j ≡ []
  unfolding left rest decode
  left_last j h = rw (drop_of_length-le (numbers_at table r) {i = j} (omega (arith, length_numbers)))

-- the scan reads number j of row r, one of its eight
pub record Here (places : ℕ) (table : List ℤ) (r j : ℕ) : Type 0 where
  pub fit : Fit places (r + 1) table
  pub inside : j < most_literals
  pub fits : SFits w16 (number_at table r j)

-- and it is a literal, whose place is q
pub record Literal (places : ℕ) (table : List ℤ) (r j q : ℕ) : Type 0 where
  pub fits : SFits w16 (number_at table r j)
  pub some : 1 ≤ nat_abs (number_at table r j)
  pub few : nat_abs (number_at table r j) ≤ 200
  pub is_place : q ≡ place_of (number_at table r j)
  pub first : left table r j ≡ q ∷ left table r (j + 1)
  pub inside : q < places
  pub opposite : opp q < places

module _ {places : ℕ} {table : List ℤ} {r j : ℕ} (here : Here places table r j) where
  abbrev number : ℤ
  number = number_at table r j

  cons : rest table r j ≡ number ∷ rest table r (j + 1)
  unfolding rest numbers_at
  cons =
      let inside : j < 8 = here.inside in
      let short : j < length (take 8 (drop (9 * r) table)) = unfold numbers_at in omega (arith, length_numbers r here.fit) in
      rw (add-one, drop-cons (take 8 (drop (9 * r) table)) j (pos 0), get_or-take, get_or-drop)

  small : nat_abs number ≤ here.fit.0
  unfolding numbers_at
  small =
      let row-sound = here.fit.2.sound r (omega arith) in
      let inside : j < 8 = here.inside in
      rw (get_or-take, get_or-drop) at (sound_small here.fit.0 (numbers_at table r) row-sound j)

  -- at a 0 the row ends,
  pub left_end : of_z w16 (number_at table r j) ≡ 0 → left table r j ≡ []
  unfolding left
  left_end z = rw cons (decode_zero number (rest table r (j + 1)) (zero_bits {l = number} here.fits z))

  -- and any other number is a literal
  module _ (more : of_z w16 (number_at table r j) ≡ 0 → ⊥) where
    some : 1 ≤ nat_abs number
    some = let no : nat_abs number ≡ 0 → ⊥ = λ z. more (bits_zero number z) in omega arith

    few : nat_abs number ≤ 200
    few = omega (arith, small, here.fit.2.symbols)

    pub place_allowed : (1 ≤ nat_abs (back (number_at table r j))) × (nat_abs (back (number_at table r j)) ≤ 200)
    place_allowed = rw (to_z-of_z here.fits) (some, few)

    pub literal : {q : ℕ} → q ≡ place_of (back (number_at table r j)) → Literal places table r j q
    unfolding left
    literal {q} is =
        let same : q ≡ place_of number = is ∙ ap place_of (to_z-of_z here.fits) in
        let low : q < places = rw (same, here.fit.1) (place_bound here.fit.0 number some small) in
        record {
          fits = here.fits;
          some = some;
          few = few;
          is_place = same;
          first = rw (cons, same) (decode_literal number (rest table r (j + 1)) (omega (arith, some)));
          inside = low;
          opposite = opp_in q places (omega (arith, here.fit.1)) low;
        }

-- its opposite m can be taken and placed, and stands at o, the other place of its symbol
module _ {places : ℕ} {table : List ℤ} {r j q : ℕ} (l : Literal places table r j q) where
  low : nat_abs (number_at table r j) < 32768
  low = omega (arith, l.few)

  pub opposite_allowed : nat_abs (back (number_at table r j)) < 32768
  opposite_allowed = rw (back_abs l.fits) low

  module _ {m : ℤ} (is : m ≡ neg_ℤ (back (number_at table r j))) where
    pub opposite_place_allowed : (1 ≤ nat_abs (back m)) × (nat_abs (back m) ≤ 200)
    opposite_place_allowed = rw (opposite_abs l.fits low is) (l.some, l.few)

    pub opposite_is : {o : ℕ} → o ≡ place_of (back m) → o ≡ opp q
    opposite_is at-o = opposite_at l.fits low is l.some at-o ∙ ap opp (sym l.is_place)

-- a literal of a sound row is one of the places
pub row_in : (places r : ℕ) (table : List ℤ) → Fit places (r + 1) table → {p : ℕ} → In p (decode (numbers_at table r)) → p < places
row_in places r table f m = let b = sound_in f.0 (numbers_at table r) (f.2.sound r (omega arith)) m in omega (arith, f.1)
