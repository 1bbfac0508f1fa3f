-- Going through a row of a sound table as the slice of its eight numbers: each is the number at its place in the row.
use Rattle.meaning.proofs.Kit.{◌≡◌, ◌∙◌, refl, ap, List, [], ◌≤◌, ℕ, ◌<◌, ◌-◌, ◌+◌, ◌*◌, arith, ℤ, pos, nat_abs, neg_ℤ, length, get_or, drop, take, length-take, length-drop}
use Rattle.meaning.proofs.Kit.{get_or-take, get_or-drop, w16, of_z}
use Rattle.meaning.specs.Literals.{opp}
use Rattle.literals.specs.Literal.{place_of}
use Rattle.literals.specs.Row.{width, most_literals, numbers_at, Fit}
use Rattle.literals.proofs.Signed.{back, small_abs}
use Rattle.literals.proofs.Decoding.{sound_small}
use Rattle.literals.proofs.Scanning.{number_at, left, left_end, left_last, Here, Literal, literal, place_allowed, opposite_allowed, opposite_place_allowed}
use Rattle.literals.proofs.Scanning.{opposite_is}

-- the slice, and number j of it
abbrev pub slice : List ℤ → ℕ → List ℤ
slice table r = take (width * r + most_literals - width * r) (drop (width * r) table)

abbrev pub in_slice : List ℤ → ℕ → ℕ → ℤ
in_slice table r j = get_or (slice table r) j (pos 0)

in_slice_is : (table : List ℤ) (r j : ℕ) → j < most_literals → in_slice table r j ≡ number_at table r j
in_slice_is table r j h =
    let inside : j < 9 * r + 8 - 9 * r = omega arith in
    rw (get_or-take, get_or-drop) refl

module _ {places : ℕ} {table : List ℤ} (r : ℕ) (fit : Fit places (r + 1) table) where
  pub slice_long : length (slice table r) ≡ most_literals
  slice_long = rw (length-take, length-drop) (omega (arith, fit.2.room))

  small : (j : ℕ) → j < most_literals → nat_abs (number_at table r j) ≤ fit.0
  unfolding numbers_at
  small j h =
      let row-sound = fit.2.sound r (omega arith) in
      let inside : j < 8 = h in
      rw (get_or-take, get_or-drop) at (sound_small fit.0 (numbers_at table r) row-sound j)

  -- the loop is at one of the numbers,
  pub reading : (j : ℕ) → j < length (slice table r) → Here places table r j
  reading j h =
      let inside : j < most_literals = omega (arith, slice_long) in
      record { fit = fit; inside = inside; fits = small_abs (number_at table r j) (omega (arith, small j inside, fit.2.symbols)) }

  -- or past them
  pub read_last : (j : ℕ) → length (slice table r) ≤ j → left table r j ≡ []
  read_last j h = left_last r fit j (omega (arith, slice_long))

module _ {places : ℕ} {table : List ℤ} {r j : ℕ} (here : Here places table r j) where
  pub read_is : in_slice table r j ≡ number_at table r j
  read_is = in_slice_is table r j here.inside

  -- at a 0 the row ends,
  pub read_end : of_z w16 (in_slice table r j) ≡ 0 → left table r j ≡ []
  read_end z = left_end here (rw read_is at z)

  -- and any other number is a literal
  module _ (more : of_z w16 (in_slice table r j) ≡ 0 → ⊥) where
    some : of_z w16 (number_at table r j) ≡ 0 → ⊥
    some z = more (rw read_is z)

    pub read_allowed : (1 ≤ nat_abs (back (in_slice table r j))) × (nat_abs (back (in_slice table r j)) ≤ 200)
    read_allowed = rw read_is (place_allowed here some)

    pub read_literal : {q : ℕ} → q ≡ place_of (back (in_slice table r j)) → Literal places table r j q
    read_literal {q} at-q = literal here some (rw read_is at at-q)

    -- its opposite m can be taken and placed, and stands at the other place of its symbol
    lit : Literal places table r j (place_of (back (number_at table r j)))
    lit = literal here some refl

    pub read_opposite_allowed : nat_abs (back (in_slice table r j)) < 32768
    read_opposite_allowed = rw read_is (opposite_allowed lit)

    module _ {m : ℤ} (opposed : m ≡ neg_ℤ (back (in_slice table r j))) where
      opposed_at : m ≡ neg_ℤ (back (number_at table r j))
      opposed_at = opposed ∙ ap (λ x. neg_ℤ (back x)) read_is

      pub read_opposite_place_allowed : (1 ≤ nat_abs (back m)) × (nat_abs (back m) ≤ 200)
      read_opposite_place_allowed = opposite_place_allowed lit opposed_at

      pub read_opposite_is : {o q : ℕ} → o ≡ place_of (back m) → q ≡ place_of (back (in_slice table r j)) → o ≡ opp q
      read_opposite_is {o} {q} at-o at-q = opposite_is (read_literal at-q) opposed_at at-o
