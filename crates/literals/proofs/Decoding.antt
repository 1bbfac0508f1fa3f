-- What a sound row decodes to: the places of its literals, one for each, all below 2S.
use Rattle.meaning.proofs.Kit.{◌≡◌, sym, ap, refl, inl, inr, ◌⊎◌, ⊎_elim, true, ◌&&◌, List, [], ◌∷◌, In, in_nil, in_cons, ◌≤◌, ℕ, ◌<◌, suc, ◌*◌, zero}
use Rattle.meaning.proofs.Kit.{arith, eqb, leb, ltb, ℤ, pos, nat_abs, length, get_or, ne_eqb, eq-eqb, le-leb, eqb-true, lt-ltb, ltb-true, leb-true}
use Rattle.meaning.proofs.Tests.{both_true, all_at, in_from}
use Rattle.meaning.proofs.Tables.{le_or_lt, length_tabulate, get_d_tabulate}
use Rattle.literals.specs.Literal.{in_range, place_of}
use Rattle.literals.specs.Row.{numbers_at, zeros, rising, row_sound, rule_sound, rows_sound, decode, rows_in}
use Rattle.literals.proofs.Places.{place_bound}
use Rattle.literals.proofs.Arguments.{range_facts}

-- ---- `decode`, at the first number

pub decode_zero : (l : ℤ) (ls : List ℤ) → nat_abs l ≡ 0 → decode (l ∷ ls) ≡ []
unfolding decode
decode_zero l ls z = rw (eq-eqb _ _ z)

pub decode_literal : (l : ℤ) (ls : List ℤ) → (nat_abs l ≡ 0 → ⊥) → decode (l ∷ ls) ≡ place_of l ∷ decode ls
unfolding decode
decode_literal l ls n = rw (ne_eqb _ _ n)

-- ---- what stands at index i of the decoded row

-- number i of the row is a literal of one of the symbols 1 to S, and p is its place
pub record Decoded (S : ℕ) (row : List ℤ) (i p : ℕ) : Type 0 where
  pub is_place : p ≡ place_of (get_or row i (pos 0))
  pub literal : 1 ≤ nat_abs (get_or row i (pos 0))
  pub known : nat_abs (get_or row i (pos 0)) ≤ S
  pub below : p < 2 * S

-- every place of a decoded list of numbers is that of the literal at the same index
abbrev AllDecoded : ℕ → List ℤ → Type 0
AllDecoded S ls = (i : ℕ) → i < length (decode ls) → Decoded S ls i (get_or (decode ls) i 0)

after_literal : (S : ℕ) (l : ℤ) (ls : List ℤ) → 1 ≤ nat_abs l → nat_abs l ≤ S → AllDecoded S ls → AllDecoded S (l ∷ ls)
after_literal S l ls one most rest zero h =
    rw (decode_literal l ls (omega arith))
    (record { is_place = refl; literal = one; known = most; below = place_bound S l one most })
after_literal S l ls one most rest (suc i) h =
    let split = decode_literal l ls (omega arith) in
    let d = rest i (omega (arith, ap length split)) in
    rw split (record { is_place = d.is_place; literal = d.literal; known = d.known; below = d.below })

after_zero : (S : ℕ) (l : ℤ) (ls : List ℤ) → nat_abs l ≡ 0 → AllDecoded S (l ∷ ls)
after_zero S l ls z i h = absurd (omega (arith, ap length (decode_zero l ls z)))

-- ---- from `rising` and `row_sound`, a number at a time

-- numbers that rise from above `last`: the first is a literal, and the others rise from above its symbol
pub record Climbs (S last : ℕ) (l : ℤ) (ls : List ℤ) : Type 0 where
  pub some : 1 ≤ nat_abs l
  pub up : last < nat_abs l
  pub known : nat_abs l ≤ S
  pub others : rising S (nat_abs l) ls ≡ true

-- or it is 0, and so are they
pub rising_cons : (S last : ℕ) (l : ℤ) (ls : List ℤ) → rising S last (l ∷ ls) ≡ true → ((nat_abs l ≡ 0) × (zeros ls ≡ true)) ⊎ Climbs S last l ls
unfolding rising
rising_cons S last l ls e =
    ⊎_elim
    (λ h. (let none : nat_abs l ≡ 0 = omega arith in inl (none, (rw (eq-eqb (nat_abs l) 0 none) at e))))
    (λ some. (let s = nat_abs l in
    let tests = both_true (ltb last s && leb s S) (rising S s ls) (rw (ne_eqb s 0 (omega arith)) at e) in
    let range = both_true (ltb last s) (leb s S) tests.0 in
    inr (record { some = some; up = ltb-true _ _ range.0; known = leb-true _ _ range.1; others = tests.1 })))
    (le_or_lt (nat_abs l) 0)

rising_decoded : (S last : ℕ) (ls : List ℤ) → rising S last ls ≡ true → AllDecoded S ls
unfolding decode
rising_decoded S last [] e = λ i h. absurd (omega arith)
rising_decoded S last (l ∷ ls) e =
    ⊎_elim (λ z. after_zero S l ls z.0)
    (λ c. after_literal S l ls c.some c.known (rising_decoded S (nat_abs l) ls c.others))
    (rising_cons S last l ls e)

-- the symbols of a sound row rise from above 0
pub sound_rising : (S : ℕ) (row : List ℤ) → row_sound S row ≡ true → rising S 0 row ≡ true
unfolding row_sound rising
sound_rising S [] e = refl
sound_rising S (l ∷ ls) e =
    let first = both_true (in_range S l) (rising S (nat_abs l) ls) e in
    let r = range_facts S l first.0 in
    rw (ne_eqb (nat_abs l) 0 (omega (arith, r.0)), lt-ltb 0 (nat_abs l) r.0, le-leb (nat_abs l) S r.1) first.1

-- in a sound row every decoded place is below 2S, and is that of the literal at the same index
pub sound_decoded : (S : ℕ) (row : List ℤ) → row_sound S row ≡ true → (i : ℕ) → i < length (decode row) → Decoded S row i (get_or (decode row) i 0)
sound_decoded S row e = rising_decoded S 0 row (sound_rising S row e)

-- an element of a list stands at an index of it
at_index : {p : ℕ} (row : List ℕ) → In p row → (i : ℕ) × (i < length row) × (get_or row i 0 ≡ p)
at_index [] m = absurd (in_nil m)
at_index {p = p} (q ∷ row) m =
    ⊎_elim {C = (i : ℕ) × (i < length (q ∷ row)) × (get_or (q ∷ row) i 0 ≡ p)}
    (λ e. (zero, omega arith, sym e))
    (λ n. let r = at_index {p = p} row n in (suc r.0, omega arith, r.2))
    (in_cons m)

-- so each place in it is below 2S
pub sound_in : (S : ℕ) (row : List ℤ) → row_sound S row ≡ true → {p : ℕ} → In p (decode row) → p < 2 * S
sound_in S row e m = let r = at_index (decode row) m in omega (arith, r.2, (sound_decoded S row e r.0 r.1).below)

-- ---- every number of a sound row is 0 or a literal of one of the symbols 1 to S

pub zeros_small : (ls : List ℤ) → zeros ls ≡ true → (i : ℕ) → nat_abs (get_or ls i (pos 0)) ≡ 0
unfolding zeros
zeros_small [] e i = refl
zeros_small (l ∷ ls) e zero = eqb-true _ _ (both_true (eqb (nat_abs l) 0) (zeros ls) e).0
zeros_small (l ∷ ls) e (suc i) = zeros_small ls (both_true (eqb (nat_abs l) 0) (zeros ls) e).1 i

rising_small : (S last : ℕ) (ls : List ℤ) → rising S last ls ≡ true → (i : ℕ) → nat_abs (get_or ls i (pos 0)) ≤ S
rising_small S last [] e i = omega arith
rising_small S last (l ∷ ls) e zero = ⊎_elim (λ z. omega (arith, z.0)) (λ c. c.known) (rising_cons S last l ls e)
rising_small S last (l ∷ ls) e (suc i) =
    ⊎_elim (λ z. omega (arith, zeros_small ls z.1 i)) (λ c. rising_small S (nat_abs l) ls c.others i) (rising_cons S last l ls e)

pub sound_small : (S : ℕ) (row : List ℤ) → row_sound S row ≡ true → (i : ℕ) → nat_abs (get_or row i (pos 0)) ≤ S
sound_small S row e = rising_small S 0 row (sound_rising S row e)

-- ---- the rows of a table

-- where all rows in use are sound, each is: its literals, and its rule's number
pub sound_both : (S rules used : ℕ) (t : List ℤ) → rows_sound S rules used t ≡ true → (r : ℕ) → r < used
    → (row_sound S (numbers_at t r) ≡ true) × (rule_sound rules t r ≡ true)
unfolding rows_sound
sound_both S rules used t e r h =
    both_true (row_sound S (numbers_at t r)) (rule_sound rules t r)
    (all_at (λ r. row_sound S (numbers_at t r) && rule_sound rules t r) e (in_from 0 used r (omega arith) (omega arith)))

pub rows_at : (used : ℕ) (t : List ℤ) (r : ℕ) → r < used → get_or (rows_in used t) r [] ≡ decode (numbers_at t r)
unfolding rows_in
rows_at used t r h = get_d_tabulate used (λ r. decode (numbers_at t r)) r [] h

pub length_rows : (used : ℕ) (t : List ℤ) → length (rows_in used t) ≡ used
unfolding rows_in
length_rows used t = length_tabulate used (λ r. decode (numbers_at t r))
