-- The literals of a sound row differ, since their symbols rise.
use Rattle.meaning.proofs.Kit.{◌≡◌, ◌∙◌, sym, ap, ⊎_elim, ◌≢◌, true, List, [], ◌∷◌, In, in_nil, in_cons, ◌≤◌, ℕ, ◌<◌, suc, ◌/◌, arith, ℤ, nat_abs}
use Rattle.literals.specs.Literal.{place_of}
use Rattle.literals.specs.Row.{numbers_at, rising, decode, Fit}
use Rattle.literals.proofs.Places.{literal_abs, literal_at_place}
use Rattle.literals.proofs.Decoding.{decode_zero, decode_literal, rising_cons, sound_rising}

-- no literal stands in the row twice
abbrev pub Differ : List ℕ → Type 0
Differ [] = Unit {0}
Differ (q ∷ row) = ((x : ℕ) → In x row → x ≢ q) × Differ row

-- nor one of the symbols up to `last`
abbrev Above : ℕ → List ℕ → Type 0
Above last row = Differ row × ((x : ℕ) → In x row → last ≤ x / 2)

above_none : (last : ℕ) → Above last []
above_none last = (tt, λ x m. absurd (in_nil m))

above_more : (last : ℕ) (l : ℤ) (row : List ℕ) → 1 ≤ nat_abs l → last < nat_abs l → Above (nat_abs l) row → Above last (place_of l ∷ row)
above_more last l row some up w =
    let symbol : nat_abs l ≡ suc (place_of l / 2) = sym (ap nat_abs (literal_at_place l some)) ∙ literal_abs (place_of l) in (
      (λ x m e. omega (arith, symbol, e, w.1 x m), w.0),
      λ x m. ⊎_elim (λ e. omega (arith, symbol, e)) (λ n. omega (arith, w.1 x n)) (in_cons m),
    )

rising_above : (S last : ℕ) (ls : List ℤ) → rising S last ls ≡ true → Above last (decode ls)
unfolding decode
rising_above S last [] e = above_none last
rising_above S last (l ∷ ls) e =
    ⊎_elim (λ z. rw (decode_zero l ls z.0) (above_none last))
    (λ c. rw (decode_literal l ls (omega (arith, c.some)))
    (above_more last l (decode ls) c.some c.up (rising_above S (nat_abs l) ls c.others)))
    (rising_cons S last l ls e)

pub row_differs : {places used : ℕ} {table : List ℤ} → Fit places used table → (r : ℕ) → r < used → Differ (decode (numbers_at table r))
row_differs {used} {table} fit r h =
    let sound = fit.2.sound r h in
    (rising_above fit.0 0 (numbers_at table r) (sound_rising fit.0 (numbers_at table r) sound)).0
