-- Laws of a row as it is written: it decodes to the places that it was made of, and it is sound.
use Rattle.meaning.proofs.Kit.{◌≡◌, refl, true, List, [], ◌∷◌, ◌++◌, map, In, here, there, ◌≤◌, ℕ, ◌<◌, ◌-◌, suc, ◌*◌, zero, ◌/◌, arith, ℤ, pos}
use Rattle.meaning.proofs.Kit.{nat_abs, length, take, replicate, length-append, length-replicate, length-take-le, ne_eqb, le-leb, lt-ltb}
use Rattle.meaning.proofs.SoundRows.{Rising}
use Rattle.literals.specs.Literal.{literal_at}
use Rattle.literals.specs.Row.{width, most_literals, zeros, rising, row_sound, decode, encode, Ruled, numbered}
use Rattle.literals.proofs.Places.{place_of_literal, literal_abs, literal_nonzero, literal_symbol}
use Rattle.literals.proofs.Decoding.{decode_zero, decode_literal}

-- the first n numbers of a row's literals with m zeros after them
abbrev written : List ℕ → ℕ → ℕ → List ℤ
written row n m = take n (map literal_at row ++ replicate m (pos 0))

pub length_encode : (row : List ℕ) → length (encode row) ≡ most_literals
unfolding encode
length_encode row =
    length-take-le most_literals (map literal_at row ++ replicate most_literals (pos 0))
    (omega (arith, length-append (map literal_at row) (replicate most_literals (pos 0)), length-replicate most_literals (pos 0)))

-- with the number of its rule it has nine
pub length_numbered : (r : Ruled) → length (numbered r) ≡ width
length_numbered r = omega (arith, length-append (encode r.row) (pos r.rule ∷ []), length_encode r.row)

-- ---- what is written is read back

decode_written : (row : List ℕ) (n m : ℕ) → length row ≤ n → decode (written row n m) ≡ row
unfolding decode
decode_written [] zero m h = refl
decode_written [] (suc n) zero h = refl
decode_written [] (suc n) (suc m) h = decode_zero (pos 0) (take n (replicate m (pos 0))) refl
decode_written (p ∷ row) zero m h = absurd (omega arith)
decode_written (p ∷ row) (suc n) m h =
    let some : nat_abs (literal_at p) ≡ 0 → ⊥ = λ z. omega (arith, z, literal_nonzero p) in
    rw (decode_literal (literal_at p) (written row n m) some, place_of_literal p, decode_written row n m (omega arith))

pub decode_encode : (row : List ℕ) → length row ≤ most_literals → decode (encode row) ≡ row
unfolding encode
decode_encode row h = decode_written row most_literals most_literals h

-- ---- what is written is sound

zeros_written : (n m : ℕ) → zeros (take n (replicate m (pos 0))) ≡ true
unfolding zeros
zeros_written zero m = refl
zeros_written (suc n) zero = refl
zeros_written (suc n) (suc m) = zeros_written n m

rising_literal : (S last p : ℕ) (ls : List ℤ) → last < suc (p / 2) → p < 2 * S → rising S (suc (p / 2)) ls ≡ true
    → rising S last (literal_at p ∷ ls) ≡ true
unfolding rising
rising_literal S last p ls up within e =
    rw (literal_abs p, ne_eqb (suc (p / 2)) 0 (λ z. omega (arith, z)), lt-ltb last (suc (p / 2)) up, le-leb (suc (p / 2)) S (omega arith)) e

rising_zeros : (S last n m : ℕ) → rising S last (take n (replicate m (pos 0))) ≡ true
unfolding rising
rising_zeros S last zero m = refl
rising_zeros S last (suc n) zero = refl
rising_zeros S last (suc n) (suc m) = zeros_written n m

module _ (S m : ℕ) where
  rising_written : (last : ℕ) (row : List ℕ) (n : ℕ) → ((q : ℕ) → In q row → last < suc (q / 2)) → Rising row → ((q : ℕ) → In q row → q < 2 * S)
      → rising S last (written row n m) ≡ true
  unfolding rising
  rising_written last [] n up r b = rising_zeros S last n m
  rising_written last (p ∷ row) zero up r b = refl
  rising_written last (p ∷ row) (suc n) up r b =
      rising_literal S last p (written row n m) (up p (here refl)) (b p (here refl))
      (rising_written (suc (p / 2)) row n (λ q i. omega (arith, r.0 q i)) r.1 (λ q i. b q (there i)))

-- places of the symbols 1 to S, at least one, with rising symbol numbers
pub encode_sound : (S : ℕ) (row : List ℕ) → 1 ≤ length row → Rising row → ((q : ℕ) → In q row → q < 2 * S) → row_sound S (encode row) ≡ true
unfolding encode row_sound
encode_sound S [] some r b = absurd (omega arith)
encode_sound S (p ∷ row) some r b =
    let s = nat_abs (literal_at p) in
    rw (le-leb 1 s (literal_nonzero p), le-leb s S (literal_symbol S p (b p (here refl))))
    (rising_written S most_literals s row (most_literals - 1) (λ q i. omega (arith, literal_abs p, r.0 q i)) r.1 (λ q i. b q (there i)))
