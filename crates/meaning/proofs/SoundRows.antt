-- The rows of a satisfiable rule are sound: one literal or more, at most one for each symbol, each of a symbol of the rule, and their
-- symbol numbers strictly rise.
use Rattle.meaning.proofs.Kit.{◌≡◌, subst, true, false, Bool, not, List, [], ◌∷◌, In, here, there, ◌≤◌, ℕ, ◌<◌, ◌-◌, ◌*◌, ◌/◌, zero-le, arith}
use Rattle.meaning.proofs.Kit.{length}
use Prim.Native.Nat.{suc-le-suc}
use Rattle.meaning.specs.Literals.{place}
use Rattle.meaning.specs.Formulae.{Formula, symbols_of, rule_of}
use Rattle.meaning.specs.Clauses.{Digit, denies, out, prime, row_of, rows_of, satisfiable}
use Rattle.meaning.proofs.Literals.{place_below}
use Rattle.meaning.proofs.Formulae.{Ascending, ascending_above, symbols_ascend, symbol_bounds}
use Rattle.meaning.proofs.Clauses.{size_le, length_row_of}
use Rattle.meaning.proofs.Rows.{row_symbol, row_prime}
use Rattle.meaning.proofs.TwoWays.{prime_literal}

-- the symbol numbers of places strictly rise: the symbol of place p has the number p / 2 + 1
abbrev pub Rising : List ℕ → Type 0
Rising [] = Unit {0}
Rising (p ∷ row) = ((q : ℕ) → In q row → p / 2 < q / 2) × Rising row

-- a row of the symbols 1 to S with at most n literals
pub record SoundRow (S n : ℕ) (row : List ℕ) : Type 0 where
  pub some : 1 ≤ length row
  pub most : length row ≤ n
  pub below : (q : ℕ) → In q row → q < 2 * S
  pub rising : Rising row

place_half : (s : ℕ) (b : Bool) → place s b / 2 ≡ s - 1
place_half s true = omega arith
place_half s false = omega arith

row_rising : (m : ℕ) (symbols : List ℕ) (v : List Digit) → Ascending m symbols → Rising (row_of symbols v)
row_rising m [] v r = tt
row_rising m (s ∷ symbols) [] r = tt
row_rising m (s ∷ symbols) (denies x ∷ v) r = (later, row_rising s symbols v r.1)
  where
    later : (q : ℕ) → In q (row_of symbols v) → place s (not x) / 2 < q / 2
    later q i =
        let t = row_symbol symbols v q i in
        rw (t.3, place_half s (not x), place_half t.0 t.1) (omega (arith, r.0, ascending_above s symbols t.0 r.1 t.2))
row_rising m (s ∷ symbols) (out ∷ v) r = row_rising s symbols v r.1

pub in_some : {q : ℕ} {l : List ℕ} → In q l → 1 ≤ length l
in_some (here e) = suc-le-suc zero-le
in_some (there m) = suc-le-suc zero-le

pub rows_sound_lem : (S : ℕ) (f : Formula) (row : List ℕ) → satisfiable (rule_of S f) ≡ true → In row (rows_of (rule_of S f))
    → SoundRow S (length (symbols_of S f)) row
rows_sound_lem S f row sat m =
    let r = row_prime (rule_of S f) row m in subst (SoundRow S (length (symbols_of S f))) r.3 (sound r.0 r.1 r.2)
  where
    sound : (v : List Digit) → length v ≡ length (symbols_of S f) → prime (rule_of S f).accepts v ≡ true
        → SoundRow S (length (symbols_of S f)) (row_of (symbols_of S f) v)
    sound v e k =
        record {
          some = in_some (prime_literal (rule_of S f) v sat e k).1;
          most = omega (arith, e, length_row_of (symbols_of S f) v (omega arith), size_le v);
          below =
              λ q i.
              let t = row_symbol (symbols_of S f) v q i in
              let b = symbol_bounds S f t.2 in
              rw t.3 (place_below S t.0 t.1 b.0 b.1);
          rising = row_rising 0 (symbols_of S f) v (symbols_ascend S f);
        }
