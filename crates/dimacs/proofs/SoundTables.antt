-- The rows of a sound table are clauses of the symbols 1 to S, and these are what its text says.
use Rattle.meaning.proofs.Kit.{◌≡◌, refl, true, ◌&&◌, List, [], ◌∷◌, ℕ, arith, eqb, leb, ltb, ℤ, nat_abs, le-leb, eqb-false}
use Rattle.meaning.specs.Tests.{all}
use Rattle.meaning.proofs.Tests.{all_of, both_true}
use Rattle.meaning.proofs.Tables.{tabulate_in}
use Rattle.literals.specs.Literal.{in_range}
use Rattle.literals.specs.Row.{Sound, numbers_at, rising, row_sound}
use Rattle.literals.proofs.Decoding.{sound_rising}
use Rattle.dimacs.specs.Form.{good, parse_text}
use Rattle.dimacs.specs.Writing.{clause_at, clauses_at, literals_of, text_of}
use Rattle.dimacs.proofs.RoundTrip.{reads_back}
use Rattle.dimacs.proofs.TextLines.{count_clauses}
use Rattle.dimacs.proofs.Tested.{by_test}

-- ---- a row

rising_range : (S last : ℕ) (ls : List ℤ) → rising S last ls ≡ true → all (in_range S) (literals_of ls) ≡ true
unfolding rising literals_of
rising_range S last [] e = refl
rising_range S last (l ∷ ls) e =
    by_test (eqb (nat_abs l) 0) (λ z. rw z)
    (λ z.
    let t = both_true (ltb last (nat_abs l) && leb (nat_abs l) S) (rising S (nat_abs l) ls) (rw z at e) in
    let high = (both_true (ltb last (nat_abs l)) (leb (nat_abs l) S) t.0).1 in
    rw (z, le-leb 1 (nat_abs l) (omega (arith, eqb-false (nat_abs l) 0 z)), high) (rising_range S (nat_abs l) ls t.1))

pub sound_range : (S : ℕ) (row : List ℤ) → row_sound S row ≡ true → all (in_range S) (literals_of row) ≡ true
sound_range S row e = rising_range S 0 row (sound_rising S row e)

-- ---- the table

pub table_back : (S used : ℕ) (t : List ℤ) → Sound S used t → parse_text (text_of S (clauses_at used t)) ≡ good S (clauses_at used t)
unfolding clauses_at
table_back S used t s =
    reads_back S (clauses_at used t) (omega (arith, s.symbols)) (omega (arith, s.rows, count_clauses t used))
    (all_of (all (in_range S)) (clauses_at used t)
    (λ c m. let r = tabulate_in used (clause_at t) m in rw r.2 (sound_range S (numbers_at t r.0) (s.sound r.0 r.1))))
