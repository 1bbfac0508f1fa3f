-- The definitions at some numbers: each computes.
use Rattle.meaning.proofs.Kit.{◌≡◌, refl, true, false, List, [], ◌∷◌, ◌++◌, ℤ, pos, negsuc, take}
use Rattle.literals.specs.Literal.{in_range, place_of, literal_at}
use Rattle.literals.specs.Row.{rows_lent, numbers_at, rule_at, rule_before, zeros, rising, row_sound, rule_sound, rows_sound, decode, encode, ruled_in}
use Rattle.literals.specs.Row.{of_rule, numbered}

-- +3 stands at place 4 and −3 at place 5
three : (place_of (pos 3) ≡ 4) × (place_of (negsuc 2) ≡ 5)
unfolding place_of
three = (refl, refl)

-- −32768 is no literal of 200 symbols
least : in_range 200 (negsuc 32767) ≡ false
least = refl

-- −2 −3 4
row : List ℤ
row = negsuc 1 ∷ negsuc 2 ∷ pos 4 ∷ pos 0 ∷ pos 0 ∷ pos 0 ∷ pos 0 ∷ pos 0 ∷ []

row_is_sound : row_sound 4 row ≡ true
unfolding row row_sound rising zeros
row_is_sound = refl

-- symbol 4 is beyond 3
row_is_not : row_sound 3 row ≡ false
unfolding row row_sound rising zeros
row_is_not = refl

row_places : decode row ≡ 3 ∷ 5 ∷ 6 ∷ []
unfolding row decode place_of
row_places = refl

row_written : encode (3 ∷ 5 ∷ 6 ∷ []) ≡ row
unfolding row encode literal_at
row_written = refl

-- a row of zeros is not sound, nor is one with a literal after a zero, a symbol twice, or −32768
rows_not : (row_sound 200 (pos 0 ∷ pos 0 ∷ pos 0 ∷ pos 0 ∷ pos 0 ∷ pos 0 ∷ pos 0 ∷ pos 0 ∷ []) ≡ false)
    × (row_sound 200 (pos 1 ∷ pos 0 ∷ pos 2 ∷ pos 0 ∷ pos 0 ∷ pos 0 ∷ pos 0 ∷ pos 0 ∷ []) ≡ false)
    × (row_sound 200 (pos 1 ∷ negsuc 0 ∷ pos 0 ∷ pos 0 ∷ pos 0 ∷ pos 0 ∷ pos 0 ∷ pos 0 ∷ []) ≡ false)
    × (row_sound 200 (negsuc 32767 ∷ pos 0 ∷ pos 0 ∷ pos 0 ∷ pos 0 ∷ pos 0 ∷ pos 0 ∷ pos 0 ∷ []) ≡ false)
unfolding row_sound rising zeros
rows_not = (refl, refl, refl, refl)

-- ---- rows of nine numbers: of rules 1 and 3 of three, since rule 2 has no rows

two_rows : (first second : ℤ) → List ℤ
two_rows first second =
    pos 1 ∷ pos 2 ∷ pos 0 ∷ pos 0 ∷ pos 0 ∷ pos 0 ∷ pos 0 ∷ pos 0 ∷ first
    ∷ negsuc 1 ∷ pos 0 ∷ pos 0 ∷ pos 0 ∷ pos 0 ∷ pos 0 ∷ pos 0 ∷ pos 0 ∷ second ∷ []

two_rows_sound : rows_sound 2 3 2 (two_rows (pos 1) (pos 3)) ≡ true
unfolding two_rows rows_sound numbers_at row_sound rising zeros rule_sound rule_at rule_before
two_rows_sound = refl

two_rows_read : ruled_in 2 (two_rows (pos 1) (pos 3)) ≡ of_rule 1 ((0 ∷ 2 ∷ []) ∷ []) ++ of_rule 3 ((3 ∷ []) ∷ [])
unfolding two_rows ruled_in numbers_at decode place_of rule_at
two_rows_read = refl

two_rows_written : numbered (record { rule = 1; row = 0 ∷ 2 ∷ [] }) ++ numbered (record { rule = 3; row = 3 ∷ [] }) ≡ two_rows (pos 1) (pos 3)
unfolding two_rows encode literal_at
two_rows_written = refl

-- a falling rule number is not sound, nor is 0, one beyond the count, or one below 0
numbers_not : (rows_sound 2 3 2 (two_rows (pos 3) (pos 2)) ≡ false) × (rows_sound 2 3 2 (two_rows (pos 0) (pos 3)) ≡ false)
    × (rows_sound 2 3 2 (two_rows (pos 1) (pos 4)) ≡ false) × (rows_sound 2 3 2 (two_rows (negsuc 0) (pos 3)) ≡ false)
unfolding two_rows rows_sound numbers_at row_sound rising zeros rule_sound rule_at rule_before
numbers_not = (refl, refl, refl, refl)

-- eighteen numbers lend two rows, seventeen one
lent : (rows_lent (two_rows (pos 1) (pos 3)) ≡ 2) × (rows_lent (take 17 (two_rows (pos 1) (pos 3))) ≡ 1)
unfolding two_rows
lent = (refl, refl)
