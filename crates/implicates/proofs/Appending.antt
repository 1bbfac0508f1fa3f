-- Laws of rows appended to the table: what is appended later joins it, and the table keeps its length.
use Rattle.meaning.proofs.Kit.{◌≡◌, ◌∙◌, sym, refl, List, [], ◌∷◌, ◌++◌, append-nil, append_assoc, ◌≤◌, ℕ, ◌-◌, ◌+◌, suc, ◌*◌, add-zero, arith, ℤ}
use Rattle.meaning.proofs.Kit.{pos, length, drop, take, set, length-append, length-drop, length-take, take-append-drop, drop-cons, take_at, drop-drop}
use Rattle.meaning.proofs.Kit.{drop_at, set_at}
use borrow.Rule.Slice.PartMut.{put_mid, Post-is}
use Rattle.literals.specs.Row.{width, most_literals, encode, Ruled, numbered}
use Rattle.literals.proofs.Encoding.{length_encode, length_numbered}
use Rattle.implicates.specs.Appending.{encode_all, written, appended}

-- ---- numbers written into a table

-- what is written after it joins it
written_more : (t : List ℤ) (at : ℕ) (xs ys : List ℤ) → at + length xs ≤ length t
    → written (written t at xs) (at + length xs) ys ≡ written t at (xs ++ ys)
written_more t at xs ys h =
    let n = at + length xs in
    let p = take at t ++ xs in
    let front : length p ≡ n = simp (length-append, length-take) (omega arith) in
    let same : at + length (xs ++ ys) ≡ n + length ys = simp length-append (omega arith) in
    rw (same, ← append_assoc (take at t) xs (drop n t), take_at p (drop n t) n front)
    (rw (← drop-drop (length ys) n, drop_at p (drop n t) n front, drop-drop) (simp append_assoc))

-- ---- rows

encode_all_append : (us vs : List Ruled) → encode_all (us ++ vs) ≡ encode_all us ++ encode_all vs
encode_all_append [] vs = refl
encode_all_append (u ∷ us) vs = rw (encode_all_append us vs) (sym (append_assoc (numbered u) (encode_all us) (encode_all vs)))

pub length_encode_all : (rows : List Ruled) → length (encode_all rows) ≡ width * length rows
length_encode_all [] = refl
length_encode_all (row ∷ rows) = length-append (numbered row) (encode_all rows) ∙ omega (arith, length_numbered row, length_encode_all rows)

-- no rows leave the table as it is
pub appended_none : (t : List ℤ) (at : ℕ) → appended t at [] ≡ t
unfolding appended
appended_none t at = rw add-zero (take-append-drop (width * at) t)

-- rows that fit keep the table's length
pub length_appended : (t : List ℤ) (at : ℕ) (rows : List Ruled) → width * (at + length rows) ≤ length t → length (appended t at rows) ≡ length t
unfolding appended
length_appended t at rows h = simp (length-append, length-take, length-drop) (omega (arith, length_encode_all rows))

-- rows appended after rows
pub appended_more : (t : List ℤ) (at : ℕ) (us vs : List Ruled) → width * (at + length us) ≤ length t
    → appended (appended t at us) (at + length us) vs ≡ appended t at (us ++ vs)
unfolding appended
appended_more t at us vs h =
    let e : width * (at + length us) ≡ width * at + length (encode_all us) = omega (arith, length_encode_all us) in
    rw (e, encode_all_append) (written_more t (width * at) (encode_all us) (encode_all vs) (omega arith))

-- one row, put where it belongs: its eight places, and then its rule's number
pub appended_one : (t : List ℤ) (at rule : ℕ) (row : List ℕ) → width * (at + 1) ≤ length t
    → set (put_mid (width * at) (width * at + most_literals - width * at) t (encode row)) (width * at + most_literals) (pos rule)
    ≡ appended t at (record { rule = rule; row = row } ∷ [])
unfolding appended
appended_one t at rule row h =
    let a = width * at in
    let e = a + most_literals in
    let front : length (take a t ++ encode row) ≡ e = simp (length-append, length-take) (omega (arith, length_encode row)) in
    let rest = Post-is a e t (omega arith) ∙ drop-cons t e (pos 0) (omega arith) in
    let next : a + width ≡ suc e = omega arith in
    rw (rest, ← append_assoc (take a t), set_at (take a t ++ encode row) _ _ (pos rule) e front, append-nil, length_numbered, next)
    (simp append_assoc)
