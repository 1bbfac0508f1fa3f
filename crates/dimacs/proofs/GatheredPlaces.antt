-- The places gathered of a clause are places of its literals; and a clause is found always true just where it has a literal and its opposite.
use Rattle.meaning.proofs.Kit.{◌≡◌, refl, ⊎_elim, true, false, Bool, false≢true, List, [], ◌∷◌, ◌++◌, map, In, here, there, in_nil, in_cons}
use Rattle.meaning.proofs.Kit.{in_of_map, in_append_left, in_append_right, in_append, ℕ, ℤ}
use Rattle.meaning.specs.Tests.{member}
use Rattle.meaning.specs.Literals.{opp}
use Rattle.meaning.proofs.Tests.{any_at, any_found, both_false, clash, in_member, member_in, one_true_lem, same_test}
use Rattle.meaning.proofs.Literals.{opp_opp}
use Rattle.meaning.proofs.SoundRows.{Rising}
use Rattle.literals.specs.Literal.{place_of}
use Rattle.dimacs.specs.Gathering.{always_true, clashes, gathered, inserted}
use Rattle.dimacs.specs.Promises.{has_opposite}
use Rattle.dimacs.proofs.InsertedPlaces.{clash_in_lem, in_clash, in_inserted, inserted_in, inserted_rising, opp_other}
use Rattle.dimacs.proofs.Tested.{by_test}

-- ---- all places of a clause, behind those of a row

-- once a literal more is put in, the same places are there
one_more : (p : ℕ) (row places : List ℕ) (x : ℕ) → In x (inserted p row ++ places) → In x (row ++ p ∷ places)
one_more p row places x m =
    ⊎_elim (λ i. ⊎_elim (λ e. in_append_right row (here e)) (λ n. in_append_left (p ∷ places) n) (in_cons (inserted_in p row x i)))
    (λ n. in_append_right row (there n)) (in_append (inserted p row) m)

more_in : (row : List ℕ) (ls : List ℤ) (x : ℕ) → In x (gathered row ls) → In x (row ++ map place_of ls)
unfolding gathered
more_in row [] x m = in_append_left [] m
more_in row (l ∷ ls) x m = one_more (place_of l) row (map place_of ls) x (more_in (inserted (place_of l) row) ls x m)

pub gathered_in : (c : List ℤ) (x : ℕ) → In x (gathered [] c) → In x (map place_of c)
gathered_in c x m = more_in [] c x m

always_in : (row : List ℕ) (ls : List ℤ) → always_true row ls ≡ true → (l : ℤ) × In l ls × In (opp (place_of l)) (row ++ map place_of ls)
unfolding always_true
always_in row [] e = absurd (false≢true e)
always_in row (l ∷ ls) e =
    let p = place_of l in
    ⊎_elim (λ c. (l, here refl, in_append_left (map place_of (l ∷ ls)) (clash_in_lem p row c)))
    (λ a.
    let r = always_in (inserted p row) ls a in
    (r.0, there r.1, one_more p row (map place_of ls) (opp (place_of r.0)) r.2))
    (one_true_lem (clashes p row) (always_true (inserted p row) ls) e)

-- no literal of these has its opposite among the places
abbrev Free : List ℕ → List ℤ → Type 0
Free places ls = (l : ℤ) → In l ls → In (opp (place_of l)) places → ⊥

-- a first literal that does not clash with the row, where the others are free of what is there with it
free_more : (row : List ℕ) (l : ℤ) (ls : List ℤ) → Rising row → clashes (place_of l) row ≡ false → Free (inserted (place_of l) row ++ map place_of ls) ls
    → Free (row ++ place_of l ∷ map place_of ls) (l ∷ ls)
free_more row l ls rise c free m i j = ⊎_elim first others (in_cons i)
  where
    p : ℕ
    p = place_of l

    put : (x : ℕ) → In x (p ∷ row) → In x (inserted p row ++ map place_of ls)
    put x k = in_append_left (map place_of ls) (in_inserted p row x c k)

    first : m ≡ l → ⊥
    first e = ⊎_elim (λ n. clash (in_clash p row rise n) c) (λ n. ⊎_elim (opp_other p) later (in_cons n)) (in_append row (rw e at j))
      where
        later : In (opp p) (map place_of ls) → ⊥
        later n =
            let r = in_of_map place_of ls n in
            free r.0 r.1 (rw (r.2, opp_opp p) (put p (here refl)))

    others : In m ls → ⊥
    others n =
        let o = opp (place_of m) in
        free m n
        (⊎_elim (λ k. put o (there k)) (λ k. ⊎_elim (λ e. put o (here e)) (λ h. in_append_right (inserted p row) h) (in_cons k)) (in_append row j))

always_free : (row : List ℕ) (ls : List ℤ) → Rising row → always_true row ls ≡ false → Free (row ++ map place_of ls) ls
unfolding always_true
always_free row [] rise e = λ l i j. in_nil i
always_free row (l ∷ ls) rise e =
    let p = place_of l in
    let n = both_false (clashes p row) (always_true (inserted p row) ls) e in
    free_more row l ls rise n.0 (always_free (inserted p row) ls (inserted_rising p row rise) n.1)

-- a clause is found always true just where it has a literal and its opposite
pub always_opposite : (c : List ℤ) → always_true [] c ≡ has_opposite c
always_opposite c = same_test (always_true [] c) (has_opposite c) to back
  where
    test : ℤ → Bool
    test l = member (opp (place_of l)) (map place_of c)

    to : always_true [] c ≡ true → has_opposite c ≡ true
    to e = let r = always_in [] c e in any_at test r.1 (in_member r.2)

    back : has_opposite c ≡ true → always_true [] c ≡ true
    back h =
        let r = any_found test c h in
        let there = member_in (opp (place_of r.0)) (map place_of c) r.2 in
        by_test (always_true [] c) (λ e. e) (λ e. absurd (always_free [] c tt e r.0 r.1 there))
