-- Laws of the numbers of clauses: each clause over n symbols has one below 3 to the n, each such number one clause, and `clauses`
-- lists them in this order. So a table by number of a test has the test at each clause.
use Rattle.meaning.proofs.Kit.{◌≡◌, ◌∙◌, sym, ap, refl, true, false, Bool, List, [], ◌∷◌, ◌++◌, map, ◌≤◌, ℕ, ◌<◌, ◌-◌, ◌+◌, suc, ◌*◌, zero, ◌^◌}
use Rattle.meaning.proofs.Kit.{zero-add, one-le-pow, pow-succ', arith, ltb, length, get_or, replicate, length-append, length-map, length-replicate}
use Rattle.meaning.proofs.Kit.{list_get_or_append, ext_get_or, get_or-append-add, ltb-true, ltb-false}
use native.Mathlib.Nat.{pow-le-pow_right}
use Rattle.meaning.specs.Clauses.{Digit, denies, out, plus, minus, clauses}
use Rattle.implicates.specs.Numbers.{weigh, number, digit_at, clause_at}
use Rattle.implicates.specs.Hits.{marked}

pub clauses_some : (n : ℕ) → 0 < 3 ^ n
clauses_some n = one-le-pow n 3 (omega arith)

pub clauses_more : (m n : ℕ) → m ≤ n → 3 ^ m ≤ 3 ^ n
clauses_more m n h = pow-le-pow_right (omega arith) h

pub number_below : (v : List Digit) → number v < 3 ^ length v
number_below [] = omega arith
number_below (denies false ∷ v) = omega (arith, number_below v, pow-succ' 3 (length v))
number_below (denies true ∷ v) = omega (arith, number_below v, pow-succ' 3 (length v))
number_below (out ∷ v) = omega (arith, number_below v, pow-succ' 3 (length v))

-- the empty clause has the highest number
pub number_empty : (n : ℕ) → number (replicate n out) ≡ 3 ^ n - 1
number_empty zero = refl
number_empty (suc n) = omega (arith, number_empty n, ap (λ (x : ℕ). 3 ^ x) (length-replicate n out), clauses_some n, pow-succ' 3 n)

pub length_clause_at : (n c : ℕ) → length (clause_at n c) ≡ n
length_clause_at zero c = refl
length_clause_at (suc n) c = ap suc (length_clause_at n (c - weigh (digit_at c (3 ^ n)) (3 ^ n)))

-- the digit of a number below 3 * w: it weighs no more than the number, and less than w is left
data Split (c w : ℕ) : Type 0 where
  at : (d : Digit) → digit_at c w ≡ d → weigh d w ≤ c → c - weigh d w < w → Split c w

split : (c w : ℕ) → c < 3 * w → Split c w
split c w h = go (ltb c w) refl (ltb c (2 * w)) refl
  where
    go : (p : Bool) → ltb c w ≡ p → (q : Bool) → ltb c (2 * w) ≡ q → Split c w
    go true e q f = at plus (rw e) (omega arith) (omega (arith, ltb-true c w e))
    go false e true f = at minus (rw (e, f)) (omega (arith, ltb-false c w e)) (omega (arith, ltb-true c (2 * w) f))
    go false e false f = at out (rw (e, f)) (omega (arith, ltb-false c (2 * w) f)) (omega arith)

pub number_clause_at : (n c : ℕ) → c < 3 ^ n → number (clause_at n c) ≡ c
number_clause_at zero c h = omega arith
number_clause_at (suc n) c h = go (split c (3 ^ n) (rw (pow-succ' 3 n) at h)) (number_clause_at n)
  where
    go : Split c (3 ^ n) → ((r : ℕ) → r < 3 ^ n → number (clause_at n r) ≡ r) → number (clause_at (suc n) c) ≡ c
    go (at d e fits rest) ih = rw (e, length_clause_at n (c - weigh d (3 ^ n)), ih (c - weigh d (3 ^ n)) rest) (omega arith)

pub marked_at : (table : List Bool) (n c : ℕ) → c < 3 ^ n → marked table (clause_at n c) ≡ get_or table c false
marked_at table n c h = ap (λ (i : ℕ). get_or table i false) (number_clause_at n c h)

-- ---- the clauses in the order of their numbers

pub length_clauses : (n : ℕ) → length (clauses n) ≡ 3 ^ n
length_clauses zero = refl
length_clauses (suc n) = simp (length-append, length-map, length_clauses n) (omega (arith, pow-succ' 3 n))

module _ {A B : Type 0} where
  pub get_d_map_in : (f : A → B) (xs : List A) (i : ℕ) (d : B) (e : A) → i < length xs → get_or (map f xs) i d ≡ f (get_or xs i e)
  get_d_map_in f [] i d e h = absurd (omega arith)
  get_d_map_in f (x ∷ xs) zero d e h = refl
  get_d_map_in f (x ∷ xs) (suc i) d e h = get_d_map_in f xs i d e (omega arith)

get_d_second : (xs ys : List (List Digit)) (w r : ℕ) → length xs ≡ w → get_or (xs ++ ys) (w + r) [] ≡ get_or ys r []
get_d_second xs ys w r e = rw (← e) (get_or-append-add xs ys r [])

-- the clauses over one symbol more that have the digit d of it
block : Digit → ℕ → List (List Digit)
block d n = map (λ (u : List Digit). d ∷ u) (clauses n)

length_block : (d : Digit) (n : ℕ) → length (block d n) ≡ 3 ^ n
unfolding block
length_block d n = length-map (clauses n) (λ (u : List Digit). d ∷ u) ∙ length_clauses n

block_at : (d : Digit) (v : List Digit) → get_or (clauses (length v)) (number v) [] ≡ v → get_or (block d (length v)) (number v) [] ≡ d ∷ v
unfolding block
block_at d v e = get_d_map_in (λ (u : List Digit). d ∷ u) (clauses (length v)) (number v) [] [] (rw length_clauses (number_below v)) ∙ rw e

clauses_at_lem : (v : List Digit) → get_or (clauses (length v)) (number v) [] ≡ v
unfolding block
clauses_at_lem [] = refl
clauses_at_lem (denies false ∷ v) =
    let n = length v in
    rw zero-add
    (list_get_or_append (block plus n) (block minus n ++ block out n) [] (number v) (rw length_block (number_below v)) ∙ block_at plus v (clauses_at_lem v))
clauses_at_lem (denies true ∷ v) =
    let n = length v in
    get_d_second (block plus n) (block minus n ++ block out n) (3 ^ n) (number v) (length_block plus n)
    ∙ list_get_or_append (block minus n) (block out n) [] (number v) (rw length_block (number_below v))
    ∙ block_at minus v (clauses_at_lem v)
clauses_at_lem (out ∷ v) =
    let n = length v in
    let e : 2 * 3 ^ n + number v ≡ 3 ^ n + (3 ^ n + number v) = omega arith in
    rw e
    (get_d_second (block plus n) (block minus n ++ block out n) (3 ^ n) (3 ^ n + number v) (length_block plus n)
    ∙ get_d_second (block minus n) (block out n) (3 ^ n) (number v) (length_block minus n)
    ∙ block_at out v (clauses_at_lem v))

-- so the clause numbered c is the one at the place c
pub clause_at_lem : (n c : ℕ) → c < 3 ^ n → get_or (clauses n) c [] ≡ clause_at n c
clause_at_lem n c h =
    let e = clauses_at_lem (clause_at n c) in
    rw (length_clause_at n c, number_clause_at n c h) at e

-- ---- the table by number of a test

pub length_table : (test : List Digit → Bool) (n : ℕ) → length (map test (clauses n)) ≡ 3 ^ n
length_table test n = length-map (clauses n) test ∙ length_clauses n

table_at : (test : List Digit → Bool) (n c : ℕ) → c < 3 ^ n → get_or (map test (clauses n)) c false ≡ test (clause_at n c)
table_at test n c h = get_d_map_in test (clauses n) c false [] (rw length_clauses h) ∙ ap test (clause_at_lem n c h)

pub table_marks : (test : List Digit → Bool) (n : ℕ) (v : List Digit) → length v ≡ n → marked (map test (clauses n)) v ≡ test v
table_marks test n v l =
    rw (← l) (get_d_map_in test (clauses (length v)) (number v) false [] (rw length_clauses (number_below v)) ∙ ap test (clauses_at_lem v))

-- a list that has the test at each number is the table
pub table_filled : (test : List Digit → Bool) (n : ℕ) (l : List Bool) → length l ≡ 3 ^ n
    → ((c : ℕ) → c < 3 ^ n → get_or l c false ≡ test (clause_at n c)) → l ≡ map test (clauses n)
table_filled test n l e h =
    ext_get_or false l (map test (clauses n)) (e ∙ sym (length_table test n))
    (λ c b. let k : c < 3 ^ n = omega arith in h c k ∙ sym (table_at test n c k))
