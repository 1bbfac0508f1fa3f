-- The literals of a row: what they have to do with the clause's symbols and with assignments; and the rows of several rules.
use Rattle.meaning.proofs.Kit.{◌≡◌, ◌∙◌, sym, ap, refl, ⊎_elim, true, false, Bool, ◌&&◌, not, true≢false, List, [], ◌∷◌, ◌++◌, In, here}
use Rattle.meaning.proofs.Kit.{there, append_assoc, in_nil, in_cons, in_of_map, in_map, in_append_left, in_append_right, ℕ, arith}
use Rattle.meaning.proofs.Kit.{length, subst}
use mathlib.Core.List.Memᴰ
use Rattle.meaning.specs.Literals.{place}
use Rattle.meaning.specs.Formulae.{Rule}
use Rattle.meaning.specs.Clauses.{Digit, denies, out, fails, falsifies, prime, primes_in_order, row_of, rows_of, all_rows}
use Rattle.meaning.specs.SecondWay.{says}
use Rattle.meaning.proofs.Clauses.{Leaves, done, kept, left}
use Rattle.meaning.proofs.Order.{all_primes}

-- each literal of a row is of one of the symbols
pub row_symbol : (symbols : List ℕ) (v : List Digit) (q : ℕ) → In q (row_of symbols v) → (s : ℕ) × (b : Bool) × In s symbols × (q ≡ place s b)
row_symbol [] v q m = absurd (in_nil m)
row_symbol (s ∷ symbols) [] q m = absurd (in_nil m)
row_symbol (s ∷ symbols) (denies x ∷ v) q m =
    ⊎_elim (λ e. (s, not x, here refl, e)) (λ n. let r = row_symbol symbols v q n in (r.0, r.1, there r.2, r.3)) (in_cons m)
row_symbol (s ∷ symbols) (out ∷ v) q m = let r = row_symbol symbols v q m in (r.0, r.1, there r.2, r.3)

-- a clause that an assignment does not make false has a literal that the assignment says
pub true_literal : (symbols : List ℕ) (v : List Digit) (a : List Bool) → length v ≡ length symbols → length a ≡ length v → falsifies v a ≡ false
    → (q : ℕ) × In q (row_of symbols v) × In q (says symbols a)
true_literal [] [] a e l f = absurd (true≢false f)
true_literal [] (d ∷ v) a e l f = absurd (omega arith)
true_literal (s ∷ symbols) [] a e l f = absurd (true≢false f)
true_literal (s ∷ symbols) (d ∷ v) [] e l f = absurd (omega arith)
true_literal (s ∷ symbols) (d ∷ v) (b ∷ a) e l f = go d b f (λ g. true_literal symbols v a (omega arith) (omega arith) g)
  where
    go : (d : Digit) (b : Bool) → fails d b && falsifies v a ≡ false
        → (falsifies v a ≡ false → (q : ℕ) × In q (row_of symbols v) × In q (says symbols a))
        → (q : ℕ) × In q (row_of (s ∷ symbols) (d ∷ v)) × In q (place s b ∷ says symbols a)
    go (denies false) true g ih = (place s true, here refl, here refl)
    go (denies false) false g ih = let r = ih g in (r.0, there r.1, there r.2)
    go (denies true) true g ih = let r = ih g in (r.0, there r.1, there r.2)
    go (denies true) false g ih = (place s false, here refl, here refl)
    go out b g ih = let r = ih g in (r.0, r.1, there r.2)

in_longer : {x q : ℕ} {l k : List ℕ} → (In q l → In q k) → In q (x ∷ l) → In q (x ∷ k)
in_longer f (here e) = here e
in_longer f (there m) = there (f m)

-- a clause with literals left out has no new literal
pub row_leaves : (symbols : List ℕ) {u v : List Digit} → Leaves u v → (q : ℕ) → In q (row_of symbols u) → In q (row_of symbols v)
row_leaves [] l q m = absurd (in_nil m)
row_leaves (s ∷ symbols) done q m = m
row_leaves (s ∷ symbols) (kept {d = denies x} l) q m = in_longer (λ n. row_leaves symbols l q n) m
row_leaves (s ∷ symbols) (kept {d = out} l) q m = row_leaves symbols l q m
row_leaves (s ∷ symbols) (left {d = denies x} l) q m = there (row_leaves symbols l q m)
row_leaves (s ∷ symbols) (left {d = out} l) q m = row_leaves symbols l q m

-- ---- the rows of a rule are those of its prime implicates

pub prime_row : (rule : Rule) (v : List Digit) → length v ≡ length rule.symbols → prime rule.accepts v ≡ true
    → In (row_of rule.symbols v) (rows_of rule)
prime_row rule v e p = in_map (row_of rule.symbols) ((all_primes rule.accepts (length rule.symbols) v).1 (e, p))

pub row_prime : (rule : Rule) (row : List ℕ) → In row (rows_of rule)
    → (v : List Digit) × (length v ≡ length rule.symbols) × (prime rule.accepts v ≡ true) × (row_of rule.symbols v ≡ row)
row_prime rule row m =
    let r = in_of_map (row_of rule.symbols) (primes_in_order rule.accepts (length rule.symbols)) m in
    let k = (all_primes rule.accepts (length rule.symbols) r.0).0 r.1 in
    (r.0, k.0, k.1, r.2)

-- ---- the rows of several rules are those of each

pub in_all_rows : (rules : List Rule) {rule : Rule} {row : List ℕ} → In rule rules → In row (rows_of rule) → In row (all_rows rules)
in_all_rows [] m k = absurd (in_nil m)
in_all_rows (r ∷ rules) {row = row} m k =
    ⊎_elim (λ e. in_append_left (all_rows rules) (subst (λ (other : Rule). In row (rows_of other)) e k)) (λ n. in_append_right (rows_of r) (in_all_rows rules n k)) (in_cons m)

pub all_rows_in : (rules : List Rule) (row : List ℕ) → In row (all_rows rules) → (rule : Rule) × In rule rules × In row (rows_of rule)
all_rows_in [] row m = absurd (in_nil m)
all_rows_in (r ∷ rules) row m =
    ⊎_elim (λ n. (r, here refl, n)) (λ n. let k = all_rows_in rules row n in (k.0, there k.1, k.2)) (Memᴰ.append_cases (rows_of r) m)

pub all_rows_append : (rules more : List Rule) → all_rows (rules ++ more) ≡ all_rows rules ++ all_rows more
all_rows_append [] more = refl
all_rows_append (r ∷ rules) more =
    ap (λ (rows : List (List ℕ)). rows_of r ++ rows) (all_rows_append rules more) ∙ sym (append_assoc (rows_of r) (all_rows rules) (all_rows more))
