-- The rows of a variable: that one of its positions at least is taken, and of each two positions that not both are.
use Rattle.meaning.proofs.Kit.{◌≡◌, ◌∙◌, sym, ap, refl, subst, ap₂, ⊎_elim, inl, inr, ◌⊎◌, true, false, List, [], ◌∷◌, map, In, ℕ, ◌<◌, ◌-◌, ◌+◌, suc}
use Rattle.meaning.proofs.Kit.{zero, arith, length, replicate, length-replicate}
use Rattle.meaning.specs.Tests.{from}
use Rattle.meaning.specs.Literals.{place}
use Rattle.meaning.specs.Formulae.{Rule, rule_of}
use Rattle.meaning.specs.Clauses.{Digit, out, plus, minus, prime, row_of, rows_of}
use Rattle.positions.specs.Positions.{Variable, on, off, symbols_in, exactly_one, positions, suits}
use Rattle.positions.specs.Promises.{VariableRows}
use Rattle.meaning.proofs.Primes.{prime_same}
use Rattle.meaning.proofs.Rows.{prime_row, row_prime}
use Rattle.positions.proofs.PositionRules.{one_true, variable_symbols, variable_count, variable_accepts}
use Rattle.positions.proofs.ExactlyOne.{Outs, Single, Double, prime_found, pluses_prime, double_prime}

-- ---- the rows of these clauses, the symbols from k on

outs_row : (ss : List ℕ) {v : List Digit} → Outs v → row_of ss v ≡ []
outs_row [] o = refl
outs_row (s ∷ ss) Outs.end = refl
outs_row (s ∷ ss) (Outs.more o) = outs_row ss o

pluses_row : (k j n : ℕ) → row_of (from (k + j) n) (replicate n plus) ≡ map (λ i. place (k + i) true) (from j n)
pluses_row k j zero = refl
pluses_row k j (suc n) =
    let next : suc (k + j) ≡ k + suc j = omega arith in
    ap (λ (row : List ℕ). place (k + j) true ∷ row) (ap (λ (s : ℕ). row_of (from s n) (replicate n plus)) next ∙ pluses_row k (suc j) n)

-- the row of − literals at these positions
abbrev minuses : ℕ → List ℕ → List ℕ
minuses k is = map (λ i. place (k + i) false) is

minuses_on : (k : ℕ) (is : List ℕ) → minuses (suc k) is ≡ minuses k (map suc is)
minuses_on k [] = refl
minuses_on k (i ∷ is) = let next : suc k + i ≡ k + suc i = omega arith in ap₂ (λ (s : ℕ) (row : List ℕ). place s false ∷ row) next (minuses_on k is)

first_minus : (k : ℕ) {row : List ℕ} (is : List ℕ) → row ≡ minuses (suc k) is → place k false ∷ row ≡ minuses k (zero ∷ map suc is)
first_minus k is e = let start : k ≡ k + 0 = omega arith in ap₂ (λ (s : ℕ) (r : List ℕ). place s false ∷ r) start (e ∙ minuses_on k is)

single_row : (k n : ℕ) {v : List Digit} → Single v → length v ≡ n → (i : ℕ) × (i < n) × (row_of (from k n) v ≡ minuses k (i ∷ []))
single_row k zero (Single.single o) e = absurd (omega arith)
single_row k zero (Single.more o) e = absurd (omega arith)
single_row k (suc n) (Single.single o) e = (0, omega arith, first_minus k [] (outs_row (from (suc k) n) o))
single_row k (suc n) (Single.more o) e =
    let r = single_row (suc k) n o (omega arith) in (suc r.0, omega (arith, r.1), r.2 ∙ minuses_on k (r.0 ∷ []))

double_row : (k n : ℕ) {v : List Digit} → Double v → length v ≡ n
    → (i : ℕ) × (j : ℕ) × (i < j) × (j < n) × (row_of (from k n) v ≡ minuses k (i ∷ j ∷ []))
double_row k zero (Double.double o) e = absurd (omega arith)
double_row k zero (Double.more o) e = absurd (omega arith)
double_row k (suc n) (Double.double o) e =
    let r = single_row (suc k) n o (omega arith) in (0, suc r.0, omega arith, omega (arith, r.1), first_minus k (r.0 ∷ []) r.2)
double_row k (suc n) (Double.more o) e =
    let r = double_row (suc k) n o (omega arith) in
    (suc r.0, suc r.1, omega (arith, r.2), omega (arith, r.3), r.4 ∙ minuses_on k (r.0 ∷ r.1 ∷ []))

-- and each such row is there
outs_all : (n : ℕ) → Outs (replicate n out)
outs_all zero = Outs.end
outs_all (suc n) = Outs.more (outs_all n)

single_at : (k n i : ℕ) → i < n → (v : List Digit) × Single v × (length v ≡ n) × (row_of (from k n) v ≡ minuses k (i ∷ []))
single_at k zero i l = absurd (omega arith)
single_at k (suc n) zero l =
    let o = outs_all n in
    (minus ∷ replicate n out, Single.single o, ap suc (length-replicate n out), first_minus k [] (outs_row (from (suc k) n) o))
single_at k (suc n) (suc i) l =
    let r = single_at (suc k) n i (omega arith) in (out ∷ r.0, Single.more r.1, ap suc r.2, r.3 ∙ minuses_on k (i ∷ []))

double_at : (k n i j : ℕ) → i < j → j < n → (v : List Digit) × Double v × (length v ≡ n) × (row_of (from k n) v ≡ minuses k (i ∷ j ∷ []))
double_at k zero i j l b = absurd (omega arith)
double_at k (suc n) i zero l b = absurd (omega arith)
double_at k (suc n) zero (suc j) l b =
    let r = single_at (suc k) n j (omega arith) in (minus ∷ r.0, Double.double r.1, ap suc r.2, first_minus k (j ∷ []) r.3)
double_at k (suc n) (suc i) (suc j) l b =
    let r = double_at (suc k) n i j (omega arith) (omega arith) in
    (out ∷ r.0, Double.more r.1, ap suc r.2, r.3 ∙ minuses_on k (i ∷ j ∷ []))

-- ---- so these are the rows of a variable

module _ (S : ℕ) (x : Variable) (ok : suits S (positions x) ≡ true) where
  abbrev rule : Rule
  rule = rule_of S (exactly_one x.first (x.count - 1))

  row_is : (v : List Digit) → row_of rule.symbols v ≡ row_of (symbols_in x) v
  row_is v = ap (λ (ss : List ℕ). row_of ss v) (variable_symbols S x ok)

  prime_is : (v : List Digit) → length v ≡ x.count → prime rule.accepts v ≡ prime one_true v
  prime_is v l = prime_same rule.accepts one_true v (λ a e. variable_accepts S x ok a (e ∙ l))

  pluses_is : row_of (symbols_in x) (replicate x.count plus) ≡ map (on x) (from 0 x.count)
  pluses_is =
      let start : x.first ≡ x.first + 0 = omega arith in
      ap (λ (s : ℕ). row_of (from s x.count) (replicate x.count plus)) start ∙ pluses_row x.first 0 x.count

  there_is : (v : List Digit) → length v ≡ x.count → prime one_true v ≡ true → In (row_of (symbols_in x) v) (rows_of rule)
  there_is v l p = subst (λ (row : List ℕ). In row (rows_of rule)) (row_is v) (prime_row rule v (l ∙ sym (variable_count S x ok)) (prime_is v l ∙ p))

pub variable_rows : VariableRows
variable_rows S x row ok = (to, back)
  where
    n : ℕ
    n = x.count

    Not_both : Type 0
    Not_both = (i : ℕ) × (j : ℕ) × (i < j) × (j < x.count) × (row ≡ off x i ∷ off x j ∷ [])

    to : In row (rows_of (rule_of S (exactly_one x.first (x.count - 1)))) → (row ≡ map (on x) (from 0 x.count)) ⊎ Not_both
    to m =
        let r = row_prime (rule S x ok) row m in
        let l : length r.0 ≡ n = r.1 ∙ variable_count S x ok in
        let e : row ≡ row_of (symbols_in x) r.0 = sym r.3 ∙ row_is S x ok r.0 in
        ⊎_elim (λ q. inl (e ∙ ap (row_of (symbols_in x)) (q ∙ ap (λ (m : ℕ). replicate m plus) l) ∙ pluses_is S x ok))
        (λ d. let w = double_row x.first n d l in inr (w.0, w.1, w.2, w.3, e ∙ w.4))
        (prime_found r.0 (sym (prime_is S x ok r.0 l) ∙ r.2))

    back : (row ≡ map (on x) (from 0 x.count)) ⊎ Not_both → In row (rows_of (rule_of S (exactly_one x.first (x.count - 1))))
    back (inl e) = rw (e ∙ sym (pluses_is S x ok)) (there_is S x ok (replicate n plus) (length-replicate n plus) (pluses_prime n))
    back (inr w) =
        let d = double_at x.first n w.0 w.1 w.2 w.3 in
        rw (w.4 ∙ sym d.3) (there_is S x ok d.0 d.2 (double_prime d.1))
