-- 01, "From a rule to rows". A rule over n symbols is told by which assignments satisfy it, `sat`.
use Rattle.std.specs.Prelude.{Bool, true, false, not, ◌&&◌, List, [], ◌∷◌, ◌++◌, map, ℕ, zero, suc, ◌<◌, length}
use Rattle.std.specs.Bool.{beq}
use Rattle.meaning.specs.Tests.{any, all}
use Rattle.meaning.specs.BySize.{below_size, BySize, EachBefore}
use Rattle.meaning.specs.Literals.{place}
use Rattle.meaning.specs.Formulae.{Rule}

-- all assignments to n symbols. In this order an assignment's number has one bit a symbol, the first symbol's the highest.
abbrev pub assignments : ℕ → List (List Bool)
assignments zero = [] ∷ []
assignments (suc n) = map (λ a. false ∷ a) (assignments n) ++ map (λ a. true ∷ a) (assignments n)

-- "A clause over these symbols has each symbol at most once": for each symbol in turn, the literal that denies a value of the
-- symbol (is false where the symbol has that value), or none.
pub data Digit : Type 0 where
  denies : Bool → Digit
  out : Digit

abbrev pub plus : Digit
plus = denies false

abbrev pub minus : Digit
minus = denies true

-- all clauses over n symbols, the empty one included
abbrev pub clauses : ℕ → List (List Digit)
clauses zero = [] ∷ []
clauses (suc n) = map (λ v. plus ∷ v) (clauses n) ++ (map (λ v. minus ∷ v) (clauses n) ++ map (λ v. out ∷ v) (clauses n))

-- the number of a clause's literals
abbrev pub size : List Digit → ℕ
size [] = 0
size (denies x ∷ v) = suc (size v)
size (out ∷ v) = size v

-- a clause has no true literal of a symbol whose value is b
abbrev pub fails : Digit → Bool → Bool
fails (denies x) b = beq x b
fails out b = true

-- every literal of the clause is false under the assignment
abbrev pub falsifies : List Digit → List Bool → Bool
falsifies [] a = true
falsifies (d ∷ v) [] = false
falsifies (d ∷ v) (b ∷ a) = fails d b && falsifies v a

-- some assignment that satisfies the rule makes the clause false
unfoldable pub hit : (List Bool → Bool) → List Digit → Bool
hit sat v = any (λ a. falsifies v a && sat a) (assignments (length v))

-- "It is an implicate if it is true in every assignment that satisfies the rule"
unfoldable pub implicate : (List Bool → Bool) → List Digit → Bool
implicate sat v = not (hit sat v)

-- the clauses made by leaving out some of a clause's literals, at least one
abbrev pub shorter : List Digit → List (List Digit)
shorter [] = []
shorter (out ∷ v) = map (λ u. out ∷ u) (shorter v)
shorter (denies x ∷ v) = map (λ u. denies x ∷ u) (shorter v) ++ map (λ u. out ∷ u) (v ∷ shorter v)

-- "and prime if no clause made by leaving out some of its literals is an implicate"
unfoldable pub prime : (List Bool → Bool) → List Digit → Bool
prime sat v = implicate sat v && all (λ u. not (implicate sat u)) (shorter v)

-- the test passes at each clause made by leaving out just one literal: an implicate is prime exactly if each of those is hit
-- (`prime_lone`), and that is how the code finds the primes
abbrev pub lone : (List Digit → Bool) → List Digit → Bool
lone test [] = true
lone test (out ∷ v) = lone (λ u. test (out ∷ u)) v
lone test (denies x ∷ v) = test (out ∷ v) && lone (λ u. test (denies x ∷ u)) v

-- the clauses over n symbols that pass a test, fewer literals first: a clause over n symbols has at most n
abbrev pub in_order : (List Digit → Bool) → ℕ → List (List Digit)
in_order test n = below_size size test (clauses n) (suc n)

-- "An accepted rule appends exactly its prime implicates, each once: fewer literals first", then as `Precedes` has it
abbrev pub primes_in_order : (List Bool → Bool) → ℕ → List (List Digit)
primes_in_order sat n = in_order (prime sat) n

-- a clause as a row: the places of its literals, given the numbers of the symbols
abbrev pub row_of : List ℕ → List Digit → List ℕ
row_of [] v = []
row_of (s ∷ symbols) [] = []
row_of (s ∷ symbols) (denies x ∷ v) = place s (not x) ∷ row_of symbols v
row_of (s ∷ symbols) (out ∷ v) = row_of symbols v

-- the rows of a rule, and of several rules one after the other
abbrev pub rows_of : Rule → List (List ℕ)
rows_of rule = map (row_of rule.symbols) (primes_in_order rule.accepts (length rule.symbols))

abbrev pub all_rows : List Rule → List (List ℕ)
all_rows [] = []
all_rows (rule ∷ rules) = rows_of rule ++ all_rows rules

-- some assignment satisfies the rule
abbrev pub satisfiable : Rule → Bool
satisfiable rule = any rule.accepts (assignments (length rule.symbols))

-- "at the first place that differs the smaller symbol first, and for the same symbol + before −": the smaller place first
pub data RowBefore : List ℕ → List ℕ → Type 0 where
  here : {p q : ℕ} {r t : List ℕ} → p < q → RowBefore (p ∷ r) (q ∷ t)
  later : {p : ℕ} {r t : List ℕ} → RowBefore r t → RowBefore (p ∷ r) (p ∷ t)

-- "fewer literals first; of equal length", that order
abbrev pub Precedes : List ℕ → List ℕ → Type 0
Precedes r t = BySize length RowBefore r t

-- each row precedes every later one: so none stands there twice
abbrev pub InOrder : List (List ℕ) → Type 0
InOrder rows = EachBefore Precedes rows
