-- What is promised of these definitions, each as a type. The proofs are in `proofs/`, under the same names in small letters.
use Rattle.std.specs.Prelude.{◌≡◌, ◌↔◌, ◌≢◌, ◌⊎◌, Bool, true, false, not, ◌&&◌, ℕ, suc, ◌*◌, ◌≤◌, ◌<◌, eqb, length, get_or}
use mathlib.Core.List.{List, [], Memᴰ as In}
use Rattle.meaning.specs.Tests.{any, all, none}
use Rattle.meaning.specs.Literals.{place, opp, has, Within, conflict}
use Rattle.meaning.specs.Formulae.{Formula, rule_of}
use Rattle.meaning.specs.Clauses.{Digit, prime, primes_in_order, rows_of, all_rows, InOrder}
use Rattle.meaning.specs.Rounds.{after, derived, rank_of, support_of, label}
use Rattle.meaning.specs.Ground.{reaches, ground, struck_off, larger_rank, blamed, blame}
use Rattle.meaning.specs.LeavingOff.{violation, WorksTo, LeavesOff}
use Rattle.meaning.specs.SecondWay.{Forces, accepted, rules_of, first_way, second_way}

-- ---- "The rows stored for a rule are all its prime implicates and no others", each once and in 01's order

abbrev pub AllPrimes : Type 0
AllPrimes = (sat : List Bool → Bool) (n : ℕ) (v : List Digit) → In v (primes_in_order sat n) ↔ ((length v ≡ n) × (prime sat v ≡ true))

abbrev pub RowsInOrder : Type 0
RowsInOrder = (S : ℕ) (f : Formula) → InOrder (rows_of (rule_of S f))

-- ---- the rounds in 01's words

-- the literal p is given rank k: round k has it and no earlier one does, of as many rounds as one likes
abbrev pub GivenIn : ℕ → List (List ℕ) → List Bool → (p k : ℕ) → Type 0
GivenIn places rows held p k =
    (has (after places rows held k) p ≡ true) × ((j : ℕ) → j < k → has (after places rows held j) p ≡ false)

-- `rank_of` looks at 2S rounds: it tells the rank by rounds without end
abbrev pub RankGiven : Type 0
RankGiven =
    (places : ℕ) (rows : List (List ℕ)) (held : List Bool) (p k : ℕ) → places < none → k < none
    → (rank_of places rows held p ≡ k) ↔ GivenIn places rows held p k

-- "Rank 0: the held premises."
abbrev pub RankZero : Type 0
RankZero =
    (places : ℕ) (rows : List (List ℕ)) (held : List Bool) (p : ℕ) → places < none → p < places
    → (rank_of places rows held p ≡ 0) ↔ (has held p ≡ true)

-- "literal L is given rank k if it has no smaller rank and some row in use contains L and the opposite of each other literal of
-- that row has a rank below k": rank k + 1 from the ranks of k or below
abbrev pub RankRule : Type 0
RankRule =
    (places : ℕ) (rows : List (List ℕ)) (held : List Bool) (k p : ℕ) → places < none → k < places → p < places
    → (rank_of places rows held p ≡ suc k)
    ↔ ((k < rank_of places rows held p)
    × ((row : List ℕ) × In row rows × In p row × ((q : ℕ) → In q row → q ≢ p → rank_of places rows held (opp q) ≤ k)))

-- "Rounds go on until one adds nothing. Each round but that one gives a rank to at least one literal.": of any round, it gives some
-- literal its rank, or neither it nor any later one adds anything
abbrev pub RoundsEnd : Type 0
RoundsEnd =
    (places : ℕ) (rows : List (List ℕ)) (held : List Bool) (k : ℕ)
    → ((p : ℕ) × GivenIn places rows held p (suc k)) ⊎ ((m : ℕ) → k ≤ m → after places rows held m ≡ after places rows held k)

-- "The derived literals are those with a rank."
abbrev pub DerivedRanked : Type 0
DerivedRanked =
    (places : ℕ) (rows : List (List ℕ)) (held : List Bool) (p : ℕ) → places < none
    → (rank_of places rows held p < none) ↔ (has (derived places rows held) p ≡ true)

-- 02, Ticket 7: "No rank can exceed 2S", however many rounds are run
abbrev pub RankBound : Type 0
RankBound = (S : ℕ) (rows : List (List ℕ)) (held : List Bool) (p k : ℕ) → GivenIn (2 * S) rows held p k → k ≤ 2 * S

-- row r gives the literal p its rank: it contains it, and the opposite of each other literal has a smaller rank
abbrev pub GaveRank : ℕ → List (List ℕ) → List Bool → ℕ → ℕ → Type 0
GaveRank places rows held p r =
    (r < length rows) × In p (get_or rows r [])
    × ((q : ℕ) → In q (get_or rows r []) → q ≢ p → rank_of places rows held (opp q) < rank_of places rows held p)

-- "the lowest-numbered row that gave it its rank", and none for a held literal and for one without a rank
abbrev pub SupportRule : Type 0
SupportRule =
    (places : ℕ) (rows : List (List ℕ)) (held : List Bool) (p r : ℕ) → places < none → length rows < none → p < places → r < none
    → (support_of places rows held p ≡ r)
    ↔ ((0 < rank_of places rows held p) × (rank_of places rows held p < none) × GaveRank places rows held p r
    × ((i : ℕ) → i < r → GaveRank places rows held p i → ⊥))

-- ---- ground, without counting steps

-- "a held premise reaches itself;
abbrev pub PremiseReaches : Type 0
PremiseReaches =
    (places : ℕ) (rows : List (List ℕ)) (held : List Bool) (p h : ℕ) → has held p ≡ true → reaches places rows held p h ≡ eqb p h

-- another derived literal reaches what the opposites of its support's other literals reach." (One that is not derived has no support,
-- and reaches nothing.)
abbrev pub OthersReach : Type 0
OthersReach =
    (places : ℕ) (rows : List (List ℕ)) (held : List Bool) (p h : ℕ) → places < none → length rows ≤ none → p < places → has held p ≡ false
    → reaches places rows held p h
    ≡ any (λ q. not (eqb q p) && reaches places rows held (opp q) h) (get_or rows (support_of places rows held p) [])

-- ---- blame, in 02's words

-- "symbols with label 3"
abbrev pub HasLabel3 : ℕ → List (List ℕ) → List Bool → ℕ → Type 0
HasLabel3 symbols rows held s = (1 ≤ s) × (s ≤ symbols) × (label (derived (2 * symbols) rows held) s ≡ 3)

-- "the one whose larger rank of its two literals is smallest, and of equals the lowest symbol": no symbol with label 3 has a smaller larger
-- rank, and no lower one an equal one
pub record Earliest (symbols : ℕ) (rows : List (List ℕ)) (held : List Bool) (s : ℕ) : Type 0 where
  pub label_3 : HasLabel3 symbols rows held s
  pub smallest : (t : ℕ) → HasLabel3 symbols rows held t → larger_rank (2 * symbols) rows held s ≤ larger_rank (2 * symbols) rows held t
  pub lowest : (t : ℕ) → HasLabel3 symbols rows held t → larger_rank (2 * symbols) rows held t ≡ larger_rank (2 * symbols) rows held s → s ≤ t

-- where there is a conflict blame takes that symbol, and there is no other such
abbrev pub BlamedIs : Type 0
BlamedIs =
    (symbols : ℕ) (rows : List (List ℕ)) (held : List Bool) (s : ℕ) → 2 * symbols < none → conflict (derived (2 * symbols) rows held) ≡ true
    → (blamed symbols rows held ≡ s) ↔ Earliest symbols rows held s

-- the premises that blame marks are held,
abbrev pub BlameHeld : Type 0
BlameHeld =
    (symbols : ℕ) (rows : List (List ℕ)) (held : List Bool) → 2 * symbols < none → length rows ≤ none
    → conflict (derived (2 * symbols) rows held) ≡ true → Within (blame symbols rows held) held

-- and a board that holds them is in conflict, with the same rows or more, with no other premises or some
abbrev pub BlameEnough : Type 0
BlameEnough =
    (symbols : ℕ) (rows more : List (List ℕ)) (held now : List Bool) → 2 * symbols < none → length rows ≤ none
    → conflict (derived (2 * symbols) rows held) ≡ true → ((row : List ℕ) → In row rows → In row more) → Within (blame symbols rows held) now
    → conflict (derived (2 * symbols) more now) ≡ true

-- ---- 02, Ticket 9: "The ground is enough."

-- the ground is of held premises
abbrev pub GroundHeld : Type 0
GroundHeld =
    (places : ℕ) (rows : List (List ℕ)) (held : List Bool) (p : ℕ) → places < none → length rows < none → p < places
    → Within (ground places rows held p) held

-- with the premises `now` in place of those held, the literal p "is derived with the same rank and the same support", and so has the same ground
pub record Unmoved (places : ℕ) (rows : List (List ℕ)) (held now : List Bool) (p : ℕ) : Type 0 where
  pub derived : has (derived places rows now) p ≡ true
  pub rank : rank_of places rows now p ≡ rank_of places rows held p
  pub support : support_of places rows now p ≡ support_of places rows held p
  pub ground : ground places rows now p ≡ ground places rows held p

-- "For a derived literal on a board without new rules", in conflict or not: with any premises between its ground and those held
abbrev pub GroundEnough : Type 0
GroundEnough =
    (places : ℕ) (rows : List (List ℕ)) (held now : List Bool) (p : ℕ) → places < none → length rows < none
    → has (derived places rows held) p ≡ true → Within (ground places rows held p) now → Within now held
    → Unmoved places rows held now p

-- so "with only the premises of its ground held, it is derived with the same rank and the same support;
abbrev pub OnlyGround : Type 0
OnlyGround =
    (places : ℕ) (rows : List (List ℕ)) (held : List Bool) (p : ℕ) → places < none → length rows < none
    → has (derived places rows held) p ≡ true → Unmoved places rows held (ground places rows held p) p

-- and withdrawing premises outside its ground, any number of them, changes neither."
abbrev pub OutsideWithdrawn : Type 0
OutsideWithdrawn =
    (places : ℕ) (rows : List (List ℕ)) (held : List Bool) (p : ℕ) (gone : List ℕ) → places < none → length rows < none
    → has (derived places rows held) p ≡ true → ((h : ℕ) → In h gone → has (ground places rows held p) h ≡ false)
    → Unmoved places rows held (struck_off held gone) p

-- ---- the same with no rounds, for any order of work

-- a literal is derived if it is a held premise, or if some row contains it and the opposite of each other literal is derived
pub data Derived (places : ℕ) (rows : List (List ℕ)) (held : List Bool) : ℕ → Type 0 where
  premise : {p : ℕ} → p < places → has held p ≡ true → Derived places rows held p
  by_row : {p : ℕ} (row : List ℕ) → In row rows → In p row → p < places
      → ((q : ℕ) → In q row → q ≢ p → Derived places rows held (opp q)) → Derived places rows held p

abbrev pub DerivedIs : Type 0
DerivedIs = (places : ℕ) (rows : List (List ℕ)) (held : List Bool) (p : ℕ) → Derived places rows held p ↔ (has (derived places rows held) p ≡ true)

-- ---- 001's propagation, which leaves off at the first violated row: "Both find a conflict on the same boards."

-- wherever it leaves off, whatever its order of work, it has found a violation exactly if the board is in conflict. (A sound row has a
-- literal.)
abbrev pub BothFind : Type 0
BothFind =
    (S : ℕ) (rows : List (List ℕ)) (held known : List Bool) → ((row : List ℕ) → In row rows → 0 < length row)
    → WorksTo (2 * S) rows held known → LeavesOff (2 * S) rows held known
    → (violation (2 * S) rows held known ≡ true) ↔ (conflict (derived (2 * S) rows held) ≡ true)

-- and there is always a point where it does
abbrev pub WorkEnds : Type 0
WorkEnds =
    (places : ℕ) (rows : List (List ℕ)) (held : List Bool)
    → (known : List Bool) × WorksTo places rows held known × LeavesOff places rows held known

-- ---- demand 3

-- a literal is forced if it is a held premise, or if some rule forces it from literals that are all forced
pub data Forced (S : ℕ) (fs : List Formula) (held : List Bool) : ℕ → Type 0 where
  premise : {p : ℕ} → p < 2 * S → has held p ≡ true → Forced S fs held p
  by_rule : {p : ℕ} (f : Formula) (s : ℕ) (b : Bool) (known : List Bool) → In f fs
      → ((q : ℕ) → has known q ≡ true → Forced S fs held q) → Forces known f s b → p ≡ place s b → Forced S fs held p

abbrev pub ForcedIs : Type 0
ForcedIs =
    (S : ℕ) (fs : List Formula) (held : List Bool) → all (accepted S) fs ≡ true → (p : ℕ)
    → Forced S fs held p ↔ (has (second_way S fs held) p ≡ true)

-- some literal and its opposite
abbrev pub Conflict : (ℕ → Type 0) → Type 0
Conflict Known = (p : ℕ) × Known p × Known (opp p)

-- "either both ways find a literal and its opposite or neither does; where neither does, every label is the same"
pub record TwoWays (First Second : ℕ → Type 0) : Type 0 where
  pub together : Conflict First ↔ Conflict Second
  pub same : ¬ Conflict First → (p : ℕ) → First p ↔ Second p

-- for any accepted rules and any premises
abbrev pub DemandThree : Type 0
DemandThree =
    (S : ℕ) (fs : List Formula) (held : List Bool) → all (accepted S) fs ≡ true
    → TwoWays (Derived (2 * S) (all_rows (rules_of S fs)) held) (Forced S fs held)

-- and by the rounds that compute the two ways
pub record SameFindings (a b : List Bool) : Type 0 where
  pub conflicts : conflict a ≡ conflict b
  pub labels : conflict a ≡ false → (s : ℕ) → label a s ≡ label b s

abbrev pub DemandThreeComputed : Type 0
DemandThreeComputed =
    (S : ℕ) (fs : List Formula) (held : List Bool) → all (accepted S) fs ≡ true → SameFindings (first_way S fs held) (second_way S fs held)
