-- 02, Ticket 13, "Valves with several positions": what is promised of variables and pair tables, each as a type. The proofs are in `proofs/`, under
-- the same names in small letters.
use Rattle.std.specs.Prelude.{◌≡◌, ◌↔◌, ◌≢◌, ◌⊎◌, Bool, true, false, ℕ, ◌+◌, ◌-◌, ◌*◌, ◌≤◌, ◌<◌}
use mathlib.Core.List.{List, [], ◌∷◌, map, Memᴰ as In}
use Rattle.meaning.specs.Tests.{all, from}
use Rattle.meaning.specs.Literals.{place, has, conflict}
use Rattle.meaning.specs.Formulae.{value, rule_of}
use Rattle.meaning.specs.Clauses.{rows_of, all_rows}
use Rattle.meaning.specs.Rounds.{derived}
use Rattle.meaning.specs.SecondWay.{accepted, rules_of}
use Rattle.meaning.specs.Promises.{Derived, Conflict}
use Rattle.positions.specs.Positions.{Variable, symbol_at, on, off, exactly_one, PairTable, Side, sides, pair_clause, pair_row, Entry, positions}
use Rattle.positions.specs.Positions.{pairs, formulae_of, formulae_of_all, suits}
use Rattle.positions.specs.Removal.{removed, emptied}

-- a variable's rule: "exactly one true" of the symbols from s to s + n
abbrev pub ExactlyOneSays : Type 0
ExactlyOneSays =
    (e : ℕ → Bool) (s n : ℕ)
    → (value e (exactly_one s n) ≡ true) ↔ ((i : ℕ) × (i ≤ n) × (e (s + i) ≡ true) × ((j : ℕ) → j ≤ n → e (s + j) ≡ true → j ≡ i))

-- the rule of a position in a pair table: "it is false or some allowed position of the other is true"
abbrev pub PairClauseSays : Type 0
PairClauseSays =
    (e : ℕ → Bool) (s : Side) (i : ℕ)
    → (value e (pair_clause s i) ≡ true)
    ↔ ((e (symbol_at s.own i) ≡ false) ⊎ ((j : ℕ) × (j < s.partner.count) × (s.may i j ≡ true) × (e (symbol_at s.partner j) ≡ true)))

-- the rows of a variable are that one position at least is taken, and of two positions that not both are; their order is 01's (`RowsInOrder`)
abbrev pub VariableRows : Type 0
VariableRows =
    (S : ℕ) (x : Variable) (row : List ℕ) → suits S (positions x) ≡ true
    → In row (rows_of (rule_of S (exactly_one x.first (x.count - 1))))
    ↔ ((row ≡ map (on x) (from 0 x.count)) ⊎ ((i : ℕ) × (j : ℕ) × (i < j) × (j < x.count) × (row ≡ off x i ∷ off x j ∷ [])))

-- a position in a pair table has one row, its clause
abbrev pub PairRows : Type 0
PairRows =
    (S : ℕ) (t : PairTable) (s : Side) (i : ℕ) → suits S (pairs t) ≡ true → In s (sides t) → i < s.own.count
    → rows_of (rule_of S (pair_clause s i)) ≡ pair_row s i ∷ []

-- the rules of an entry that a board takes are ones that it accepts
abbrev pub EntryAccepted : Type 0
EntryAccepted = (S : ℕ) (e : Entry) → suits S e ≡ true → all (accepted S) (formulae_of e) ≡ true

-- the removal of positions, with no rounds: position i of the variable x is removed
pub data Removed (entries : List Entry) (held : List Bool) : Variable → ℕ → Type 0 where
  -- "A premise +s removes the variable's other positions,
  by_other : {x : Variable} {i : ℕ} (j : ℕ) → j < x.count → j ≢ i → has held (on x j) ≡ true → Removed entries held x i
  -- −s its own";
  by_own : {x : Variable} {i : ℕ} → has held (off x i) ≡ true → Removed entries held x i
  -- and it is "without an allowed partner": each that it may stand with is removed
  by_pairs : {x : Variable} {i : ℕ} (t : PairTable) (s : Side) → In (pairs t) entries → In s (sides t) → x ≡ s.own
      → ((j : ℕ) → j < s.partner.count → s.may i j ≡ true → Removed entries held s.partner j) → Removed entries held x i

-- removing "empties some variable"
abbrev pub Emptied : List Entry → (held : List Bool) → Type 0
Emptied entries held = (x : Variable) × In (positions x) entries × ((i : ℕ) → i < x.count → Removed entries held x i)

-- a board "where each variable is entered once, no two share a symbol, pair tables join entered variables and premises are of their symbols". (One
-- that is entered twice does no harm: only of variables that differ is it asked that they share none.)
pub record Fitting (entries : List Entry) (held : List Bool) : Type 0 where
  pub apart : (x y : Variable) (i j : ℕ) → In (positions x) entries → In (positions y) entries → i < x.count → j < y.count
      → symbol_at x i ≡ symbol_at y j → x ≡ y
  pub joined : (t : PairTable) → In (pairs t) entries → In (positions t.one) entries × In (positions t.other) entries
  pub premises : (p : ℕ) → has held p ≡ true
      → (x : Variable) × (i : ℕ) × (b : Bool) × In (positions x) entries × (i < x.count) × (p ≡ place (symbol_at x i) b)

-- what "a board with only such rules" derives
abbrev pub DerivedBy : (S : ℕ) → List Entry → (held : List Bool) → ℕ → Type 0
DerivedBy S entries held p = Derived (2 * S) (all_rows (rules_of S (formulae_of_all entries))) held p

-- "conflict exactly when removing .. empties some variable;
abbrev pub ConflictEmptied : Type 0
ConflictEmptied =
    (S : ℕ) (entries : List Entry) (held : List Bool) → all (suits S) entries ≡ true → Fitting entries held
    → Conflict (DerivedBy S entries held) ↔ Emptied entries held

-- otherwise a position is ruled out exactly when it is removed."
abbrev pub RuledOutRemoved : Type 0
RuledOutRemoved =
    (S : ℕ) (entries : List Entry) (held : List Bool) → all (suits S) entries ≡ true → Fitting entries held
    → ¬ Conflict (DerivedBy S entries held) → (x : Variable) (i : ℕ) → In (positions x) entries → i < x.count
    → DerivedBy S entries held (off x i) ↔ Removed entries held x i

-- "and holding both empties it."
abbrev pub BothEmpty : Type 0
BothEmpty =
    (entries : List Entry) (held : List Bool) (x : Variable) (i : ℕ) → In (positions x) entries → i < x.count → has held (on x i) ≡ true
    → has held (off x i) ≡ true → Emptied entries held

-- the removal that computes, by rounds, is this one
abbrev pub RemovedIs : Type 0
RemovedIs =
    (S : ℕ) (entries : List Entry) (held : List Bool) → all (suits S) entries ≡ true → Fitting entries held
    → ((x : Variable) (i : ℕ) → In (positions x) entries → i < x.count
    → Removed entries held x i ↔ (has (removed S entries held) (symbol_at x i) ≡ true))
    × (Emptied entries held ↔ (emptied S entries held ≡ true))

-- so both ways compute the same
pub record SameRemoved (S : ℕ) (entries : List Entry) (known held : List Bool) : Type 0 where
  pub conflicts : conflict known ≡ emptied S entries held
  pub ruled_out : emptied S entries held ≡ false → (x : Variable) (i : ℕ) → In (positions x) entries → i < x.count
      → has known (off x i) ≡ has (removed S entries held) (symbol_at x i)

abbrev pub RemovalComputed : Type 0
RemovalComputed =
    (S : ℕ) (entries : List Entry) (held : List Bool) → all (suits S) entries ≡ true → Fitting entries held
    → SameRemoved S entries (derived (2 * S) (all_rows (rules_of S (formulae_of_all entries))) held) held
