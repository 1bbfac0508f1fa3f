-- Demand 3's second way, "from the rules and premises with no clauses (a rule forces a value that every agreeing, satisfying
-- assignment gives)".
use Rattle.std.specs.Prelude.{◌≡◌, Bool, true, false, not, ◌&&◌, ◌||◌, List, [], ◌∷◌, map, ℕ, ◌*◌, eqb, leb, length}
use Rattle.meaning.specs.Tests.{any, all, member}
use Rattle.meaning.specs.Literals.{place, opp, has}
use Rattle.meaning.specs.Formulae.{Formula, value, occurs, inside, symbols_of, Rule, rule_of}
use Rattle.meaning.specs.Clauses.{assignments, all_rows, satisfiable}
use Rattle.meaning.specs.Rounds.{by_rows, closure}

-- truth values `e` agree with what is known: of no symbol of the rule is the opposite known
abbrev pub Agrees : List Bool → Formula → (ℕ → Bool) → Type 0
Agrees known f e = (s : ℕ) → occurs s f ≡ true → has known (place s (not (e s))) ≡ false

-- the rule forces the value b on symbol s: every assignment that agrees with what is known and satisfies the rule gives it
abbrev pub Forces : List Bool → Formula → ℕ → Bool → Type 0
Forces known f s b = (occurs s f ≡ true) × ((e : ℕ → Bool) → Agrees known f e → value e f ≡ true → e s ≡ b)

-- The same as a test that computes, over the assignments to the rule's own symbols.

-- the literals that an assignment makes true
abbrev pub says : List ℕ → List Bool → List ℕ
says [] a = []
says (s ∷ symbols) [] = []
says (s ∷ symbols) (b ∷ a) = place s b ∷ says symbols a

abbrev pub agrees : List Bool → List ℕ → Bool
agrees known said = all (λ q. not (has known (opp q))) said

-- p is a literal of one of the symbols
abbrev pub literal_of : List ℕ → ℕ → Bool
literal_of symbols p = any (λ s. eqb (place s true) p || eqb (place s false) p) symbols

unfoldable pub forces : List Bool → Rule → ℕ → Bool
forces known rule p =
    literal_of rule.symbols p
    && all (λ a. not (agrees known (says rule.symbols a) && rule.accepts a) || member p (says rule.symbols a))
    (assignments (length rule.symbols))

abbrev pub by_rules : List Rule → List Bool → ℕ → Bool
by_rules rules known p = any (λ rule. forces known rule p) rules

-- what the board asks of a rule: symbols from 1 to S, at most 8 of them, and satisfiable
abbrev pub accepted : ℕ → Formula → Bool
accepted S f = inside S f && leb (length (symbols_of S f)) 8 && satisfiable (rule_of S f)

abbrev pub rules_of : ℕ → List Formula → List Rule
rules_of S fs = map (rule_of S) fs

-- the two ways, from the rules' formulae and the premises: by the rows of the rules, and by the rules themselves
abbrev pub first_way : ℕ → List Formula → List Bool → List Bool
first_way S fs held = closure (2 * S) (by_rows (all_rows (rules_of S fs))) held

abbrev pub second_way : ℕ → List Formula → List Bool → List Bool
second_way S fs held = closure (2 * S) (by_rules (rules_of S fs)) held
