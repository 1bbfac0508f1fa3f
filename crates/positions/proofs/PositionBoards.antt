-- 02, Ticket 13, on small boards, by computation: the rows of position variables and pair tables, and that what is removed is what the rows rule out.
use Rattle.meaning.proofs.Kit.{◌≡◌, refl, true, false, Bool, List, [], ◌∷◌, map, ℕ, ◌+◌, suc, ◌*◌, ◌^◌}
use Rattle.meaning.specs.Tests.{member, tabulate, keep, from}
use Rattle.meaning.specs.Literals.{opp, has, conflict}
use Rattle.meaning.specs.BySize.{of_size}
use Rattle.meaning.specs.Formulae.{value, occurs, symbols_of}
use Rattle.meaning.specs.Clauses.{hit, implicate, prime, all_rows}
use Rattle.meaning.specs.Rounds.{gives, next, reached, derived, label}
use Rattle.meaning.specs.SecondWay.{rules_of}
use Rattle.positions.specs.Positions.{Variable, none_of, exactly_one, false_or, Entry, positions, pairs, formulae_of, formulae_of_all}
use Rattle.positions.specs.Removal.{removed, emptied}
use Rattle.meaning.proofs.Names.{plus, minus}

-- the count of symbols, and what is entered
data Valves : Type 0 where
  valves : ℕ → List Entry → Valves

unfoldable rows_in : Valves → List (List ℕ)
rows_in (valves S entries) = all_rows (rules_of S (formulae_of_all entries))

-- ---- the rows

abbrev variable : ℕ → ℕ → Variable
variable first count = record { first = first; count = count }

abbrev table : Variable → Variable → ℕ → Entry
table one other allowed = pairs (record { one = one; other = other; allowed = allowed })

-- a valve of three positions and one of two; the first may be in 0 or 2 where the second is in 1, and in 1 where it is in 0: bits 1, 7 and 15. Bits 2
-- and 63 are of no pair of positions
abbrev pipe : Valves
pipe =
    valves 5
    (positions (variable 1 3) ∷ positions (variable 4 2) ∷ table (variable 1 3) (variable 4 2) (2 + 128 + 32768 + 4 + 2 ^ 63) ∷ [])

-- of two positions + before −; of three the pairs first. Each position in the table is one rule, of which the row is
rows_of_pipe : rows_in pipe ≡
    (minus 1 ∷ minus 2 ∷ []) ∷ (minus 1 ∷ minus 3 ∷ []) ∷ (minus 2 ∷ minus 3 ∷ []) ∷ (plus 1 ∷ plus 2 ∷ plus 3 ∷ [])
    ∷ (plus 4 ∷ plus 5 ∷ []) ∷ (minus 4 ∷ minus 5 ∷ [])
    ∷ (minus 1 ∷ plus 5 ∷ []) ∷ (minus 2 ∷ plus 4 ∷ []) ∷ (minus 3 ∷ plus 5 ∷ [])
    ∷ (plus 2 ∷ minus 4 ∷ []) ∷ (plus 1 ∷ plus 3 ∷ minus 5 ∷ []) ∷ []
unfolding rows_in formulae_of none_of exactly_one false_or value occurs symbols_of hit implicate prime of_size
rows_of_pipe = refl

-- ---- what is found where premises are held

-- the symbols removed, whether a variable is emptied, whether there is a conflict, and the labels
abbrev Findings : Type 0
Findings = List ℕ × Bool × Bool × List ℕ

unfoldable find : Valves → List ℕ → Findings
find (valves S entries) literals =
    let held = tabulate (2 * S) (λ p. member p literals) in
    let known = derived (2 * S) (all_rows (rules_of S (formulae_of_all entries))) held in
    (keep (has (removed S entries held)) (from 0 (suc S)), emptied S entries held, conflict known, tabulate S (λ i. label known (suc i)))

abbrev finds : Valves → List (List ℕ) → List Findings
finds v premises = map (find v) premises

pipe_found : finds pipe ([] ∷ (plus 2 ∷ []) ∷ (minus 4 ∷ []) ∷ (plus 4 ∷ minus 2 ∷ []) ∷ (plus 5 ∷ minus 5 ∷ []) ∷ []) ≡
    -- nothing held: nothing is removed
    ([], false, false, 0 ∷ 0 ∷ 0 ∷ 0 ∷ 0 ∷ [])
    -- +2 removes 1 and 3, which leave 5 without a partner
    ∷ (1 ∷ 3 ∷ 5 ∷ [], false, false, 2 ∷ 1 ∷ 2 ∷ 1 ∷ 2 ∷ [])
    -- −4 leaves 2 without a partner; the second valve is in its last position, the first in 0 or 2
    ∷ (2 ∷ 4 ∷ [], false, false, 0 ∷ 2 ∷ 0 ∷ 2 ∷ 1 ∷ [])
    -- +4 and −2: none of the first valve's positions is left, so none of the second's
    ∷ (1 ∷ 2 ∷ 3 ∷ 4 ∷ 5 ∷ [], true, true, 3 ∷ 3 ∷ 3 ∷ 3 ∷ 3 ∷ [])
    -- +5 and −5 empty the second valve, and so the first
    ∷ (1 ∷ 2 ∷ 3 ∷ 4 ∷ 5 ∷ [], true, true, 3 ∷ 3 ∷ 3 ∷ 3 ∷ 3 ∷ []) ∷ []
unfolding find formulae_of none_of exactly_one false_or value occurs symbols_of hit implicate prime of_size gives next reached opp removed emptied
pipe_found = refl

-- two valves of two positions that may not be in the same one: bits 1 and 7
abbrev apart : Valves
apart = valves 4 (positions (variable 1 2) ∷ positions (variable 3 2) ∷ table (variable 1 2) (variable 3 2) (2 + 128) ∷ [])

apart_found : finds apart ((plus 1 ∷ []) ∷ (minus 3 ∷ []) ∷ (plus 1 ∷ plus 3 ∷ []) ∷ []) ≡
    (2 ∷ 3 ∷ [], false, false, 1 ∷ 2 ∷ 2 ∷ 1 ∷ [])
    ∷ (2 ∷ 3 ∷ [], false, false, 1 ∷ 2 ∷ 2 ∷ 1 ∷ [])
    ∷ (1 ∷ 2 ∷ 3 ∷ 4 ∷ [], true, true, 3 ∷ 3 ∷ 3 ∷ 3 ∷ []) ∷ []
unfolding find formulae_of none_of exactly_one false_or value occurs symbols_of hit implicate prime of_size gives next reached opp removed emptied
apart_found = refl

-- four valves in a chain, each in the position of the one before it, bits 0 and 8: one premise, of the last, fixes all; two empty them
abbrev like : ℕ → ℕ → Entry
like a b = table (variable a 2) (variable b 2) (1 + 256)

abbrev chain : Valves
chain =
    valves 8
    (positions (variable 1 2) ∷ positions (variable 3 2) ∷ positions (variable 5 2) ∷ positions (variable 7 2) ∷ like 1 3 ∷ like 3 5 ∷ like 5 7 ∷ [])

chain_found : finds chain ([] ∷ (plus 8 ∷ []) ∷ (plus 8 ∷ minus 2 ∷ []) ∷ []) ≡
    ([], false, false, 0 ∷ 0 ∷ 0 ∷ 0 ∷ 0 ∷ 0 ∷ 0 ∷ 0 ∷ [])
    ∷ (1 ∷ 3 ∷ 5 ∷ 7 ∷ [], false, false, 2 ∷ 1 ∷ 2 ∷ 1 ∷ 2 ∷ 1 ∷ 2 ∷ 1 ∷ [])
    ∷ (1 ∷ 2 ∷ 3 ∷ 4 ∷ 5 ∷ 6 ∷ 7 ∷ 8 ∷ [], true, true, 3 ∷ 3 ∷ 3 ∷ 3 ∷ 3 ∷ 3 ∷ 3 ∷ 3 ∷ []) ∷ []
unfolding find formulae_of none_of exactly_one false_or value occurs symbols_of hit implicate prime of_size gives next reached opp removed emptied
chain_found = refl

-- a position without an allowed partner is removed with nothing held: its clause is that it is false
abbrev lonely : Valves
lonely = valves 4 (positions (variable 3 2) ∷ positions (variable 1 2) ∷ table (variable 3 2) (variable 1 2) 1 ∷ [])

lonely_found : finds lonely ([] ∷ (plus 2 ∷ []) ∷ []) ≡
    (2 ∷ 4 ∷ [], false, false, 1 ∷ 2 ∷ 1 ∷ 2 ∷ []) ∷ (1 ∷ 2 ∷ 3 ∷ 4 ∷ [], true, true, 3 ∷ 3 ∷ 3 ∷ 3 ∷ []) ∷ []
unfolding find formulae_of none_of exactly_one false_or value occurs symbols_of hit implicate prime of_size gives next reached opp removed emptied
lonely_found = refl
