-- 02, Ticket 10, on small boards, by computation: what the list of smallest sets is, where the mark is symbol 4's literal but where another is
-- named.
use Rattle.meaning.proofs.Kit.{◌≡◌, refl, List, [], ◌∷◌, map, ℕ, ◌*◌}
use Rattle.meaning.specs.Literals.{opp}
use Rattle.meaning.specs.BySize.{of_size}
use Rattle.meaning.specs.Formulae.{Formula, neg, and, imp, value, occurs, symbols_of}
use Rattle.meaning.specs.Clauses.{hit, implicate, prime, all_rows}
use Rattle.meaning.specs.Rounds.{gives, next, reached}
use Rattle.meaning.specs.SecondWay.{rules_of}
use Rattle.smallest.specs.Smallest.{alone, derives, clashes, smaller_derives, carries, smallest}
use Rattle.meaning.proofs.Names.{plus, minus, one, two, three, four}

-- S, the rules, the candidates, and the literal to explain
data Question : Type 0 where
  sets_for : ℕ → List Formula → List ℕ → ℕ → Question

unfoldable listed : Question → List ℕ
listed (sets_for S rules cands p) = smallest (2 * S) (all_rows (rules_of S rules)) cands p

abbrev boards : List (Question × List ℕ)
boards =
    -- two ways to one mark: 3 alone, or 1 and 2; the smaller set first, though its number is larger
    (sets_for 4 (imp (and one two) four ∷ imp three four ∷ []) (plus 1 ∷ plus 2 ∷ plus 3 ∷ []) (plus 4), 4 ∷ 3 ∷ [])
    -- of equal size by number
    ∷ (sets_for 4 (imp one four ∷ imp three four ∷ imp two four ∷ []) (plus 1 ∷ plus 2 ∷ plus 3 ∷ []) (plus 4), 1 ∷ 2 ∷ 4 ∷ [])
    -- a candidate and its opposite: either carries the mark; together they do so in conflict
    ∷ (sets_for 4 (imp one four ∷ imp (neg one) four ∷ []) (plus 1 ∷ minus 1 ∷ []) (plus 4), 1 ∷ 2 ∷ [])
    ∷ (sets_for 4 (imp one two ∷ imp (neg one) three ∷ imp (and two three) four ∷ []) (plus 1 ∷ minus 1 ∷ []) (plus 4), [])
    -- a mark that needs nothing, whatever the candidates, and with none
    ∷ (sets_for 4 (four ∷ imp one four ∷ []) (plus 1 ∷ plus 2 ∷ []) (plus 4), 0 ∷ [])
    ∷ (sets_for 4 (four ∷ []) [] (plus 4), 0 ∷ [])
    -- a mark that cannot be had
    ∷ (sets_for 4 (imp (and one two) four ∷ []) (plus 1 ∷ plus 3 ∷ []) (plus 4), [])
    ∷ (sets_for 4 (imp one four ∷ []) [] (plus 4), [])
    -- the literal itself is a candidate
    ∷ (sets_for 4 (imp one four ∷ []) (plus 4 ∷ plus 1 ∷ []) (plus 4), 1 ∷ 2 ∷ [])
    -- 1 derives the mark in conflict: neither it nor any set with it is listed, so 1 and 2 are not
    ∷ (sets_for 4 (imp one four ∷ imp one three ∷ neg three ∷ imp two four ∷ []) (plus 1 ∷ plus 2 ∷ []) (plus 4), 2 ∷ [])
    -- the rules alone are in conflict: no set is listed, for no literal
    ∷ (sets_for 4 (one ∷ imp one two ∷ imp one (neg two) ∷ []) (plus 4 ∷ []) (plus 1), [])
    ∷ []

boards_hold : map (λ b. listed b.0) boards ≡ map (λ b. b.1) boards
unfolding listed opp value occurs symbols_of hit implicate prime of_size gives next reached alone derives clashes smaller_derives carries smallest
boards_hold = refl
