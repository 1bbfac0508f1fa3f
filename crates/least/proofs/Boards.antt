-- 02, Ticket 12, on small boards, by computation: what is the least to withdraw.
use Rattle.meaning.proofs.Kit.{◌≡◌, refl, List, [], ◌∷◌, map, ℕ, ◌*◌}
use Rattle.meaning.specs.Tests.{member, tabulate, none}
use Rattle.meaning.specs.Literals.{opp}
use Rattle.meaning.specs.BySize.{of_size}
use Rattle.meaning.specs.Formulae.{Formula, neg, imp, value, occurs, symbols_of}
use Rattle.meaning.specs.Clauses.{hit, implicate, prime, all_rows}
use Rattle.meaning.specs.Rounds.{gives, next, reached}
use Rattle.meaning.specs.SecondWay.{rules_of}
use Rattle.least.specs.Least.{ends, least}
use Rattle.meaning.proofs.Names.{plus, minus, one, two, three, four}

-- S, the rules, the premises held, and the candidates of them
data Struck : Type 0 where
  least_of : ℕ → List Formula → (held cands : List ℕ) → Struck

unfoldable answered : Struck → ℕ
answered (least_of S rules held cands) = least (2 * S) (all_rows (rules_of S rules)) (tabulate (2 * S) (λ p. member p held)) cands

abbrev conflicts : List (Struck × ℕ)
conflicts =
    -- two separate conflicts: one premise of each
    (least_of 4 [] (plus 1 ∷ minus 1 ∷ plus 2 ∷ minus 2 ∷ []) (plus 1 ∷ minus 1 ∷ plus 2 ∷ minus 2 ∷ []), 5)
    -- 1 and 2 are against each other, and 1 and 3: 1 ends both
    ∷ (least_of 4 (imp one (neg two) ∷ imp one (neg three) ∷ []) (plus 2 ∷ plus 3 ∷ plus 1 ∷ []) (plus 2 ∷ plus 3 ∷ plus 1 ∷ []), 4)
    -- where 1 may not be struck off, 2 and 3 must
    ∷ (least_of 4 (imp one (neg two) ∷ imp one (neg three) ∷ []) (plus 2 ∷ plus 3 ∷ plus 1 ∷ plus 4 ∷ []) (plus 2 ∷ plus 4 ∷ plus 3 ∷ []), 5)
    -- a conflict that the rules alone make: whatever is struck off, and with no candidates
    ∷ (least_of 4 (one ∷ imp one two ∷ imp one (neg two) ∷ []) (plus 3 ∷ plus 4 ∷ []) (plus 3 ∷ plus 4 ∷ []), none)
    ∷ (least_of 4 (one ∷ imp one two ∷ imp one (neg two) ∷ []) [] [], none)
    -- a conflict that the candidates have nothing of, and no candidates
    ∷ (least_of 4 [] (plus 1 ∷ minus 1 ∷ plus 2 ∷ []) (plus 2 ∷ []), none)
    ∷ (least_of 4 [] (plus 1 ∷ minus 1 ∷ []) [], none)
    -- no conflict: the empty set, of some candidates and of none
    ∷ (least_of 4 (imp one two ∷ []) (plus 1 ∷ plus 3 ∷ []) (plus 1 ∷ plus 3 ∷ []), 0)
    ∷ (least_of 4 (imp one two ∷ []) (plus 1 ∷ []) [], 0)
    -- of equal size the smallest number, as the candidates are given
    ∷ (least_of 4 [] (plus 1 ∷ minus 1 ∷ []) (minus 1 ∷ plus 1 ∷ []), 1)
    -- 1 and 4 would end it, number 9, and 2 and 3, number 6
    ∷ (
      least_of 4 (imp one (neg two) ∷ imp one (neg three) ∷ imp four (neg two) ∷ imp four (neg three) ∷ [])
          (plus 1 ∷ plus 2 ∷ plus 3 ∷ plus 4 ∷ []) (plus 1 ∷ plus 2 ∷ plus 3 ∷ plus 4 ∷ []),
      6,
    )
    -- the smaller set, though its number is larger: 3, or 1 and 2, each of which derives 4
    ∷ (least_of 4 (imp one four ∷ imp two four ∷ imp four (neg three) ∷ []) (plus 1 ∷ plus 2 ∷ plus 3 ∷ []) (plus 1 ∷ plus 2 ∷ plus 3 ∷ []), 4)
    ∷ []

conflicts_hold : map (λ b. answered b.0) conflicts ≡ map (λ b. b.1) conflicts
unfolding answered opp value occurs symbols_of hit implicate prime of_size gives next reached ends least
conflicts_hold = refl
