-- A clause that is not at fault.
use Rattle.meaning.proofs.Kit.{◌≡◌, refl, ◌≢◌, true, false, List, [], ◌∷◌, ◌≤◌, ℕ, ◌+◌, arith, eqb, leb, ℤ, length, leb-true}
use Rattle.meaning.specs.Tests.{all}
use Rattle.meaning.proofs.Tests.{clash}
use Rattle.literals.specs.Literal.{in_range}
use Rattle.literals.specs.Row.{most_literals, most_rules}
use Rattle.implicates.specs.Appending.{fits}
use Rattle.implicates.proofs.Rules.{fits_facts}
use Rattle.std.specs.Prelude.{Ok}
use Rattle.board.proofs.Answered.{refused_not_done}
use Rattle.dimacs.specs.Gathering.{gathered_rows, found_fault, gathered}
use Rattle.dimacs.proofs.Tested.{by_test}

some_literal : (c : List ℤ) → eqb (length (gathered [] c)) 0 ≡ false → 1 ≤ length c
unfolding gathered
some_literal [] e = clash refl e
some_literal (l ∷ ls) e = omega arith

-- it has literals, in range and of few symbols, and there is room for its rows, and a number for it
pub record Faultless (S used rules lent : ℕ) (c : List ℤ) : Type 0 where
  pub range : all (in_range S) c ≡ true
  pub few : length (gathered [] c) ≤ most_literals
  pub some : 1 ≤ length c
  pub room : used + length (gathered_rows c) ≤ lent
  pub number : rules ≢ most_rules

pub faultless : (S used rules lent : ℕ) (c : List ℤ) → found_fault S used rules lent c ≡ Ok tt → Faultless S used rules lent c
faultless S used rules lent c e =
    let size = length (gathered [] c) in
    by_test (all (in_range S) c)
    (λ r. by_test (leb size most_literals)
    (λ f. by_test (eqb size 0) (λ n. refused_not_done (rw (r, f, n) at e))
    (λ n. by_test (fits used rules lent (gathered_rows c))
    (λ l.
    let both = fits_facts used rules lent (gathered_rows c) l in
    record { range = r; few = leb-true size most_literals f; some = some_literal c n; room = both.0; number = both.1 })
    (λ l. refused_not_done (rw (r, f, n, l) at e))))
    (λ f. refused_not_done (rw (r, f) at e))) (λ r. refused_not_done (rw r at e))
