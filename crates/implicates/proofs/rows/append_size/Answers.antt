-- `append_size` meets its contract.
use Rattle.meaning.proofs.Kit.{◌≡◌, ap, refl, Bool, List, [], ◌∷◌, ◌++◌, ◌≤◌, ℕ, ◌<◌, ◌+◌, ◌*◌, ◌^◌, arith, ℤ, length, take, take_all}
use Rattle.meaning.specs.BySize.{of_size}
use Rattle.meaning.specs.Clauses.{Digit, clauses, size}
use Rattle.meaning.proofs.BySize.{of_size_more, of_size_le}
use Rattle.literals.specs.Row.{width}
use Rattle.implicates.specs.Numbers.{clause_at}
use Rattle.implicates.specs.Hits.{marked}
use Rattle.implicates.proofs.Numbers.{length_clauses, clause_at_lem}
use Rattle.implicates.proofs.Turns.{next_room, next_stands, stands_same, skipped}
use Rattle.implicates.proofs.rows.append_size.Goals as goal

-- those that are chosen of the first c
abbrev first : List Bool → (n k c : ℕ) → List (List Digit)
first primes n k c = of_size size (marked primes) (take c (clauses n)) k

-- for which there is room
room : (table : List ℤ) (row : ℕ) (primes : List Bool) (n k c : ℕ) → width * (row + length (of_size size (marked primes) (clauses n) k)) ≤ length table
    → width * (row + length (first primes n k c)) ≤ length table
room table row primes n k c h = omega (arith, h, of_size_le size (marked primes) (clauses n) k c)

-- the next clause is the one numbered c
more : (primes : List Bool) (n k c : ℕ) → c < 3 ^ n → first primes n k (c + 1) ≡ first primes n k c ++ of_size size (marked primes) (clause_at n c ∷ []) k
more primes n k c h =
    rw (← clause_at_lem n c h) (of_size_more size (marked primes) (clauses n) k c [] (omega (arith, length_clauses n)))

pub loop-c-init : goal.loop-c-init
unfolding of_size
loop-c-init c = skipped refl

pub append_one-next-requires-clause-room : goal.append_one-next-requires-clause-room
append_one-next-requires-clause-room c =
    let a = c.args in
    let l = c.loop-c in
    next_room _ l.invariant (more a.primes.now a.n a.k l.c (omega arith)) (room a.table.now a.row a.primes.now a.n a.k (l.c + 1) c.requires.room)

pub loop-c-preserved : goal.loop-c-preserved
loop-c-preserved c =
    let a = c.args in
    let l = c.loop-c in
    let e = c.append_one-next.ensures in
    next_stands _ l.invariant (more a.primes.now a.n a.k l.c (omega arith)) (room a.table.now a.row a.primes.now a.n a.k (l.c + 1) c.requires.room)
    record { rows = e.table_after; count = e.value }

pub returns : goal.returns
returns c =
    let a = c.args in
    let l = c.loop-c in
    let all = take_all l.c (clauses a.n) (omega (arith, length_clauses a.n)) in
    let s = stands_same (ap (λ (vs : List (List Digit)). of_size size (marked a.primes.now) vs a.k) all) l.invariant in
    record { table_after = s.rows; value = s.count }
