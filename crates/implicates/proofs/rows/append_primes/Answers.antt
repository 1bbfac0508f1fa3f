-- `append_primes` meets its contract.
use Rattle.meaning.proofs.Kit.{◌≡◌, ap, refl, Bool, List, ◌≤◌, ℕ, ◌+◌, suc, ◌*◌, add-one, arith, ℤ, length}
use Rattle.meaning.specs.BySize.{below_size}
use Rattle.meaning.specs.Clauses.{Digit, clauses, size}
use Rattle.meaning.proofs.BySize.{below_size_le}
use Rattle.literals.specs.Row.{width}
use Rattle.implicates.specs.Hits.{marked}
use Rattle.implicates.proofs.Turns.{next_room, next_stands, stands_same, skipped}
use Rattle.implicates.proofs.rows.append_primes.Goals as goal

-- those of fewer than k literals
abbrev fewer : List Bool → (n k : ℕ) → List (List Digit)
fewer primes n k = below_size size (marked primes) (clauses n) k

-- for which there is room
room : (table : List ℤ) (row : ℕ) (primes : List Bool) (n k : ℕ) → k ≤ n + 1 → width * (row + length (fewer primes n (suc n))) ≤ length table
    → width * (row + length (fewer primes n k)) ≤ length table
room table row primes n k few h = omega (arith, h, below_size_le size (marked primes) (clauses n) k (suc n) (omega arith))

pub loop-k-init : goal.loop-k-init
loop-k-init c = skipped refl

pub append_size-next-requires-clause-room : goal.append_size-next-requires-clause-room
append_size-next-requires-clause-room c =
    let a = c.args in
    let l = c.loop-k in
    next_room _ l.invariant refl (room a.table.now a.row a.primes.now a.n (suc l.k) (omega arith) c.requires.room)

-- one size more
pub loop-k-preserved : goal.loop-k-preserved
loop-k-preserved c =
    let a = c.args in
    let l = c.loop-k in
    let e = c.append_size-next.ensures in
    rw (add-one l.k)
    (next_stands _ l.invariant refl (room a.table.now a.row a.primes.now a.n (suc l.k) (omega arith) c.requires.room)
    record { rows = e.table_after; count = e.value })

-- the last size
pub returns-2 : goal.returns-2
returns-2 c =
    let a = c.args in
    let l = c.loop-k in
    let e = c.append_size-next.ensures in
    let last : l.k ≡ a.n = omega arith in
    let more = next_stands _ l.invariant refl (room a.table.now a.row a.primes.now a.n (suc l.k) (omega arith) c.requires.room)
    record { rows = e.table_after; count = e.value } in
    let s = stands_same (ap (λ (k : ℕ). fewer a.primes.now a.n (suc k)) last) more in
    record { table_after = s.rows; value = s.count }
