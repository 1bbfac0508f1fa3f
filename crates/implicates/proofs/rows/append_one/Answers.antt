-- `append_one` meets its contract: a clause that is not chosen leaves the table as it is.
use Rattle.meaning.proofs.Kit.{◌≡◌, ◌∙◌, sym, ap, Bool, List, [], ◌∷◌, ◌≤◌, ◌<◌, ◌^◌, ℕ, ◌+◌, ◌*◌, arith, length, get_or, false, true, w16, to_z_pos}
use Rattle.meaning.specs.BySize.{of_size}
use Rattle.meaning.specs.Clauses.{Digit, size}
use Rattle.meaning.proofs.BySize.{one_other, one_failed, one_kept}
use Rattle.literals.specs.Row.{width}
use Rattle.implicates.specs.Numbers.{clause_at}
use Rattle.implicates.specs.Hits.{marked}
use Rattle.implicates.proofs.Numbers.{marked_at}
use Rattle.implicates.proofs.Turns.{Stands, skipped, one_row}
use Rattle.implicates.proofs.rows.append_one.Goals as goal

-- what is chosen of the clause numbered c
abbrev picked : (primes : List Bool) (n k c : ℕ) → List (List Digit)
picked primes n k c = of_size size (marked primes) (clause_at n c ∷ []) k

-- the clause is, where it is marked and of that size
picked_it : (primes : List Bool) (n k c : ℕ) {count : ℕ} → c < 3 ^ n → count ≡ size (clause_at n c) → count ≡ k → get_or primes c false ≡ true
    → picked primes n k c ≡ clause_at n c ∷ []
picked_it primes n k c low is same e = one_kept size (marked primes) k (clause_at n c) (sym is ∙ same) (marked_at primes n c low ∙ e)

pub returns-then-not-primes-c : goal.returns-then-not-primes-c
returns-then-not-primes-c c =
    let a = c.args in
    let clause = clause_at a.n a.c in
    let failed = marked_at a.primes.now a.n a.c c.requires.n_bound.3 ∙ c.if-not-primes-c.true in
    let w : Stands a.table.now a.row a.rule a.symbols.now (picked a.primes.now a.n a.k a.c) _ _ =
    skipped (one_failed size (marked a.primes.now) a.k clause failed) in
    record { table_after = w.rows; value = w.count }

pub returns-then-literal_count-k : goal.returns-then-literal_count-k
returns-then-literal_count-k c =
    let a = c.args in
    let clause = clause_at a.n a.c in
    let w : Stands a.table.now a.row a.rule a.symbols.now (picked a.primes.now a.n a.k a.c) _ _ =
    skipped (one_other size (marked a.primes.now) a.k clause (λ e. c.if-literal_count-k.true (c.literal_count.ensures ∙ e))) in
    record { table_after = w.rows; value = w.count }

pub slice_bounds-write_row-end : goal.slice_bounds-write_row-end
slice_bounds-write_row-end c =
    let a = c.args in
    let it = picked_it a.primes.now a.n a.k a.c c.requires.n_bound.3 c.literal_count.ensures c.if-literal_count-k.false c.if-not-primes-c.false in
    omega (arith, c.requires.room, ap length it)

pub bounds-table-at : goal.bounds-table-at
bounds-table-at c =
    let a = c.args in
    let it = picked_it a.primes.now a.n a.k a.c c.requires.n_bound.3 c.literal_count.ensures c.if-literal_count-k.false c.if-not-primes-c.false in
    omega (arith, c.requires.room, ap length it, c.table-1.given.1)

pub returns : goal.returns
returns c =
    let a = c.args in
    let it = picked_it a.primes.now a.n a.k a.c c.requires.n_bound.3 c.literal_count.ensures c.if-literal_count-k.false c.if-not-primes-c.false in
    let room : width * (a.row + 1) ≤ length a.table.now = omega (arith, c.requires.room, ap length it) in
    let w : Stands a.table.now a.row a.rule a.symbols.now (picked a.primes.now a.n a.k a.c) _ _ =
    one_row room it c.write_row.ensures (to_z_pos w16 (omega (arith, c.requires.n_bound.5))) in
    record { table_after = w.rows; value = w.count }
