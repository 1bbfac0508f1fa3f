-- `one_less_hit` meets its contract.
use Rattle.meaning.proofs.Kit.{◌≡◌, ◌∙◌, sym, ap, refl, ◌<◌, ℕ, ◌-◌, ◌+◌, ◌^◌, ◌++◌, arith, take}
use Rattle.meaning.specs.Clauses.{lone}
use Rattle.implicates.specs.Numbers.{number, clause_at}
use Rattle.implicates.specs.Hits.{marked}
use Rattle.implicates.proofs.Digits.{Turn, number_first, drop_first, next_rest}
use Rattle.implicates.proofs.Numbers.{clauses_more}
use Rattle.implicates.proofs.Lone.{hits_after, without_below, next_weight, next_out_lem, found, missed}
use Rattle.implicates.proofs.hits.one_less_hit.Goals.{then-digit-lt2+else-not-hits-c, else-digit-lt2}
use Rattle.implicates.proofs.hits.one_less_hit.Goals as goal

-- the turn at which so many symbols are passed
turn_at : {n c rest passed : ℕ} → c < 3 ^ n → passed < n → rest ≡ number (take (n - passed) (clause_at n c)) → Turn n c rest (n - passed)
turn_at h some left = record { known = h; some = omega arith; low = omega arith; left = left }

pub loop-init : goal.loop-init
loop-init c =
    let n = c.args.n in
    let all : n - 0 ≡ n = omega arith in
    let none : n - n ≡ 0 = omega arith in
    rw (all, none) (record {
      left = number_first n c.args.c c.requires.0;
      weighs = refl;
      after = ap (lone (λ u. marked c.args.hits.now (take n (clause_at n c.args.c) ++ u))) (drop_first n c.args.c c.requires.0);
    })

pub overflow_mul-digit : goal.overflow_mul-digit
overflow_mul-digit c = omega (arith, without_below (turn_at c.requires.0 c.loop-test.true c.loop.invariant.left) c.loop.invariant.weighs)

pub overflow_add-c : goal.overflow_add-c
overflow_add-c c = omega (arith, without_below (turn_at c.requires.0 c.loop-test.true c.loop.invariant.left) c.loop.invariant.weighs)

pub bounds-hits-c : goal.bounds-hits-c
bounds-hits-c c =
    omega (arith, without_below (turn_at c.requires.0 c.loop-test.true c.loop.invariant.left) c.loop.invariant.weighs, c.requires.1)

pub returns-then-not-hits-c : goal.returns-then-not-hits-c
returns-then-not-hits-c c =
    missed (turn_at c.requires.0 c.loop-test.true c.loop.invariant.left) c.loop.invariant.weighs c.args.hits.now c.if-digit-lt2.true c.if-not-hits-c.true

pub overflow_mul-weight : goal.overflow_mul-weight
overflow_mul-weight c =
    let n = c.args.n in
    let t = turn_at c.requires.0 c.loop-test.true c.loop.invariant.left in
    omega (arith, next_weight t c.loop.invariant.weighs, clauses_more (n - (n - c.loop.counter - 1)) n (omega arith))

pub loop-preserved : goal.loop-preserved
loop-preserved c =
    let n = c.args.n in
    let hits = c.args.hits.now in
    let i = c.loop.invariant in
    let next : n - (c.loop.counter + 1) ≡ n - c.loop.counter - 1 = omega arith in
    let t = turn_at c.requires.0 c.loop-test.true i.left in
    rw next (record {
      left = next_rest t;
      weighs = next_weight t i.weighs;
      after = elim c.if-digit-lt2.branch [
        | then-digit-lt2+else-not-hits-c w ↦ found t i.weighs hits w.if-digit-lt2.true w.if-not-hits-c.false i.after
        | else-digit-lt2 w ↦ next_out_lem t i.weighs hits w.if-digit-lt2.false ∙ i.after
      ];
    })

pub returns : goal.returns
returns c =
    let a = c.args in
    let none : a.n - c.loop.counter ≡ 0 = omega arith in
    sym (ap (hits_after a.hits.now a.n a.c) (sym none) ∙ c.loop.invariant.after)
