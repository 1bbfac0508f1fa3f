-- `row_count` meets its contract: the marks are those of the clauses in the order of their numbers.
use Rattle.meaning.proofs.Kit.{◌≡◌, ◌∙◌, sym, ap, refl, List, [], ◌<◌, suc, arith, length, take_all}
use Rattle.meaning.specs.Tests.{keep}
use Rattle.meaning.specs.Clauses.{Digit, clauses, size}
use Rattle.meaning.proofs.BySize.{tally, count_turn, all_count}
use Rattle.meaning.proofs.Clauses.{clauses_length, size_le}
use Rattle.implicates.specs.Hits.{marked}
use Rattle.implicates.proofs.Numbers.{marked_at, length_clauses, clause_at_lem}
use Rattle.implicates.proofs.rows.row_count.Goals as goal
use Rattle.implicates.proofs.rows.row_count.Goals.{then-primes-c, else-primes-c}

pub loop-c-preserved : goal.loop-c-preserved
loop-c-preserved c =
    let primes = c.args.primes.now in
    let n = c.args.n in
    let l = c.loop-c in
    let h : l.c < length primes = omega (arith, c.loop-c-test.true) in
    let turn = count_turn (marked primes) (clauses n) l.c [] (omega (arith, length_clauses n, c.requires, h)) in
    let test = ap (marked primes) (clause_at_lem n l.c (omega (arith, c.requires, h))) ∙ marked_at primes n l.c (omega (arith, c.requires, h)) in
    elim c.if-primes-c.branch [
      | then-primes-c w ↦
          let one = ap tally (test ∙ w.if-primes-c.true) in
          (omega (arith, w.count-is, l.invariant.0), omega (arith, turn, one, w.count-is, l.invariant.1))
      | else-primes-c w ↦
          let none = ap tally (test ∙ w.if-primes-c.false) in
          (omega (arith, w.count-is, l.invariant.0), omega (arith, turn, none, w.count-is, l.invariant.1))
    ]

pub returns : goal.returns
returns c =
    let n = c.args.n in
    let l = c.loop-c in
    let p = marked c.args.primes.now in
    let all = take_all l.c (clauses n) (omega (arith, length_clauses n, c.loop-c-test.false, c.requires)) in
    l.invariant.1
    ∙ ap (λ (vs : List (List Digit)). length (keep p vs)) all
    ∙ sym (all_count size p (clauses n) (suc n) (λ v m. omega (arith, size_le v, clauses_length n v m)))
