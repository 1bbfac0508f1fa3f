-- `literal_count` meets its contract.
use Rattle.meaning.proofs.Kit.{◌≡◌, ◌∙◌, sym, ap, ◌-◌, ◌+◌, ℕ, arith, drop, length-drop}
use Rattle.meaning.specs.Clauses.{size}
use Rattle.meaning.proofs.Clauses.{size_le}
use Rattle.implicates.specs.Numbers.{clause_at}
use Rattle.implicates.proofs.Numbers.{length_clause_at}
use Rattle.implicates.proofs.Digits.{Turn, number_first, drop_first, next_rest}
use Rattle.implicates.proofs.Putting.{after_literal, after_out}
use Rattle.implicates.proofs.rows.literal_count.Goals.{then-rest-lt2, else-rest-lt2}
use Rattle.implicates.proofs.rows.literal_count.Goals as goal

pub loop-init : goal.loop-init
loop-init c =
    let n = c.args.n in
    let all : n - 0 ≡ n = omega arith in
    record { left = rw all (number_first n c.args.c c.requires); counted = rw all (sym (ap size (drop_first n c.args.c c.requires))) }

pub overflow_add-count : goal.overflow_add-count
overflow_add-count c =
    let n = c.args.n in
    let v = clause_at n c.args.c in
    let k = n - c.loop.counter in
    omega (arith, c.loop.invariant.counted, size_le (drop k v), length-drop k v, length_clause_at n c.args.c)

pub loop-preserved : goal.loop-preserved
loop-preserved c =
    let n = c.args.n in
    let k = n - c.loop.counter in
    let next : n - (c.loop.counter + 1) ≡ k - 1 = omega arith in
    let t : Turn n c.args.c c.loop.rest k = record { known = c.requires; some = omega arith; low = omega arith; left = c.loop.invariant.left } in
    rw next (record {
      left = next_rest t;
      counted = elim c.if-rest-lt2.branch [
        | then-rest-lt2 w ↦ omega (arith, c.loop.invariant.counted, w.count-is, after_literal t w.if-rest-lt2.true)
        | else-rest-lt2 w ↦ omega (arith, c.loop.invariant.counted, w.count-is, after_out t w.if-rest-lt2.false)
      ];
    })

pub returns : goal.returns
returns c =
    let n = c.args.n in
    let none : n - c.loop.counter ≡ 0 = omega arith in
    c.loop.invariant.counted ∙ ap (λ (j : ℕ). size (drop j (clause_at n c.args.c))) none
