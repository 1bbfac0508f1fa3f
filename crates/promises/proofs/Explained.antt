-- Demand 2, what explain tells: the rank, the row number, the number of that row's rule, and the literals of that row.
use Rattle.meaning.proofs.Kit.{◌≡◌, ◌∙◌, sym, ap, refl, List, [], ◌∷◌, ◌≤◌, ℕ, ◌<◌, ◌-◌, ◌+◌, suc, ◌*◌, zero, arith, ℤ, nat_abs, length, get_or, drop}
use Rattle.meaning.proofs.Kit.{take, ne_eqb, eq-eqb}
use Rattle.literals.specs.Literal.{place_of}
use Rattle.literals.specs.Row.{width, most_literals, numbers_at, decode}
use Rattle.literals.proofs.Decoding.{rows_at}
use Rattle.board.specs.Faults.{first_fault}
use Rattle.board.specs.Ranking.{rows_on}
use Rattle.board.specs.Asking.{explain_faults, explain_numbers, explain_part}
use Rattle.std.specs.Prelude.{Ok}
use Rattle.board.proofs.Answered.{none_given}
use Rattle.board.proofs.Explaining.{row_used}
use Rattle.promises.specs.Calls.{explains, World, front, faults, outcome}
use Rattle.promises.specs.Demands.{rows_of_world, support_in, ExplainTells}
use Rattle.promises.proofs.Refusals.{cases}
use Rattle.promises.proofs.Lent.{numbers_lent, rule_lent}
use Rattle.promises.proofs.Told.{rows_read}

-- as many numbers from the front as literals are decoded decode to the same literals
decode_part : (n : ℕ) (ls : List ℤ) → decode (take (length (decode (take n ls))) ls) ≡ decode (take n ls)
unfolding decode
decode_part zero ls = refl
decode_part (suc n) [] = refl
decode_part (suc n) (l ∷ ls) = go (nat_abs l) refl (decode_part n ls)
  where
    go : (a : ℕ) → nat_abs l ≡ a → decode (take (length (decode (take n ls))) ls) ≡ decode (take n ls)
        → decode (take (length (decode (l ∷ take n ls))) (l ∷ ls)) ≡ decode (l ∷ take n ls)
    go zero z same = rw (eq-eqb (nat_abs l) 0 z)
    go (suc a) z same = let some = ne_eqb (nat_abs l) 0 (λ q. omega (arith, q)) in rw (some, some) (ap (λ (row : List ℕ). place_of l ∷ row) same)

-- the part of a table where a row's literals stand
decode_span : (table : List ℤ) (r : ℕ)
    → decode (take (width * r + length (decode (numbers_at table r)) - width * r) (drop (width * r) table)) ≡ decode (numbers_at table r)
unfolding numbers_at
decode_span table r =
    let count = length (decode (take most_literals (drop (width * r) table))) in
    let long : width * r + count - width * r ≡ count = omega arith in
    rw long (decode_part most_literals (drop (width * r) table))

module _ (w : World) (lent furnace : ℕ) (l : ℤ) (e : outcome w (explains lent furnace l) ≡ Ok tt) where
  done : first_fault (faults w (explains lent furnace l)) ≡ Ok tt
  done = cases w (explains lent furnace l) e

  rows : rows_on (front w lent) w.board ≡ rows_of_world w
  unfolding faults explain_faults
  rows = rows_read w lent (none_given (explain_faults (front w lent) w.board furnace l) done 0)

  row_is : (explain_numbers (front w lent) w.board furnace l).row ≡ support_in w furnace (place_of l)
  unfolding faults explain_numbers
  row_is = rw (done, rows)

  pub used : (support_in w furnace (place_of l) < w.board.rows) × (width * w.board.rows ≤ length (front w lent))
  unfolding faults explain_numbers
  used = let r = row_used (front w lent) w.board furnace l (rw done) in (omega (arith, r.0, row_is), r.2)

  part_is : let span = explain_part (front w lent) w.board furnace l in
      decode (take (span.stop - span.start) (drop span.start w.table)) ≡ get_or (rows_of_world w) (support_in w furnace (place_of l)) []
  unfolding faults explain_part
  part_is =
      rw (done, rows, numbers_lent lent w.board.rows w.table used.1 (support_in w furnace (place_of l)) used.0)
      (decode_span w.table (support_in w furnace (place_of l))
      ∙ sym (rows_at w.board.rows w.table (support_in w furnace (place_of l)) used.0))

pub explain_tells : ExplainTells
unfolding faults explain_numbers
explain_tells w lent furnace l e =
    let inside = used w lent furnace l e in
    record {
      rank = rw (done w lent furnace l e, rows w lent furnace l e);
      row = row_is w lent furnace l e;
      rule =
          rw (done w lent furnace l e, rows w lent furnace l e)
          (rule_lent lent w.board.rows w.table inside.1 (support_in w furnace (place_of l)) inside.0);
      part = part_is w lent furnace l e;
    }
