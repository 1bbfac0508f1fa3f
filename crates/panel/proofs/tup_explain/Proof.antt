-- `tup_explain` meets its contract: the numbers are the board's, and the literals those of the part that the board's `explain` shows.
use Rattle.meaning.proofs.Kit.{◌≡◌, ◌∙◌, sym, ap, ⊎_elim, ◌≤◌, ◌-◌, ◌+◌, ◌*◌, arith, length, to_z-of_z, rules}
use Rattle.literals.specs.Row.{width, most_literals, numbers_at}
use Rattle.board.specs.Asking.{explain_numbers, explain_part}
use Rattle.board.specs.declared.asking.Reason.{Reason}
use Rattle.std.specs.Prelude.{Ok}
use Rattle.literals.proofs.Counting.{count_few}
use Rattle.board.proofs.Explaining.{nothing_shown, row_used, row_shown}
use Rattle.panel.specs.Crossing.{board_in}
use Rattle.panel.proofs.tup_explain.Statement.{statement}
use Rattle.panel.proofs.tup_explain.Tie as tie

-- the numbers of the literal that was given
numbers : (c : tie.After-explain_numbers-reason)
    → c.explain_numbers-reason.result ≡ explain_numbers c.args.table.now (board_in c.args.given) c.args.furnace c.args.l
numbers c = rw (← c.board_in.ensures, ← to_z-of_z c.ranges.l) c.explain_numbers-reason.ensures

-- where the call is done
done : (c : tie.In-Ok) → (explain_numbers c.args.table.now (board_in c.args.given) c.args.furnace c.args.l).outcome ≡ Ok tt
done c = sym (ap (λ (r : Reason). r.outcome) (numbers c.before)) ∙ c.in-Ok.is

-- the row is in the table
inside : (c : tie.In-Ok) → width * c.explain_numbers-reason.result.row + most_literals ≤ length c.args.table.now
inside c =
    let used = row_used c.args.table.now (board_in c.args.given) c.args.furnace c.args.l (done c) in
    omega (arith, ap (λ (r : Reason). r.row) (numbers c.before), used.0, used.2)

cast_literals : tie.Need-overflow_cast-literals
cast_literals c = omega (arith, c.literal_count.ensures, count_few c.args.table.now (width * c.explain_numbers-reason.result.row))

-- the literals that are counted are those of the part
count_is : (c : tie.After-literal_count) →
    let part = explain_part c.args.table.now (board_in c.args.given) c.args.furnace c.args.l in
    c.literal_count.result ≡ part.stop - part.start
unfolding numbers_at
count_is c =
    let t = c.before.before in
    rw (row_shown _ _ _ _ (done t), ← numbers t.before, ← c.literal_count.ensures) (omega arith)

literals_are : (c : tie.Joined-outcome) →
    let part = explain_part c.args.table.now (board_in c.args.given) c.args.furnace c.args.l in
    c.match-outcome.literals ≡ part.stop - part.start
literals_are c =
    ⊎_elim
    (λ w. w.literals-is ∙ count_is (record {
      before = record { before = record { before = c.before; in-Ok = w.in-Ok }; struct_known-1 = w.struct_known-1 };
      literal_count = w.literal_count;
    }))
    (λ w. w.literals-is ∙ rw (nothing_shown _ _ _ _ (sym (ap (λ (r : Reason). r.outcome) (numbers c.before)) ∙ w.in-Err.is)))
    c.match-outcome.branch-raw

pub tup_explain_spec : {M : Type 1} → statement M
tup_explain_spec = tie.close (tie.spec
    (λ c κs. search rules) (λ c κs. search rules) (λ c. search rules) (λ c. search rules) (λ c. search rules) (λ c κs. inside c.before)
    cast_literals (λ c. search rules) (λ c κs. search rules)
    (λ c. rw (← numbers c.before.before, ← literals_are c.before, c.number_of.ensures)))
