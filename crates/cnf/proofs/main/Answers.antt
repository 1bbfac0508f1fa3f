-- `main` is safe: a text that is made lies within the bytes lent for it, and few clauses come before one at fault.
use Rattle.std.proofs.Common.{sym, subst, Err, length, length-take-le}
use Rattle.cnf.proofs.Within.{Fits, Within, made_within}
use Rattle.cnf.proofs.main.Goals as goal

pub slice_bounds-out-end : goal.slice_bounds-out-end
slice_bounds-out-end c = subst (Fits _) c.in-Ok.is (subst Within (sym c.rewrite.ensures) (made_within _ _ _))

pub slice_bounds-write_all-end-in-Ok : goal.slice_bounds-write_all-end-in-Ok
slice_bounds-write_all-end-in-Ok c =
    sym (length-take-le _ _ (subst (Fits _) c.in-Ok.is (subst Within (sym c.rewrite.ensures) (made_within _ _ _))))

pub say_refusal-requires : goal.say_refusal-requires
say_refusal-requires c =
    let told = c.in-Err-Refused in
    let fits = subst (Fits _) told.is (subst Within (sym c.rewrite.ensures) (made_within _ _ _)) in
    rw told.before-is (subst (λ fault. Fits (length c.rewrite.new.out) (Err fault)) told.field-0-is fits)
