-- `sorting::put_at` meets its contract.
use Rattle.std.proofs.Common.{◌∙◌, ap, ℕ, List, set}
use Rattle.dimacs.proofs.Shifting.{shift_put}
use Rattle.dimacs.proofs.sorting.put_at.Goals as goal

pub returns : goal.returns
returns c =
    let a = c.args in
    ap (λ (r : List ℕ). set r a.j a.p) c.copy_within.ensures.after ∙ shift_put a.row.now a.count c.requires.1 a.j a.p c.requires.0
