-- Places of a row put one further, so that there is room for one more.
use Rattle.meaning.proofs.Kit.{◌≡◌, List, ◌++◌, append_assoc, ◌≤◌, ℕ, ◌<◌, ◌-◌, ◌+◌, add-one, arith, length, get_or, drop}
use Rattle.meaning.proofs.Kit.{set, length-take-le, take, take-suc, set_at}
use Rattle.std.specs.List.{copy_within}
use Rattle.std.proofs.lemmas.Slice.{between_is}
use Rattle.dimacs.specs.Gathering.{put_at}

pub shift_put : (r : List ℕ) (count : ℕ) → count < length r → (j p : ℕ) → j ≤ count → set (copy_within r j count (j + 1)) j p ≡ put_at r count j p
shift_put r count fits j p h =
    let end : j + 1 + (count - j) ≡ count + 1 = omega arith in
    let first = take-suc r j 0 (omega arith) in
    let moved = between_is r j count in
    let rest = drop j (take count r) ++ drop (count + 1) r in
    rw (moved, end, add-one j, first, append_assoc, append_assoc)
    (set_at (take j r) (get_or r j 0) rest p j (length-take-le j r (omega arith)))
