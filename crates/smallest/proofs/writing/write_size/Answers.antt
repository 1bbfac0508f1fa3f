-- A set that is listed and has k candidates is written, and any other is passed.
use Rattle.std.proofs.Common.{◌≡◌, ◌∙◌, sym, ap, List, [], ◌∷◌, ◌++◌, ◌≤◌, ℕ, ◌<◌, ◌+◌, ◌^◌, ◌&&◌, true, eqb, arith, length, length-append}
use Rattle.meaning.proofs.Kit.{take_all}
use Rattle.meaning.specs.BySize.{of_size}
use Rattle.candidates.specs.Sets.{size, sets_of}
use Rattle.meaning.proofs.BySize.{length_from, of_size_le, one_in, one_out}
use Rattle.smallest.specs.declared.search.Note.{Note}
use Rattle.smallest.specs.Search.{listed_in, listed_of_size}
use Rattle.smallest.proofs.Turns.{Stands, stands_none, stands_one, stands_same, stands_more, stands_long, up_to, up_to_next}
use Rattle.smallest.proofs.writing.write_size.Goals as goal
use Rattle.smallest.proofs.writing.write_size.Goals.{then-listed_of_size, else-listed_of_size}

-- there is room for one more where it is listed
room : (notes : List Note) (n k set : ℕ) {before out : List ℕ} {at next : ℕ} → set < 2 ^ n → Stands before at (up_to notes n k set) out next
    → eqb (size n set) k && listed_in notes set ≡ true → at + length (listed_of_size notes n k) ≤ length before → next < length out
room notes n k set less s listed fits =
    let one = one_in (size n) (listed_in notes) k set listed in
    let more = ap length (up_to_next notes n k set less ∙ ap (λ (ms : List ℕ). up_to notes n k set ++ ms) one) in
    omega (
      arith,
      more,
      length-append (up_to notes n k set) (set ∷ []),
      of_size_le (size n) (listed_in notes) (sets_of n) k (set + 1),
      fits,
      s.ends,
      stands_long s,
    )

pub loop-set-init : goal.loop-set-init
unfolding of_size
loop-set-init c = stands_none c.args.out.now c.args.at

there : (c : goal.Then-listed_of_size) → c.loop-set.next < length c.loop-set.out
there c =
    let a = c.args in
    room a.notes.now a.n a.k c.loop-set.set (omega (arith, c.requires.n_le_most_candidates.1)) c.loop-set.invariant
    (sym c.listed_of_size.ensures ∙ c.if-listed_of_size.true) c.requires.room

pub offset_bounds-out-next : goal.offset_bounds-out-next
offset_bounds-out-next c = omega (arith, there c)

pub bounds-out-next : goal.bounds-out-next
bounds-out-next c = there c

pub overflow_add-next : goal.overflow_add-next
overflow_add-next c = omega (arith, there c)

pub loop-set-preserved : goal.loop-set-preserved
loop-set-preserved c =
    let a = c.args in
    let l = c.loop-set in
    let next = up_to_next a.notes.now a.n a.k l.set (omega (arith, c.requires.n_le_most_candidates.1)) in
    elim c.if-listed_of_size.branch [
      | then-listed_of_size w ↦
          stands_more l.invariant next
          (rw (one_in (size a.n) (listed_in a.notes.now) a.k l.set (sym c.listed_of_size.ensures ∙ w.if-listed_of_size.true), w.out-is, w.next-is)
          (stands_one l.out l.next l.set))
      | else-listed_of_size w ↦
          stands_more l.invariant next
          (rw (one_out (size a.n) (listed_in a.notes.now) a.k l.set (sym c.listed_of_size.ensures ∙ w.if-listed_of_size.false), w.out-is, w.next-is)
          (stands_none l.out l.next))
    ]

-- all of them are among the sets below the last
pub returns : goal.returns
returns c =
    let a = c.args in
    let l = c.loop-set in
    let all = take_all l.set (sets_of a.n) (omega (arith, length_from 0 (2 ^ a.n), c.requires.n_le_most_candidates.1)) in
    let w = stands_same l.invariant (ap (λ (ms : List ℕ). of_size (size a.n) (listed_in a.notes.now) ms a.k) all) in
    record { out_after = w.written; value = w.ends }
