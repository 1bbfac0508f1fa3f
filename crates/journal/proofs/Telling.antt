-- One command of a run: its line goes into the buffer, and the text that is told stays the same.
use Rattle.meaning.proofs.Kit.{◌≡◌, ◌∙◌, ap, true, false, List, ◌++◌, append_assoc, ◌≤◌, ℕ, ◌<◌, ◌-◌, ◌+◌, add-one, arith, ℤ, length, drop, take}
use Rattle.meaning.proofs.Kit.{length-append, length-drop, length-take-le, take_at, drop-drop, sets-eq, ltb-true, not, ltb, not-true}
use borrow.Rule.Slice.PartMut.{mid_of, mid_len, post_of, put_mid, same_len_mid}
use Rattle.meaning.proofs.Tests.{both_true}
use Rattle.formula.proofs.Parts.{onward, onward_drop}
use Rattle.spelling.specs.Text.{Put}
use Rattle.lines.specs.Commands.{Did, said, Said, said_table}
use Rattle.lines.specs.declared.saying.Progress.{Progress}
use Rattle.lines.proofs.Bodies.{said_used}
use Rattle.spelling.proofs.Pieces.{put_length}
use Rattle.lines.proofs.Runs.{lines_step}
use Rattle.journal.specs.Told.{left, more, Runs, told}
use Rattle.journal.specs.declared.Run.{Run}

-- what is put into the buffer from place `at` on stands after what was there
put_take : (out : List ℕ) (at next : ℕ) (part text : List ℕ) → at ≤ length out → Put (mid_of at (length out - at) out) part 0 text next
    → next ≤ length out - at → take (at + next) (put_mid at (length out - at) out part) ≡ take at out ++ text
put_take out at next part text h p room =
    let mid = mid_of at (length out - at) out in
    let rest = drop (0 + length text) mid in
    let post = post_of at (length out - at) out in
    let is : part ≡ text ++ rest = p.written ∙ sets-eq text mid 0 (omega (arith, p.ends, mid_len at (length out) out (omega arith))) in
    let whole : take at out ++ (part ++ post) ≡ (take at out ++ text) ++ (rest ++ post) = rw is (simp append_assoc) in
    rw whole
    (take_at (take at out ++ text) (rest ++ post) (at + next)
    (omega (arith, length-append (take at out) text, length-take-le at out h, p.ends)))

-- another command is to be carried out
pub goes : (run : Run) (input : List ℕ) → more run input ≡ true → (run.stops ≡ false) × (run.next < length input)
goes run input e =
    let b = both_true (not run.stops) (ltb run.next (length input)) e in
    (not-true run.stops b.0, ltb-true run.next (length input) b.1)

-- the run after a command
abbrev pub next_run : Run → Progress → Run
next_run run done = record {
  board = done.board;
  next = run.next + done.used;
  ordinal = run.ordinal + 1;
  stops = done.stops;
  filled = run.filled + done.written;
}

-- a command that was carried out, from what the step says
module _ (run : Run) (table : List ℤ) (input out : List ℕ) (is-on : more run input ≡ true) (runs : Runs run input)
    (room : run.filled + 256 ≤ length out) {done : Progress} {after : List ℤ} {part : List ℕ}
    (did : Did (said run.ordinal run.board table (onward run.next input)) done (mid_of run.filled (length out - run.filled) out) part 0)
    (wrote : after ≡ said_table run.board table (onward run.next input)) (short : done.written ≤ 256) where
  abbrev rest : List ℕ
  rest = drop run.next input

  rest_length : length rest ≡ length input - run.next
  rest_length = length-drop run.next input

  abbrev s : Said
  s = said run.ordinal run.board table rest

  did_rest : Did s done (mid_of run.filled (length out - run.filled) out) part 0
  did_rest = rw onward_drop at did

  used : (1 ≤ done.used) × (done.used ≤ length input - run.next)
  used =
      let u = said_used run.ordinal run.board table rest (omega (arith, rest_length, (goes run input is-on).1)) in
      (omega (arith, did_rest.used, u.0), omega (arith, did_rest.used, u.1, rest_length))

  pub next_runs : (run.next < (next_run run done).next) × Runs (next_run run done) input
      × ((next_run run done).filled ≤ length (put_mid run.filled (length out - run.filled) out part))
  next_runs =
      let u = used in
      let whole = same_len_mid run.filled (length out - run.filled) out part (put_length did.put) in
      let on = (goes run input is-on).1 in
      (omega (arith, u.0), record { inside = omega (arith, u.1, on); counted = omega (arith, runs.counted, u.0) }, omega (arith, whole))

  -- what is still to come begins with the line
  left_is : left run table input ≡ s.text ++ left (next_run run done) after input
  left_is =
      let on = goes run input is-on in
      rw on.0
      (lines_step (length input) run.ordinal run.board table rest (omega (arith, rest_length, on.1)) (omega (arith, rest_length))
      ∙ ap (λ (l : List ℕ). s.text ++ l) (rw (did_rest.stops, did_rest.board, did_rest.used, add-one, wrote, onward_drop, drop-drop)))

  pub next_told : told (next_run run done) after input (put_mid run.filled (length out - run.filled) out part) ≡ told run table input out
  next_told =
      rw (put_take out run.filled done.written part s.text (omega arith) did_rest.put (omega (arith, short)))
      (append_assoc (take run.filled out) s.text (left (next_run run done) after input) ∙ rw left_is)
