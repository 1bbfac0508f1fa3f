-- 02, Ticket 6: "Holding and withdrawing for one furnace change no answer of the other": two worlds that differ in the premises and the stack of one
-- furnace alone answer alike every call that does not name it, and stay such whatever is called.
use Rattle.meaning.proofs.Kit.{◌≡◌, ◌∙◌, sym, ap, refl, subst, ⊎_elim, ◌≢◌, true, false, Bool, cond, ◌&&◌, not, and-false, List, [], ◌∷◌, ℕ, arith, ℤ}
use Rattle.meaning.proofs.Kit.{drop, take, length, set, eqb-true, eqb-false}
use Rattle.meaning.specs.Tests.{all}
use Rattle.meaning.specs.Formulae.{Formula}
use Rattle.meaning.proofs.Tests.{true_or_false, clash}
use Rattle.literals.specs.Literal.{in_range, place_of}
use Rattle.literals.specs.Row.{rows_lent}
use Rattle.formula.specs.Parse.{whole_of}
use Rattle.board.specs.Rules.{bytes_faults, place_told, rows_of_bytes}
use Rattle.board.specs.Faults.{Outcome}
use Rattle.literals.specs.declared.refusal.Refusal.TheVariants.{BadBoard}
use Rattle.board.specs.Furnaces.{held_by, with_held}
use Rattle.board.specs.Faults.{premises_fit, good_board, Fault, first_fault}
use Rattle.board.specs.Changes.{opened, flag_faults, flag_changed}
use Rattle.board.specs.Rules.{rule_faults, ruled}
use Rattle.board.specs.Settling.{settle_faults, settle_outcome, settled_labels, settled_ranks, settled_supports}
use Rattle.board.specs.Asking.{ask_faults, asked, asked_whole, explain_faults, explain_numbers, explain_part}
use Rattle.board.specs.Grounds.{ground_faults, ground_outcome, ground_marks, blame_faults, blame_outcome, blame_marks}
use Rattle.board.specs.declared.Board.{Board}
use Rattle.std.specs.Prelude.{Ok, Err}
use Rattle.board.proofs.Goodness.{good_is, flag_fits}
use Rattle.board.proofs.TwoSets.{held_other}
use Rattle.stack.specs.Stacking.{stack_of, stacked, good_stacks}
use Rattle.stack.specs.Steps.{opened_with, withdraw_faults_with, withdrawn_with, push_faults, pushed, pop_faults, popped}
use Rattle.stack.specs.declared.Stack.{Stack}
use Rattle.stack.specs.declared.Stacks.{Stacks}
use Rattle.stack.proofs.Kept.{kept_good, stack_other}
use Rattle.positions.specs.Entering.{entry_faults, entered}
use Rattle.smallest.specs.Listing.{smallest_at, smallest_faults, smallest_outcome, smallest_answer, smallest_sets}
use Rattle.least.specs.Withdrawing.{least_at, least_faults, least_answer}
use Rattle.dimacs.specs.Reading.{read_faults, read_answer}
use Rattle.dimacs.specs.Writing.{text_on, write_faults, write_outcome, write_answer, write_bytes}
use Rattle.text.specs.Reading.{bytes_in, read_text_faults, read_text_outcome, read_text_answer, read_text_bytes}
use Rattle.text.specs.Adding.{text_refused, ruled_text}
use Rattle.text.specs.Writing.{write_text_faults, write_text_outcome, write_text_answer, write_text_bytes}
use Rattle.promises.specs.Calls.{Call, opens, adds, enters, holds, withdraws, pushes, pops, asks, asks_whole, explains, settles, grounds, blames}
use Rattle.promises.specs.Calls.{lists, asks_least, reads, writes, reads_text, adds_text, writes_text, of_change, of_addition, World, front, answer}
use Rattle.promises.specs.Calls.{outcome_of, outcome, after, run, not_open, names_furnace, changes_premises, without}
use Rattle.promises.specs.Demands.{Alike, FurnacesApart}
use Rattle.promises.proofs.Refusals.{done_or_refused, refused_same}
use Rattle.promises.proofs.Stacked.{Sound, sound_open, sound_after, sound_all}
use Rattle.promises.proofs.Changes.{flag_at, stack_at, Flagged}
use Rattle.promises.proofs.Tested.{Added}
use Rattle.promises.proofs.Moves.{Kind, opener, idle, flagger, adder, kind, Moves, opening, unmoved, one_flag, more_rules, moves}

-- ---- worlds that differ in the premises of one furnace

-- refusal 1 reads the premises of both furnaces, so that it has to be the same for both worlds whether they fit
record Same (furnace : ℕ) (v u : World) : Type 0 where
  alike : Alike furnace v u
  fit : premises_fit v.board ≡ premises_fit u.board

-- the record is tested before the board; 1 is for both
first_two : (board stacks : Bool) (rest : List Fault)
    → first_fault (record { given = not stacks; refusal = BadBoard } ∷ record { given = not board; refusal = BadBoard } ∷ rest)
    ≡ cond (board && stacks) (first_fault rest) (Err BadBoard)
first_two true true rest = refl
first_two true false rest = refl
first_two false true rest = refl
first_two false false rest = refl

module _ {f : ℕ} {v u : World} (s : Same f v u) (sound-v : Sound v) (sound-u : Sound u) where
  abbrev a : Alike f v u
  a = s.alike

  good : (lent : ℕ) → good_board (front v lent) v.board ≡ good_board (front u lent) u.board
  unfolding good_board
  good lent = rw (s.fit, a.symbols, a.rows, a.rules, a.table)

  -- where the board is good so is the record, in both worlds
  stacks_same : (lent : ℕ) → good_board (front v lent) v.board && good_stacks v.board v.stacks
      ≡ good_board (front u lent) u.board && good_stacks u.board u.stacks
  stacks_same lent =
      ⊎_elim
      (λ e. (let some = (good_is (front u lent) u.board e).some in
      rw (good lent, e, kept_good (sound-v (omega (arith, some, a.symbols))), kept_good (sound-u some))))
      (λ (e : good_board (front u lent) u.board ≡ false). rw (good lent, e))
      (true_or_false (good_board (front u lent) u.board))

  -- so a call that is lent the record is answered alike where the tests after these two are alike
  record_same : (lent : ℕ) (rest : World → List Fault) → rest v ≡ rest u
      → first_fault (record { given = not (good_stacks v.board v.stacks); refusal = BadBoard }
      ∷ record { given = not (good_board (front v lent) v.board); refusal = BadBoard } ∷ rest v)
      ≡ first_fault (record { given = not (good_stacks u.board u.stacks); refusal = BadBoard }
      ∷ record { given = not (good_board (front u lent) u.board); refusal = BadBoard } ∷ rest u)
  record_same lent rest same =
      first_two (good_board (front v lent) v.board) (good_stacks v.board v.stacks) (rest v)
      ∙ rw (stacks_same lent, same) (sym (first_two (good_board (front u lent) u.board) (good_stacks u.board u.stacks) (rest u)))

  -- what refuses a rule, by what it hangs on
  rule_fault : (lent : ℕ) (bytes : List ℕ)
      → first_fault (rule_faults (front v lent) v.board bytes) ≡ first_fault (rule_faults (front u lent) u.board bytes)
  unfolding rule_faults
  rule_fault lent bytes =
      let fault : Bool → ℕ → ℕ → ℕ → List ℤ → Outcome =
      λ g S used rules table. first_fault (record { given = not g; refusal = BadBoard } ∷ bytes_faults S used rules (rows_lent (take lent table)) bytes) in
      ap (λ (g : Bool). fault g v.board.symbols v.board.rows v.board.rules v.table) (good lent)
      ∙ ap (λ (S : ℕ). fault (good_board (front u lent) u.board) S v.board.rows v.board.rules v.table) a.symbols
      ∙ ap (λ (used : ℕ). fault (good_board (front u lent) u.board) u.board.symbols used v.board.rules v.table) a.rows
      ∙ ap (λ (rules : ℕ). fault (good_board (front u lent) u.board) u.board.symbols u.board.rows rules v.table) a.rules
      ∙ ap (λ (table : List ℤ). fault (good_board (front u lent) u.board) u.board.symbols u.board.rows u.board.rules table) a.table

  rule_same : (lent : ℕ) (bytes : List ℕ)
      → let x = ruled (front v lent) v.board bytes in let y = ruled (front u lent) u.board bytes in
      of_addition x.outcome x.place x.added ≡ of_addition y.outcome y.place y.added
  unfolding ruled
  rule_same lent bytes =
      ⊎_elim
      (λ (e : first_fault (rule_faults (front u lent) u.board bytes) ≡ Ok tt).
      rw (rule_fault lent bytes, e) (ap (λ (S : ℕ). of_addition (Ok tt) (place_told (Ok tt) (whole_of S bytes)) (length (rows_of_bytes S bytes))) a.symbols))
      (λ r. rw (rule_fault lent bytes, r.1) (ap (λ (S : ℕ). of_addition (Err r.0) (place_told (Err r.0) (whole_of S bytes)) 0) a.symbols))
      (done_or_refused (first_fault (rule_faults (front u lent) u.board bytes)))

  same_range : (ls : List ℤ) → all (in_range v.board.symbols) ls ≡ all (in_range u.board.symbols) ls
  same_range ls = ap (λ (S : ℕ). all (in_range S) ls) a.symbols

  -- the same answer to every call that does not name the furnace
  same_answer : (c : Call) → names_furnace f c ≡ false → answer v c ≡ answer u c
  unfolding answer opened_with flag_changed flag_faults withdraw_faults_with withdrawn_with stacked push_faults pushed pop_faults popped asked asked_whole
      ask_faults explain_numbers explain_part explain_faults settle_outcome settled_labels settled_ranks settled_supports settle_faults ground_outcome
      ground_marks
      ground_faults blame_outcome blame_marks blame_faults smallest_answer smallest_sets smallest_outcome smallest_faults smallest_at least_answer least_faults
      least_at entered entry_faults read_answer read_faults write_answer write_bytes write_outcome write_faults text_on read_text_answer read_text_bytes
      read_text_outcome read_text_faults ruled_text write_text_answer write_text_bytes write_text_outcome write_text_faults
  same_answer (opens S) n = refl
  same_answer (adds lent bytes) n = rule_same lent bytes
  same_answer (enters lent e) n =
      ⊎_elim
      (λ (d : first_fault (entry_faults (front u lent) u.board e) ≡ Ok tt). rw (good lent, a.symbols, a.rows, a.rules, a.table, d))
      (λ r. rw (good lent, a.symbols, a.rows, a.rules, a.table) (rw r.1))
      (done_or_refused (first_fault (entry_faults (front u lent) u.board e)))
  same_answer (holds lent g l) n = rw (good lent, a.premises g (eqb-false g f n), a.symbols)
  same_answer (withdraws lent g l) n =
      let apart = eqb-false g f n in
      ap of_change
      (record_same lent (λ w. drop 2 (withdraw_faults_with (front w lent) w.board w.stacks g l))
      (rw (a.premises g apart, a.stack g apart, a.symbols)))
  same_answer (pushes lent g l) n =
      ap of_change
      (record_same lent (λ w. drop 2 (push_faults (front w lent) w.board w.stacks g l)) (rw (a.premises g (eqb-false g f n), a.symbols)))
  same_answer (pops lent g) n =
      ap of_change (record_same lent (λ w. drop 2 (pop_faults (front w lent) w.board w.stacks g)) (rw (a.stack g (eqb-false g f n))))
  same_answer (asks lent g l) n = rw (good lent, a.premises g (eqb-false g f n), a.symbols, a.rows, a.table)
  same_answer (asks_whole lent g l) n = rw (good lent, a.premises g (eqb-false g f n), a.symbols, a.rows, a.table)
  same_answer (explains lent g l) n = rw (good lent, a.premises g (eqb-false g f n), a.symbols, a.rows, a.table)
  same_answer (settles lent g labels ranks supports) n = rw (good lent, a.premises g (eqb-false g f n), a.symbols, a.rows, a.table)
  same_answer (grounds lent g l marks) n = rw (good lent, a.premises g (eqb-false g f n), a.symbols, a.rows, a.table)
  same_answer (blames lent g marks) n = rw (good lent, a.premises g (eqb-false g f n), a.symbols, a.rows, a.table)
  same_answer (lists lent cands l sets) n = rw (good lent, same_range (l ∷ cands), a.symbols, a.rows, a.table)
  same_answer (asks_least lent g cands) n = rw (good lent, a.premises g (eqb-false g f n), same_range cands, a.symbols, a.rows, a.table)
  same_answer (reads lent text) n =
      ⊎_elim
      (λ (d : first_fault (read_faults (front u lent) u.board text) ≡ Ok tt). rw (good lent, a.symbols, a.rows, a.rules, a.table, d))
      (λ r. rw (good lent, a.symbols, a.rows, a.rules, a.table) (rw r.1))
      (done_or_refused (first_fault (read_faults (front u lent) u.board text)))
  same_answer (writes lent out) n = rw (good lent, a.symbols, a.rows, a.table)
  same_answer (reads_text lent text out) n = rw (good lent, a.symbols)
  same_answer (adds_text lent text) n =
      ⊎_elim
      (λ (t : text_refused (front u lent) u.board text ≡ true). rw (good lent, t))
      (λ (t : text_refused (front u lent) u.board text ≡ false). rw (good lent, t) (rule_same lent (bytes_in text)))
      (true_or_false (text_refused (front u lent) u.board text))
  same_answer (writes_text lent bytes out) n = rw (good lent, a.symbols)

  same_outcome : (c : Call) → names_furnace f c ≡ false → outcome v c ≡ outcome u c
  unfolding outcome
  same_outcome c n = ap outcome_of (same_answer c n)

  -- ---- and so they stay, whatever is called that is no hold or withdraw for the furnace

  -- where the call adds rules
  same_added : {v' u' : World} {lent count count' : ℕ} {fs : List Formula} → Added v v' lent fs count → Added u u' lent fs count' → Same f v' u'
  unfolding premises_fit held_by
  same_added {lent = lent} {fs = fs} x y =
      record {
        alike =
            record {
              table = x.table ∙ rw (a.symbols, a.rows, a.rules, a.table, ← y.table);
              symbols = rw (x.board, y.board) a.symbols;
              rows = rw (x.board, y.board, a.symbols, a.rows, a.rules);
              rules = rw (x.board, y.board, a.rules);
              premises = λ g apart. rw (x.board, y.board) (a.premises g apart);
              stack = λ g apart. rw (x.stacks, y.stacks) (a.stack g apart);
            };
        fit = rw (x.board, y.board) s.fit;
      }

  -- where the table is as it was
  still : {bv bu : Board} {sv su : Stacks} → bv.symbols ≡ bu.symbols → bv.rows ≡ bu.rows → bv.rules ≡ bu.rules
      → ((h : ℕ) → h ≢ f → held_by bv h ≡ held_by bu h) → ((h : ℕ) → h ≢ f → stack_of sv h ≡ stack_of su h) → premises_fit bv ≡ premises_fit bu
      → Same f (record { board = bv; table = v.table; stacks = sv }) (record { board = bu; table = u.table; stacks = su })
  still symbols rows rules premises stack fit =
      record { alike = record { table = a.table; symbols = symbols; rows = rows; rules = rules; premises = premises; stack = stack }; fit = fit }

  -- where it changes a flag for another furnace
  same_flagged : {v' u' : World} {g : ℕ} {l : ℤ} {flag : Bool} {t : Stack} → Flagged v v' g l flag t → Flagged u u' g l flag t → Same f v' u'
  unfolding with_held
  same_flagged {g = g} {l = l} {flag = flag} {t = t} x y =
      rw (x.next_is, y.next_is)
      (still a.symbols a.rows a.rules
      (λ h apart. rw (flag_at g h x.named v.board l flag, flag_at g h x.named u.board l flag, a.premises h apart))
      (λ h apart. rw (stack_at g h x.named v.stacks t, stack_at g h x.named u.stacks t, a.stack h apart))
      (flag_fits v.board g l flag x.low ∙ s.fit ∙ sym (flag_fits u.board g l flag y.low)))

  -- a call other than open that is refused changes neither world
  so_both : (c : Call) → not_open c ≡ true → names_furnace f c ≡ false → (outcome v c ≡ Ok tt → outcome u c ≡ Ok tt → Same f (after v c) (after u c))
      → Same f (after v c) (after u c)
  so_both c o n good =
      ⊎_elim (λ e. good e (sym (same_outcome c n) ∙ e))
      (λ r. rw (refused_same v c o r, refused_same u c o (r.0, sym (same_outcome c n) ∙ r.1)) s)
      (done_or_refused (outcome v c))

  same_after : {c : Call} → Kind c → changes_premises c && names_furnace f c ≡ false → Same f (after v c) (after u c)
  unfolding after opened_with
  same_after (opener S) n =
      still refl refl refl (λ g apart. refl)
      (λ g apart. ⊎_elim (λ e. rw e) (λ r. rw r.1 (a.stack g apart)) (done_or_refused (opened S).outcome)) refl
  same_after (idle n same rules entry) m = rw (same v, same u) s
  same_after {c} (flagger {furnace = g} x) m =
      let n : names_furnace f c ≡ false = rw x.changing at m in
      let apart = eqb-false g f (sym (x.naming f) ∙ n) in
      so_both c x.not_open n (λ e d. same_flagged (rw (a.stack g apart) at (x.done v e)) (x.done u d))
  same_after {c} (adder {lent = lent} {new = new} {count = count} x) m =
      let as-there : (S : ℕ) → Type 0 = λ S. Added v (after v c) lent (new S) (count v) in
      so_both c x.not_open (x.naming f) (λ e d. same_added (subst as-there a.symbols (x.done v e)) (x.done u d))

  -- ---- and a call that changes premises for the furnace, in one of them alone, changes none of it

  flagged_apart : {u' : World} {g : ℕ} {l : ℤ} {flag : Bool} {t : Stack} → g ≡ f → Flagged u u' g l flag t → Same f v u'
  unfolding with_held
  flagged_apart {g = g} {l = l} {flag = flag} {t = t} own y =
      let other : (h : ℕ) → h ≢ f → g ≢ h = λ h apart k. apart (sym k ∙ own) in
      rw y.next_is
      (still a.symbols a.rows a.rules
      (λ h apart. a.premises h apart ∙ sym (held_other u.board g (set (held_by u.board g) (place_of l) flag) h (other h apart)))
      (λ h apart. a.stack h apart ∙ sym (stack_other u.stacks g t h (other h apart)))
      (s.fit ∙ sym (flag_fits u.board g l flag y.low)))

  after_apart : {c : Call} → Moves u c → changes_premises c && names_furnace f c ≡ true → Same f v (after u c)
  after_apart (opening S) n = clash n refl
  after_apart (unmoved same rules) n = rw same s
  after_apart (one_flag d x) n = flagged_apart (eqb-true _ f (rw (x.changing, x.naming f) at n)) (x.done u d)
  after_apart (more_rules d x) n = clash (rw (x.naming f, and-false) at n) refl

-- ---- any calls

runs_apart : (f : ℕ) {v u : World} → Same f v u → Sound v → Sound u → (calls : List Call) → Same f (run v (without f calls)) (run u calls)
runs_apart f s sound-v sound-u [] = s
runs_apart f {v} {u} s sound-v sound-u (c ∷ calls) =
    ⊎_elim
    (λ e. rw e (runs_apart f {v = v} {u = after u c} (after_apart s sound-v sound-u (moves u c) e) sound-v (sound_after u sound-u c) calls))
    (λ e. rw e (runs_apart f {v = after v c} {u = after u c} (same_after s sound-v sound-u (kind c) e) (sound_after v sound-v c) (sound_after u sound-u c) calls))
    (true_or_false (changes_premises c && names_furnace f c))

itself : (f : ℕ) (w : World) → Same f w w
itself f w =
    record {
      alike = record { table = refl; symbols = refl; rows = refl; rules = refl; premises = λ g apart. refl; stack = λ g apart. refl };
      fit = refl;
    }

pub furnaces_apart : FurnacesApart
furnaces_apart w₀ S f calls c n =
    let w = after w₀ (opens S) in
    let open-sound = sound_open w₀ S in
    let s = runs_apart f (itself f w) open-sound open-sound calls in
    let sound-v = sound_all w (without f calls) open-sound in
    let sound-u = sound_all w calls open-sound in (
      same_answer s sound-v sound-u c n,
      (same_after s sound-v sound-u (kind c)
          (ap (λ t. changes_premises c && t) n ∙ and-false (changes_premises c))).alike,
    )
