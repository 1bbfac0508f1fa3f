-- Demand 1: what each call answers is the first of its cases that is given; a refused call leaves board and tables as they were.
use Rattle.meaning.proofs.Kit.{◌≡◌, ◌∙◌, sym, ap, refl, ⊎_elim, inl, inr, ◌⊎◌, true, false, Bool, ◌&&◌, List, [], ◌∷◌, In, in_nil, in_cons, ℕ, ◌<◌}
use Rattle.meaning.proofs.Kit.{arith, take-append-drop}
use mathlib.Core.List.Memᴰ.{head}
use mathlib.Core.List.Memᴰ.{tail}
use Rattle.meaning.specs.Literals.{opp, has, conflict}
use Rattle.meaning.proofs.Tests.{true_or_false}
use Rattle.positions.specs.Positions.{Entry}
use Rattle.literals.specs.Literal.{place_of}
use Rattle.literals.specs.declared.refusal.Refusal.{Refusal}
use Rattle.board.specs.Faults.{Fault, first_fault, number_in}
use Rattle.board.specs.Changes.{opened, flag_changed}
use Rattle.board.specs.Rules.{ruled, ruled_table}
use Rattle.board.specs.Settling.{settle_outcome, settled_labels, settled_ranks, settled_supports}
use Rattle.board.specs.Ranking.{derived_on}
use Rattle.board.specs.Asking.{ask_faults, standing_if, asked, asked_whole, explain_faults, explain_numbers, explain_part}
use Rattle.board.specs.Grounds.{ground_outcome, ground_marks, blame_outcome, blame_marks}
use Rattle.board.specs.Faults.{Outcome}
use Rattle.board.specs.declared.asking.Reason.{Reason}
use Rattle.board.specs.declared.rules.Addition.{Addition}
use Rattle.std.specs.Prelude.{Ok, Err}
use Rattle.board.proofs.Answered.{refused_not_done, told_by_lem, rule_told}
use Rattle.stack.specs.Steps.{opened_with, withdrawn_with, pushed, popped}
use Rattle.positions.specs.Entering.{entry_faults, entered, entered_table}
use Rattle.smallest.specs.Listing.{smallest_outcome, smallest_answer, smallest_sets}
use Rattle.least.specs.Withdrawing.{least_answer}
use Rattle.dimacs.specs.Reading.{read_faults, read_answer, read_table}
use Rattle.dimacs.specs.Writing.{write_outcome, write_answer, write_bytes}
use Rattle.dimacs.specs.declared.reading.Reading.{Reading}
use Rattle.text.specs.Reading.{bytes_in, read_text_outcome, read_text_answer, read_text_bytes}
use Rattle.text.specs.Adding.{text_refused, ruled_text, ruled_text_table}
use Rattle.text.specs.Writing.{write_text_outcome, write_text_answer, write_text_bytes}
use Rattle.promises.specs.Calls.{Call, opens, adds, enters, holds, withdraws, pushes, pops, asks, asks_whole, explains, settles, grounds, blames}
use Rattle.promises.specs.Calls.{lists, asks_least, reads, writes, reads_text, adds_text, writes_text, World, front, faults, ask_outcome, answer}
use Rattle.promises.specs.Calls.{outcome, after, not_open}
use Rattle.promises.specs.Demands.{FirstGiven, here, later, RefusedExactly, DoneExactly, RefusedUntouched, RefusedUnwritten, RefusedHandsBack}
use Rattle.promises.proofs.RuleTexts.{rule_text_told}

-- ---- what a call answers

pub first_case : (w : World) (c : Call) → outcome w c ≡ first_fault (faults w c)
unfolding answer outcome faults opened_with opened entered flag_changed withdrawn_with pushed popped asked asked_whole explain_numbers settle_outcome
    ground_outcome blame_outcome smallest_answer smallest_outcome least_answer read_answer write_answer write_outcome read_text_answer read_text_outcome
    write_text_answer write_text_outcome
first_case w (opens S) = refl
first_case w (adds lent bytes) = rule_told (front w lent) w.board bytes
first_case w (enters lent e) =
    told_by_lem (λ (a : Addition). a.outcome) _ _ (first_fault (entry_faults (front w lent) w.board e)) (λ d. refl) (λ why d. refl)
first_case w (holds lent furnace l) = refl
first_case w (withdraws lent furnace l) = refl
first_case w (pushes lent furnace l) = refl
first_case w (pops lent furnace) = refl
first_case w (asks lent furnace l) =
    told_by_lem ask_outcome _ _ (first_fault (ask_faults (front w lent) w.board furnace l))
    (λ e. sym e) (λ why e. sym e)
first_case w (asks_whole lent furnace l) =
    told_by_lem ask_outcome _ _ (first_fault (ask_faults (front w lent) w.board furnace l))
    (λ e. sym e) (λ why e. sym e)
first_case w (explains lent furnace l) =
    told_by_lem (λ (r : Reason). r.outcome) _ _ (first_fault (explain_faults (front w lent) w.board furnace l)) (λ e. refl) (λ why e. refl)
first_case w (settles lent furnace labels ranks supports) = refl
first_case w (grounds lent furnace l marks) = refl
first_case w (blames lent furnace marks) = refl
first_case w (lists lent cands l sets) = refl
first_case w (asks_least lent furnace cands) = refl
first_case w (reads lent text) =
    told_by_lem (λ (r : Reading). r.outcome) _ _ (first_fault (read_faults (front w lent) w.board text)) (λ e. refl) (λ why e. refl)
first_case w (writes lent out) = refl
first_case w (reads_text lent text out) = refl
first_case w (adds_text lent text) = rule_text_told (front w lent) w.board text
first_case w (writes_text lent bytes out) = refl

-- so what is known of the answer is known of the cases
pub cases : (w : World) (c : Call) {o : Outcome} → outcome w c ≡ o → first_fault (faults w c) ≡ o
cases w c e = sym (first_case w c) ∙ e

-- ---- which refusal

module _ (number : ℕ) where
  first_given : 0 < number → (fs : List Fault) → number_in (first_fault fs) ≡ number → FirstGiven number fs
  first_given some [] e = absurd (omega arith)
  first_given some (f ∷ fs) e =
      ⊎_elim (λ (g : f.given ≡ true). here g (rw g at e)) (λ (g : f.given ≡ false). later g (first_given some fs (rw g at e)))
      (true_or_false f.given)

  given_first : {fs : List Fault} → FirstGiven number fs → number_in (first_fault fs) ≡ number
  given_first (here g r) = rw g r
  given_first (later g m) = rw g (given_first m)

pub refused_exactly : RefusedExactly
refused_exactly w c number some = (
  λ e. first_given number some (faults w c) (ap number_in (sym (first_case w c)) ∙ e),
  λ g. ap number_in (first_case w c) ∙ given_first number g,
)

none_of_lem : (fs : List Fault) → first_fault fs ≡ Ok tt → (f : Fault) → In f fs → f.given ≡ false
none_of_lem [] e f m = absurd (in_nil m)
none_of_lem (x ∷ fs) e f m =
    ⊎_elim
    (λ (g : x.given ≡ true). refused_not_done (rw g at e))
    (λ (g : x.given ≡ false). ⊎_elim (λ q. rw q g) (λ i. none_of_lem fs (rw g at e) f i) (in_cons m))
    (true_or_false x.given)

of_none : (fs : List Fault) → ((f : Fault) → In f fs → f.given ≡ false) → first_fault fs ≡ Ok tt
of_none [] h = refl
of_none (f ∷ fs) h = rw (h f (head refl)) (of_none fs (λ g m. h g (tail m)))

pub done_exactly : DoneExactly
done_exactly w c = (λ e. none_of_lem (faults w c) (cases w c e), λ h. first_case w c ∙ of_none (faults w c) h)

-- ---- what it leaves

-- a refused rule adds no row and leaves all as it was,
rule_refused : (w : World) (lent : ℕ) (bytes : List ℕ) (why : Refusal) → outcome w (adds lent bytes) ≡ Err why
    → ((ruled (front w lent) w.board bytes).added ≡ 0) × (after w (adds lent bytes) ≡ w)
unfolding after faults ruled ruled_table
rule_refused w lent bytes why e = rw (cases w (adds lent bytes) e, take-append-drop) (refl, refl)

-- so does a refused entry,
entry_refused : (w : World) (lent : ℕ) (e : Entry) (why : Refusal) → outcome w (enters lent e) ≡ Err why
    → ((entered (front w lent) w.board e).added ≡ 0) × (after w (enters lent e) ≡ w)
unfolding after faults entered entered_table
entry_refused w lent e why r = rw (cases w (enters lent e) r, take-append-drop) (refl, refl)

-- and so does a rule from text, be it for the text or for its bytes
rule_text_refused : (w : World) (lent : ℕ) (text : List ℕ) (why : Refusal) → outcome w (adds_text lent text) ≡ Err why
    → ((ruled_text (front w lent) w.board text).added ≡ 0) × (after w (adds_text lent text) ≡ w)
unfolding answer outcome after ruled_text ruled_text_table
rule_text_refused w lent text why e =
    ⊎_elim
    (λ (r : text_refused (front w lent) w.board text ≡ true). rw (r, take-append-drop) (refl, refl))
    (λ (r : text_refused (front w lent) w.board text ≡ false). rw r (rule_refused w lent (bytes_in text) why (rw (r, outcome) at e)))
    (true_or_false (text_refused (front w lent) w.board text))

pub refused_untouched : RefusedUntouched
unfolding after faults opened_with opened flag_changed withdrawn_with pushed popped read_answer read_table
refused_untouched w (opens S) why e = rw (cases w (opens S) e)
refused_untouched w (adds lent bytes) why e = (rule_refused w lent bytes why e).1
refused_untouched w (enters lent entry) why e = (entry_refused w lent entry why e).1
refused_untouched w (holds lent furnace l) why e = rw (cases w (holds lent furnace l) e)
refused_untouched w (withdraws lent furnace l) why e = rw (cases w (withdraws lent furnace l) e)
refused_untouched w (pushes lent furnace l) why e = rw (cases w (pushes lent furnace l) e)
refused_untouched w (pops lent furnace) why e = rw (cases w (pops lent furnace) e)
refused_untouched w (asks lent furnace l) why e = refl
refused_untouched w (asks_whole lent furnace l) why e = refl
refused_untouched w (explains lent furnace l) why e = refl
refused_untouched w (settles lent furnace labels ranks supports) why e = refl
refused_untouched w (grounds lent furnace l marks) why e = refl
refused_untouched w (blames lent furnace marks) why e = refl
refused_untouched w (lists lent cands l sets) why e = refl
refused_untouched w (asks_least lent furnace cands) why e = refl
refused_untouched w (reads lent text) why e = rw (cases w (reads lent text) e, take-append-drop)
refused_untouched w (writes lent out) why e = refl
refused_untouched w (reads_text lent text out) why e = refl
refused_untouched w (adds_text lent text) why e = (rule_text_refused w lent text why e).1
refused_untouched w (writes_text lent bytes out) why e = refl

-- a call is done or refused
pub done_or_refused : (o : Outcome) → (o ≡ Ok tt) ⊎ ((why : Refusal) × (o ≡ Err why))
done_or_refused (Ok _) = inl refl
done_or_refused (Err why) = inr (why, refl)

-- a refused call but an open leaves all as it was
pub refused_same : (w : World) (c : Call) → not_open c ≡ true → (why : Refusal) × (outcome w c ≡ Err why) → after w c ≡ w
refused_same w c n r = refused_untouched w c r.0 r.1 ∙ rw n

pub refused_unwritten : RefusedUnwritten
unfolding answer outcome settled_labels settled_ranks settled_supports ground_marks blame_marks smallest_answer smallest_sets write_answer write_bytes
    read_text_answer read_text_bytes write_text_answer write_text_bytes
refused_unwritten w lent why =
    record {
      settle = λ furnace labels ranks supports e. (rw e, rw e, rw e);
      ground = λ furnace l marks e. rw e;
      blame = λ furnace marks e. rw e;
      smallest = λ cands l sets e. rw e;
      write = λ out e. rw e;
      read_text = λ text out e. rw e;
      write_text = λ bytes out e. rw e;
    }

pub refused_hands_back : RefusedHandsBack
unfolding faults explain_numbers explain_part smallest_answer least_answer read_answer answer outcome write_answer read_text_answer write_text_answer
refused_hands_back w lent why =
    record {
      rule = λ bytes e. (rule_refused w lent bytes why e).0;
      enter = λ entry e. (entry_refused w lent entry why e).0;
      explain = λ furnace l e. (let f = cases w (explains lent furnace l) e in (rw f, rw f, rw f, rw f, rw f));
      smallest = λ cands l sets e. rw e;
      least = λ furnace cands e. rw e;
      read = λ text e. rw (cases w (reads lent text) e);
      write = λ out e. rw e;
      read_text = λ text out e. rw e;
      rule_text = λ text e. (rule_text_refused w lent text why e).0;
      write_text = λ bytes out e. rw e;
    }
