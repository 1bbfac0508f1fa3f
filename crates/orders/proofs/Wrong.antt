-- A wrong line loses nothing: a refused call leaves everything but for an open, and an open is made only where it is not refused.
use Rattle.meaning.proofs.Kit.{◌≡◌, ◌∙◌, sym, ap, refl, true, false, Bool, cond, true≢false, List, ℕ, ltb, ℤ, length}
use Rattle.board.specs.Faults.{if_done}
use Rattle.board.specs.Furnaces.{is_furnace}
use Rattle.board.specs.Faults.{Outcome}
use Rattle.std.specs.Prelude.{Ok, Err}
use Rattle.names.specs.Names.{is_name}
use Rattle.promises.specs.Calls.{Call, World, Answer, of_change, of_addition, of_reading, of_writing, of_spelling, of_settle, of_ask, of_explain, of_marks}
use Rattle.promises.specs.Calls.{of_listing, of_withdrawal, opens, answer, outcome, outcome_of, after, not_open}
use Rattle.promises.proofs.Refusals.{refused_untouched}
use Rattle.orders.specs.Words.{word_at, ends_at}
use Rattle.orders.specs.Reading.{number_in, symbol_in, literal_in}
use Rattle.orders.specs.Marks.{table_fits}
use Rattle.orders.specs.Orders.{order_of}
use Rattle.orders.specs.Lines.{Line, opening, naming, working, calling, asking, slipping, resting, by_number, by_literal, ended, ordered_by}
use Rattle.orders.specs.Lines.{most_bytes, line_of}
use Rattle.orders.specs.States.{State, ordered, did, tells, told_by, reply_of, is_made, worked, work_reply}
use Rattle.orders.specs.Promises.{LosesNothing}
use Rattle.std.specs.Prelude.{Result, Ok, Err}
use Rattle.orders.specs.declared.Slip.{Slip}
use Rattle.orders.specs.declared.Slip.TheVariants.{LineTooLong, WordTooMany, NameDue, MarksDue}
use Rattle.orders.specs.declared.order.Order.{Order}
use Rattle.orders.specs.declared.order.Order.TheVariants.{Open, Name, Rule, Hold, Drop, Push, Pop, Valve, Pairs, Furnace, Ask, Why, Ground}
use Rattle.orders.specs.declared.order.Order.TheVariants.{Marks, Blame, Least, Sets, Rows, Cnf, Echo, Help, Unknown, Nothing}

-- ---- no line is an open by another name

abbrev Own : Line → Type 0
Own (opening S) = Unit {0}
Own (naming s word) = Unit {0}
Own (working f) = Unit {0}
Own (calling c) = not_open c ≡ true
Own asking = Unit {0}
Own (slipping slip k) = Unit {0}
Own resting = Unit {0}

by_number_lem : (found : Result ℕ Slip) (k : ℕ) (next : ℕ → Line) → ((n : ℕ) → Own (next n)) → Own (by_number found k next)
by_number_lem (Ok n) k next own = own n
by_number_lem (Err slip) k next own = tt

by_literal_lem : (found : Result ℤ Slip) (k : ℕ) (next : ℤ → Line) → ((l : ℤ) → Own (next l)) → Own (by_literal found k next)
by_literal_lem (Ok l) k next own = own l
by_literal_lem (Err slip) k next own = tt

either : (b : Bool) (one other : Line) → Own one → Own other → Own (cond b one other)
either true one other p q = p
either false one other p q = q

over : (k : ℕ) (line : List ℕ) (whole : Line) → Own whole → Own (ended k line whole)
over k line whole own = either (ends_at k line) whole (slipping WordTooMany k) own tt

module _ (lent furnace : ℕ) (names line : List ℕ) where
  one_literal_lem : (call : ℤ → Call) → ((l : ℤ) → not_open (call l) ≡ true)
      → Own (by_literal (literal_in names (word_at 1 line)) 1 (λ l. ended 2 line (calling (call l))))
  one_literal_lem call own = by_literal_lem (literal_in names (word_at 1 line)) 1 _ (λ l. over 2 line _ (own l))

  one_number : (next : ℕ → Line) → ((n : ℕ) → Own (next n)) → Own (by_number (number_in (word_at 1 line)) 1 (λ n. ended 2 line (next n)))
  one_number next own = by_number_lem (number_in (word_at 1 line)) 1 _ (λ n. over 2 line _ (own n))

  own_order : (o : Order) → Own (ordered_by o lent furnace names line)
  own_order Open = one_number opening (λ n. tt)
  own_order Name = by_number_lem (symbol_in names (word_at 1 line)) 1 _ (λ s. either (is_name (word_at 2 line)) _ (slipping NameDue 2) (over 3 line _ tt) tt)
  own_order Rule = refl
  own_order Hold = one_literal_lem _ (λ l. refl)
  own_order Drop = one_literal_lem _ (λ l. refl)
  own_order Push = one_literal_lem _ (λ l. refl)
  own_order Pop = over 1 line _ refl
  own_order Valve = by_number_lem (symbol_in names (word_at 1 line)) 1 _ (λ s. by_number_lem (number_in (word_at 2 line)) 2 _ (λ n. over 3 line _ refl))
  own_order Pairs =
      by_number_lem (symbol_in names (word_at 1 line)) 1 _
      (λ s. by_number_lem (number_in (word_at 2 line)) 2 _
      (λ n. by_number_lem (symbol_in names (word_at 3 line)) 3 _
      (λ t. by_number_lem (number_in (word_at 4 line)) 4 _
      (λ m. either (table_fits line n m) _ (slipping MarksDue 5) refl tt))))
  own_order Furnace = one_number working (λ n. tt)
  own_order Ask = tt
  own_order Why = tt
  own_order Ground = tt
  own_order Marks = tt
  own_order Blame = tt
  own_order Least = tt
  own_order Sets = tt
  own_order Rows = tt
  own_order Cnf = tt
  own_order Echo = tt
  own_order Help = tt
  own_order Unknown = tt
  own_order Nothing = tt

  own_line : Own (line_of lent furnace names line)
  unfolding line_of
  own_line = either (ltb most_bytes (length line)) (slipping LineTooLong 0) _ tt (own_order (order_of (word_at 0 line)))

-- ---- what is refused is left

same_reply : (a : Answer) → (told_by a).reply ≡ reply_of (outcome_of a)
same_reply (of_change o) = refl
same_reply (of_addition o place added) = refl
same_reply (of_reading o clauses added) = refl
same_reply (of_writing w out) = refl
same_reply (of_spelling s out) = refl
same_reply (of_settle o labels ranks supports) = refl
same_reply (of_ask s) = refl
same_reply (of_explain r span) = refl
same_reply (of_marks o marks) = refl
same_reply (of_listing a sets) = refl
same_reply (of_withdrawal a) = refl

call_leaves : (w : World) (c : Call) → not_open c ≡ true → (o : Outcome) → outcome w c ≡ o → is_made (reply_of o) ≡ false → after w c ≡ w
call_leaves w c own (Ok _) e h = absurd (true≢false h)
call_leaves w c own (Err why) e h = refused_untouched w c why e ∙ rw own

module _ (s : State) where
  open_leaves : (S : ℕ) (next : State) (o : Outcome) → is_made (reply_of o) ≡ false → if_done o next (λ _. s) ≡ s
  open_leaves S next (Ok _) h = absurd (true≢false h)
  open_leaves S next (Err why) h = refl

  work_leaves : (f : ℕ) (b : Bool) → is_furnace f ≡ b → is_made (work_reply f) ≡ false → worked s.furnace f ≡ s.furnace
  work_leaves f true e h = absurd (true≢false (rw e at h))
  work_leaves f false e h = rw e

  leaves : (line : Line) → Own line → is_made (tells s line).reply ≡ false → did s line ≡ s
  unfolding did tells outcome
  leaves (opening S) own h =
      open_leaves S _ (outcome_of (answer s.world (opens S))) (ap is_made (sym (same_reply (answer s.world (opens S)))) ∙ h)
  leaves (naming n word) own h = rw h
  leaves (working f) own h = ap (λ (g : ℕ). record { world = s.world; furnace = g; names = s.names }) (work_leaves f (is_furnace f) refl h)
  leaves (calling c) own h =
      let w = s.world in
      let o = outcome_of (answer w c) in
      let same = call_leaves w c own o refl (ap is_made (sym (same_reply (answer w c))) ∙ h) in
      ap (λ (v : World). record { world = v; furnace = s.furnace; names = s.names }) same
  leaves asking own h = refl
  leaves (slipping slip k) own h = refl
  leaves resting own h = refl

pub loses_nothing : LosesNothing
loses_nothing s line h = leaves s (ordered s line) (own_line (length s.world.table) s.furnace s.names line) h
