-- 02, Ticket 5: of a formula's text 15 is told with its place in the text, 2 and 5 with their place in the resulting bytes; and the writer's places
-- are those of a rule in bytes.
use Rattle.meaning.proofs.Kit.{◌≡◌, ◌∙◌, sym, ap, refl, subst, ⊎_elim, inl, inr, ◌⊎◌, ◌≢◌, true, false, Bool, not, List, ◌∷◌, ◌≤◌, ℕ, ◌<◌, arith, ℤ}
use Rattle.meaning.proofs.Kit.{length, drop, ne_eqb}
use Rattle.meaning.proofs.Tests.{true_or_false, clash}
use Rattle.literals.specs.Refusals.{number_of}
use Rattle.literals.specs.declared.refusal.Refusal.{Refusal}
use Rattle.literals.specs.declared.refusal.Refusal.TheVariants.{BadBoard, BadText}
use Rattle.formula.specs.Parse.{Parsed, good, bad, whole_of}
use Rattle.formula.specs.Answers.{is_good}
use Rattle.formula.proofs.Breaking.{first_fault_lem}
use Rattle.formula.proofs.Faults.{whole_faults}
use Rattle.board.specs.Faults.{Fault, first_fault, good_board, number_in}
use Rattle.board.specs.Rules.{why_of, breaks_at, no_place, place_told, rule_faults}
use Rattle.board.specs.declared.Board.{Board}
use Rattle.board.specs.Faults.{Outcome}
use Rattle.std.specs.Prelude.{Err}
use Rattle.board.proofs.Goodness.{good_is}
use Rattle.board.proofs.Answered.{fault_not, Without, never_answered, rule_told, rule_place}
use Rattle.chains.specs.Form.{whole_text}
use Rattle.chains.specs.Promises.{Offends}
use Rattle.chains.proofs.Offences.{first_offence}
use Rattle.text.specs.Reading.{bytes_in, read_in, text_place, read_text_faults, read_text_outcome, read_text_answer}
use Rattle.text.specs.Adding.{text_refused, ruled_text, rule_text_faults}
use Rattle.text.specs.Writing.{write_text_faults, write_text_outcome, write_text_answer}
use Rattle.text.proofs.ReadText.{bytes_place}
use Rattle.text.proofs.Back.{two_or_five}
use Rattle.promises.specs.Calls.{front, answer, outcome}
use Rattle.promises.specs.Demands.{TextPlaced, TextPlaces, WriteTextPlaces}
use Rattle.promises.proofs.RuleTexts.{rule_text_told}
use Rattle.promises.proofs.Places.{none_told}

-- ---- the tests of a text: the board's, the form's, the bytes', and others that are of other numbers

no_text_place : (o : Outcome) (S : ℕ) (text : List ℕ) → (number_in o < 2) ⊎ ((6 < number_in o) × (number_in o ≢ 15)) → text_place o S text ≡ no_place
no_text_place o S text (inl low) = rw (ne_eqb (number_in o) 15 (λ e. omega arith)) (none_told o (read_in S text) (inl low))
no_text_place o S text (inr high) = rw (ne_eqb (number_in o) 15 high.1) (none_told o (read_in S text) (inr high.0))

-- a text outside the form offends at the place told
offends : (text : List ℕ) → is_good (whole_text text) ≡ false → Offends text (breaks_at (whole_text text))
offends text e = go (whole_text text) refl e
  where
    go : (p : Parsed) → whole_text text ≡ p → is_good p ≡ false → Offends text (breaks_at p)
    go (good f used) read e = clash refl e
    go (bad why at) read e = (first_offence text why at read).1

module _ (table : List ℤ) (b : Board) (text : List ℕ) (others : List Fault)
    (not-form : Without 15 others) (not-bytes : (number : ℕ) → number ≤ 6 → Without number others) where
  abbrev S : ℕ
  S = b.symbols

  abbrev tests : List Fault
  tests =
      record { given = not (good_board table b); refusal = BadBoard }
      ∷ record { given = not (is_good (whole_text text)); refusal = BadText }
      ∷ record { given = not (is_good (read_in S text)); refusal = why_of (read_in S text) }
      ∷ others

  abbrev PlacedBy : Outcome → Type 0
  PlacedBy o = TextPlaced S text (number_in o) (text_place o S text)

  -- test by test, what its refusal tells
  of_board : PlacedBy (Err BadBoard)
  of_board =
      record {
        text_breaks = λ e. absurd (omega arith);
        bytes_break = λ low high. absurd (omega arith);
        nowhere = no_text_place (Err BadBoard) S text;
      }

  of_form : is_good (whole_text text) ≡ false → PlacedBy (Err BadText)
  of_form out =
      record { text_breaks = λ e. offends text out; bytes_break = λ low high. absurd (omega arith); nowhere = no_text_place (Err BadText) S text }

  of_bytes_lem : 1 ≤ S → (why : Refusal) (at : ℕ) → read_in S text ≡ bad why at → PlacedBy (Err why)
  of_bytes_lem some why at read =
      let which = two_or_five S text why at read in
      let form : number_of why ≢ 15 = λ e. ⊎_elim (λ two. omega arith) (λ five. omega arith) which in
      let place = bytes_place S text read in
      record {
        text_breaks = λ e. absurd (form e);
        bytes_break = λ low high. (which, why, refl, rw place (first_fault_lem S (bytes_in text) why at some read));
        nowhere = no_text_place (Err why) S text;
      }

  of_others : PlacedBy (first_fault others)
  of_others =
      let number = number_in (first_fault others) in
      record {
        text_breaks = λ e. absurd (never_answered 15 others (omega arith) not-form e);
        bytes_break = λ low high. absurd (never_answered number others (omega arith) (not-bytes number high) refl);
        nowhere = no_text_place (first_fault others) S text;
      }

  came : (o : Outcome) → first_fault tests ≡ o → PlacedBy o → PlacedBy (first_fault tests)
  came o e p = subst PlacedBy (sym e) p

  placed : PlacedBy (first_fault tests)
  placed = go (good_board table b) (is_good (whole_text text)) (read_in S text) refl refl refl
    where
      go : (g k : Bool) (p : Parsed) → good_board table b ≡ g → is_good (whole_text text) ≡ k → read_in S text ≡ p → PlacedBy (first_fault tests)
      go false k p is kept read = came (Err BadBoard) (rw is) of_board
      go true false p is kept read = came (Err BadText) (rw (is, kept)) (of_form kept)
      go true true (bad why at) is kept read = came (Err why) (rw (is, kept, read)) (of_bytes_lem (good_is table b is).some why at read)
      go true true (good f used) is kept read = came (first_fault others) (rw (is, kept, read)) of_others

-- ---- the two calls

-- adding tells its place as reading does: 15 is never the bytes'
rule_text_place : (table : List ℤ) (b : Board) (text : List ℕ)
    → (ruled_text table b text).place ≡ text_place (ruled_text table b text).outcome b.symbols text
unfolding ruled_text rule_faults
rule_text_place table b text =
    let bytes = bytes_in text in
    let told = rule_told table b bytes in
    let read = fault_not 6 15 (whole_of b.symbols bytes) (whole_faults b.symbols bytes) (omega arith) in
    let none : Without 15 (rule_faults table b bytes) =
    (λ g e. omega arith, (read, (λ g e. omega arith, (λ g e. omega arith, (λ g e. omega arith, tt))))) in
    let other = never_answered 15 (rule_faults table b bytes) (omega arith) none in
    ⊎_elim (λ r. rw r)
    (λ (r : text_refused table b text ≡ false).
    rw (r, told, ne_eqb (number_in (first_fault (rule_faults table b bytes))) 15 other) (rule_place table b bytes ∙ rw told))
    (true_or_false (text_refused table b text))

pub text_places : TextPlaces
unfolding answer outcome read_text_answer read_text_outcome read_text_faults rule_text_faults
text_places w lent text out =
    let table = front w lent in
    let b = w.board in (
      placed table b text (drop 3 (read_text_faults table b text (length out))) (λ g e. omega arith, tt) (λ number low. (λ g e. omega arith, tt)),
      rw (rule_text_place table b text, rule_text_told table b text)
          (placed table b text (drop 3 (rule_text_faults table b text)) (λ g e. omega arith, (λ g e. omega arith, (λ g e. omega arith, tt)))
          (λ number low. (λ g e. omega arith, (λ g e. omega arith, (λ g e. omega arith, tt))))),
    )

-- ---- the writer

module _ (table : List ℤ) (b : Board) (bytes : List ℕ) (room : ℕ) where
  abbrev writing : List Fault
  writing = write_text_faults table b bytes room

  same_fault : 2 ≤ number_in (first_fault writing) → number_in (first_fault writing) ≤ 6 → first_fault (rule_faults table b bytes) ≡ first_fault writing
  unfolding write_text_faults rule_faults
  same_fault low high = go (good_board table b) (is_good (whole_of b.symbols bytes)) refl refl
    where
      go : (g k : Bool) → good_board table b ≡ g → is_good (whole_of b.symbols bytes) ≡ k → first_fault (rule_faults table b bytes) ≡ first_fault writing
      go false k is read = rw is
      go true false is read = rw (is, read)
      go true true is read =
          let late : first_fault writing ≡ first_fault (drop 2 writing) = rw (is, read) in
          absurd (never_answered (number_in (first_fault writing)) (drop 2 writing) (omega arith) (λ g e. omega arith, tt) (ap number_in (sym late)))

pub write_text_places : WriteTextPlaces
unfolding answer outcome write_text_answer write_text_outcome
write_text_places w lent bytes out =
    let table = front w lent in
    let b = w.board in
    let read = whole_of b.symbols bytes in (
      λ low high. (
          let same = rule_told table b bytes ∙ same_fault table b bytes (length out) low high in
          (ap number_in same, rule_place table b bytes ∙ ap (λ (o : Outcome). place_told o read) same)
          ),
      none_told (first_fault (write_text_faults table b bytes (length out))) read,
    )
