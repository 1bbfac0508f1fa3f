-- 02, Ticket 5: what reading a formula's text and writing it leave, and that what is written is read to the same bytes.
use Rattle.meaning.proofs.Kit.{◌≡◌, sym, refl, subst, true, List, ℕ, length, drop, take_at, not-false, le-leb}
use Rattle.formula.specs.Parse.{whole_of}
use Rattle.formula.specs.Answers.{is_good}
use Rattle.board.specs.Faults.{good_board}
use Rattle.std.specs.Prelude.{Ok}
use Rattle.board.proofs.Goodness.{good_is}
use Rattle.board.proofs.Answered.{none_given}
use Rattle.text.specs.Reading.{read_text_faults, read_text_outcome, read_text_answer, read_text_bytes}
use Rattle.text.specs.Writing.{text_in, write_text_faults, write_text_outcome, write_text_answer, write_text_bytes}
use Rattle.text.specs.Promises.{ReadsAs}
use Rattle.text.proofs.Back.{same_bytes}
use Rattle.promises.specs.Calls.{writes_text, World, front, answer, outcome}
use Rattle.promises.specs.Demands.{ReadTextTells, WriteTextTells, text_written, WrittenBack, TextRoundTrip}
use Rattle.promises.proofs.RuleTexts.{text_is_bytes}

pub read_text_tells : ReadTextTells
unfolding answer outcome read_text_answer read_text_bytes
read_text_tells w lent text out e = (rw e, rw e)

pub write_text_tells : WriteTextTells
unfolding answer outcome write_text_answer write_text_bytes
write_text_tells w lent bytes out e = (rw e, rw e)

-- ---- a text that reads as bytes which are a formula

module _ (S : ℕ) (text bytes : List ℕ) (r : ReadsAs text bytes) (fine : is_good (whole_of S bytes) ≡ true) where
  back : WrittenBack text bytes S
  unfolding answer outcome read_text_answer read_text_bytes read_text_outcome read_text_faults
  back =
      record {
        reads = λ v lent out same good room.
            rw (good, r.keeps, r.same, same, fine, le-leb (length bytes) (length out) room) (refl, refl);
        adds = λ v lent. rw (← r.same) (text_is_bytes v lent text r.keeps);
      }

-- the bytes told are the text
written : (w : World) (lent : ℕ) (bytes out : List ℕ) → outcome w (writes_text lent bytes out) ≡ Ok tt
    → text_written w lent bytes out ≡ text_in w.board.symbols bytes
written w lent bytes out e =
    let text = text_in w.board.symbols bytes in
    let told = write_text_tells w lent bytes out e in
    rw (told.0, told.1) (take_at text (drop (length text) out) (length text) refl)

pub text_round_trip : TextRoundTrip
unfolding answer outcome write_text_answer write_text_outcome write_text_faults
text_round_trip w lent bytes out e =
    let table = front w lent in
    let S = w.board.symbols in
    let given = none_given (write_text_faults table w.board bytes (length out)) e in
    let known = good_is table w.board (not-false (good_board table w.board) (given 0)) in
    let fine = not-false (is_good (whole_of S bytes)) (given 1) in
    subst (λ (text : List ℕ). WrittenBack text bytes S) (sym (written w lent bytes out e))
    (back S (text_in S bytes) bytes (same_bytes S bytes known.sound.symbols fine) fine)
