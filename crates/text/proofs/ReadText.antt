-- What reading a text to bytes answers, and the bytes lent after it, where it is refused and where it is done.
use Rattle.meaning.proofs.Kit.{◌≡◌, ◌∙◌, sym, ap, true, List, ◌++◌, ◌≤◌, ℕ, ◌+◌, arith, ℤ, length, drop, sets-eq, ne_eqb}
use Rattle.chains.proofs.Words.{number_of, Refusal, Parsed, bad, is_good, read_of, Put, whole_text}
use Rattle.formula.proofs.Faults.{whole_faults}
use Rattle.formula.proofs.Parsing.{answer_good}
use Rattle.board.specs.Rules.{no_place}
use Rattle.board.specs.declared.Board.{Board}
use Rattle.std.specs.Prelude.{Ok, Err}
use Rattle.board.proofs.Adding.{place_told_lem}
use Rattle.chains.proofs.Offences.{first_offence}
use Rattle.text.specs.Reading.{bytes_in, read_in, text_place, read_text_outcome, read_text_answer, read_text_bytes}
use Rattle.text.specs.declared.Spelling.{Spelling}

-- what was read is good
pub read_good : (p : Parsed) {count : ℕ} → Ok count ≡ read_of p → is_good p ≡ true
read_good p e = ap is_good (answer_good p (sym e)).1

-- the place in the text, and the place in its bytes
pub text_place_lem : (S : ℕ) (text : List ℕ) {why : Refusal} {at : ℕ} → whole_text text ≡ bad why at → text_place (Err why) S text ≡ at
text_place_lem S text {why} {at} e = rw (e, (first_offence text why at e).0)

pub bytes_place : (S : ℕ) (text : List ℕ) {why : Refusal} {at : ℕ} → read_in S text ≡ bad why at → text_place (Err why) S text ≡ at
bytes_place S text {why} e =
    let numbers = rw e at (whole_faults S (bytes_in text)) in
    rw (ne_eqb (number_of why) 15 (λ q. omega (arith, q, numbers.1))) (place_told_lem S (bytes_in text) e)

module _ (table : List ℤ) (b : Board) (text out : List ℕ) {answer : Spelling} where
  pub read_refused : (why : Refusal) {place : ℕ} → read_text_outcome table b text out ≡ Err why → text_place (Err why) b.symbols text ≡ place
      → answer ≡ record { outcome = Err why; place = place; bytes = 0 }
      → (answer ≡ read_text_answer table b text out) × (out ≡ read_text_bytes table b text out)
  unfolding read_text_answer read_text_bytes
  read_refused why e p a = (a ∙ rw (e, sym p), rw e)

  pub read_done : read_text_outcome table b text out ≡ Ok tt → length (bytes_in text) ≤ length out → {after : List ℕ} {size : ℕ}
      → Put out after 0 (bytes_in text) size → answer ≡ record { outcome = Ok tt; place = no_place; bytes = size }
      → (answer ≡ read_text_answer table b text out) × (after ≡ read_text_bytes table b text out)
  unfolding read_text_answer read_text_bytes
  read_done e fits {size = size} p a =
      let count : size ≡ length (bytes_in text) = omega (arith, p.ends) in
      let from : 0 + length (bytes_in text) ≡ length (bytes_in text) = omega arith in (
        a ∙ rw (e, count),
        rw e (p.written ∙ sets-eq (bytes_in text) out 0 (rw from fits) ∙ ap (λ (k : ℕ). bytes_in text ++ drop k out) from),
      )
