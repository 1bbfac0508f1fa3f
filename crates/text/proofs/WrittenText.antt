-- What writing a formula's text answers, and the bytes lent after it, where it is refused and where it is done.
use Rattle.meaning.proofs.Kit.{◌≡◌, ◌∙◌, sym, ap, true, List, ◌++◌, ◌≤◌, ℕ, ◌<◌, ◌+◌, arith, ℤ, length, drop, sets-eq, le-leb, lt-leb}
use Rattle.chains.proofs.Words.{Refusal, whole_of, is_good, Put}
use Rattle.literals.specs.declared.refusal.Refusal.TheVariants.{TableTooShort}
use Rattle.board.specs.Faults.{good_board, first_fault}
use Rattle.board.specs.Rules.{no_place, place_told}
use Rattle.board.specs.Settling.{over}
use Rattle.board.specs.declared.Board.{Board}
use Rattle.board.specs.Faults.{Outcome}
use Rattle.std.specs.Prelude.{Ok, Err}
use Rattle.text.specs.Writing.{text_in, room_faults, spelled_answer, write_text_faults, write_text_outcome, write_text_answer, write_text_bytes}
use Rattle.text.specs.declared.Spelling.{Spelling}

-- once the formula is read
abbrev outcome : (S : ℕ) → (bytes out : List ℕ) → Outcome
outcome S bytes out = first_fault (room_faults S bytes (length out))

module _ (S : ℕ) (bytes out : List ℕ) {answer : Spelling} where
  pub too_short : length out < length (text_in S bytes) → answer ≡ record { outcome = Err TableTooShort; place = no_place; bytes = 0 }
      → (answer ≡ spelled_answer (outcome S bytes out) S bytes) × (out ≡ over (outcome S bytes out) (text_in S bytes) out)
  too_short h a = let small = lt-leb (length (text_in S bytes)) (length out) h in (a ∙ rw small, rw small)

  pub fitting : {after : List ℕ} {size : ℕ} → length (text_in S bytes) ≤ length out → Put out after 0 (text_in S bytes) size
      → answer ≡ record { outcome = Ok tt; place = no_place; bytes = size }
      → (answer ≡ spelled_answer (outcome S bytes out) S bytes) × (after ≡ over (outcome S bytes out) (text_in S bytes) out)
  fitting {size = size} h p a =
      let text = text_in S bytes in
      let fits = le-leb (length text) (length out) h in
      let count : size ≡ length text = omega (arith, p.ends) in
      let from : 0 + length text ≡ length text = omega arith in
      (a ∙ rw (fits, count), rw fits (p.written ∙ sets-eq text out 0 (rw from h) ∙ ap (λ (k : ℕ). text ++ drop k out) from))

module _ (table : List ℤ) (b : Board) (bytes out : List ℕ) where
  pub write_refused : (why : Refusal) {place : ℕ} {answer : Spelling} → write_text_outcome table b bytes out ≡ Err why
      → place_told (Err why) (whole_of b.symbols bytes) ≡ place → answer ≡ record { outcome = Err why; place = place; bytes = 0 }
      → (answer ≡ write_text_answer table b bytes out) × (out ≡ write_text_bytes table b bytes out)
  unfolding write_text_answer write_text_bytes
  write_refused why e p a = (a ∙ rw (e, sym p), rw e)

  -- on a good board, of a formula that is read
  pub write_by_room : good_board table b ≡ true → is_good (whole_of b.symbols bytes) ≡ true
      → write_text_outcome table b bytes out ≡ outcome b.symbols bytes out
  unfolding write_text_outcome write_text_faults
  write_by_room g r = rw (g, r)
