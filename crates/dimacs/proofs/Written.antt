-- What writing answers, and what the bytes lent then hold, where it is refused and where it is done.
use Rattle.meaning.proofs.Kit.{◌≡◌, ◌∙◌, ap, List, ◌++◌, ◌≤◌, ℕ, ◌+◌, arith, ℤ, length, drop, sets-eq}
use Rattle.literals.specs.declared.refusal.Refusal.{Refusal}
use Rattle.spelling.specs.Text.{Put}
use Rattle.board.specs.declared.Board.{Board}
use Rattle.std.specs.Prelude.{Ok, Err}
use Rattle.dimacs.specs.Writing.{text_on, write_answer, write_bytes, write_outcome}
use Rattle.dimacs.specs.declared.writing.Writing.{Writing}

module _ (table : List ℤ) (b : Board) (out : List ℕ) where
  pub write_refused : (why : Refusal) {r : Writing} → write_outcome table b out ≡ Err why → r ≡ record { outcome = Err why; bytes = 0 }
      → (r ≡ write_answer table b out) × (out ≡ write_bytes table b out)
  unfolding write_answer write_bytes
  write_refused why e is = (is ∙ rw e, rw e)

  pub write_done : {after : List ℕ} {next : ℕ} → write_outcome table b out ≡ Ok tt → length (text_on table b) ≤ length out
      → Put out after 0 (text_on table b) next → (record { outcome = Ok tt; bytes = next } ≡ write_answer table b out) × (after ≡ write_bytes table b out)
  unfolding write_answer write_bytes
  write_done {after} {next} e fits p =
      let text = text_on table b in
      let from : 0 + length text ≡ length text = omega arith in
      let bytes : next ≡ length text = p.ends ∙ from in
      (rw (e, bytes), rw e (p.written ∙ sets-eq text out 0 (rw from fits) ∙ ap (λ (k : ℕ). text ++ drop k out) from))
