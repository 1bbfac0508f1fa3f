-- What a call writes lies within the places lent for it: the text of a board's rows, and the smallest sets.
use Rattle.meaning.proofs.Kit.{◌≡◌, List, ◌≤◌, ℕ, arith, ℤ, length, drop, length-append}
use Rattle.board.specs.Faults.{if_done}
use Rattle.board.specs.Settling.{over}
use Rattle.board.specs.declared.Board.{Board}
use Rattle.board.specs.Faults.{Outcome}
use Rattle.std.specs.Prelude.{Ok, Err}
use Rattle.dimacs.specs.Writing.{text_on, write_answer, write_bytes, write_outcome}
use Rattle.dimacs.specs.declared.writing.Writing.{Writing}
use Rattle.smallest.specs.Listing.{smallest_on, smallest_answer, smallest_sets, smallest_outcome}
use Rattle.smallest.specs.declared.Listing.{Listing}

within : (o : Outcome) (list out : List ℕ) → if_done o (length list) (λ _. 0) ≤ length (over o list out)
within (Ok _) list out = omega (arith, length-append list (drop (length list) out))
within (Err why) list out = omega arith

-- `out` and `sets` are the places lent, and `after` what they are then
module _ (table : List ℤ) (b : Board) where
  pub text_within : (out : List ℕ) {told : Writing} {after : List ℕ} → told ≡ write_answer table b out → after ≡ write_bytes table b out
      → told.bytes ≤ length after
  unfolding write_answer write_bytes
  text_within out e f = rw (e, f) (within (write_outcome table b out) (text_on table b) out)

  pub sets_within : (cands : List ℤ) (l : ℤ) (sets : List ℕ) {told : Listing} {after : List ℕ} → told ≡ smallest_answer table b cands l sets
      → after ≡ smallest_sets table b cands l sets → told.count ≤ length after
  unfolding smallest_answer smallest_sets
  sets_within cands l sets e f = rw (e, f) (within (smallest_outcome table b cands l sets) (smallest_on table b cands l) sets)
