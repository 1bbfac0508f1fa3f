-- What each call leaves of the desk, lent the whole table.
use Rattle.meaning.proofs.Kit.{◌≡◌, List, ◌++◌, append-nil, ℕ, arith, ℤ, length, drop, drop_of_length-le, take-length}
use Rattle.board.specs.Changes.{hold_answer}
use Rattle.board.specs.declared.rules.Addition.{Addition}
use Rattle.stack.specs.Steps.{withdrawn_with, pushed, popped}
use Rattle.stack.specs.declared.Step.{Step}
use Rattle.positions.specs.Positions.{Entry}
use Rattle.positions.specs.Entering.{entered, entered_table}
use Rattle.text.specs.Adding.{ruled_text, ruled_text_table}
use Rattle.promises.specs.Calls.{Call, adds_text, enters, holds, withdraws, pushes, pops, answer, after}
use Rattle.orders.specs.Lines.{calling}
use Rattle.orders.specs.States.{state_of, did, tells, simply, reply_of, Does}
use Rattle.orders.specs.declared.Desk.{Desk}

module _ (d : Desk) (table : List ℤ) (names : List ℕ) where
  abbrev pub stepped : Step → Desk
  stepped step = record { board = step.change.board; stacks = step.stacks; furnace = d.furnace }

  -- a call that is lent the record comes to this step
  abbrev Steps : Call → Step → Type 0
  Steps c step = Does (state_of d table names) (state_of (stepped step) table names) (calling c) (simply (reply_of step.change.outcome))

  pub held_does : (f : ℕ) (l : ℤ) → Steps (holds (length table) f l) (record { change = hold_answer table d.board f l; stacks = d.stacks })
  unfolding did tells after answer
  held_does f l = record { moved = rw (take-length table); says = rw (take-length table) }

  pub dropped_does : (f : ℕ) (l : ℤ) → Steps (withdraws (length table) f l) (withdrawn_with table d.board d.stacks f l)
  unfolding did tells after answer
  dropped_does f l = record { moved = rw (take-length table); says = rw (take-length table) }

  pub pushed_does : (f : ℕ) (l : ℤ) → Steps (pushes (length table) f l) (pushed table d.board d.stacks f l)
  unfolding did tells after answer
  pushed_does f l = record { moved = rw (take-length table); says = rw (take-length table) }

  pub popped_does : (f : ℕ) → Steps (pops (length table) f) (popped table d.board d.stacks f)
  unfolding did tells after answer
  popped_does f = record { moved = rw (take-length table); says = rw (take-length table) }

  -- ---- rules

  abbrev grown : (a : Addition) → Desk
  grown a = record { board = a.board; stacks = d.stacks; furnace = d.furnace }

  -- a call that adds rules comes to this addition and this table
  abbrev Adds : Call → Addition → List ℤ → Type 0
  Adds c a next =
      Does (state_of d table names) (state_of (grown a) next names) (calling c)
      (record { reply = reply_of a.outcome; place = a.place; added = a.added })

  whole : (next : List ℤ) → next ++ drop (length table) table ≡ next
  whole next = rw (drop_of_length-le table {i = length table} (omega arith)) (append-nil next)

  pub ruled_does : (text : List ℕ) → Adds (adds_text (length table) text) (ruled_text table d.board text) (ruled_text_table table d.board text)
  unfolding did tells after answer
  ruled_does text = record { moved = rw (take-length table, whole); says = rw (take-length table) }

  pub entered_does : (e : Entry) → Adds (enters (length table) e) (entered table d.board e) (entered_table table d.board e)
  unfolding did tells after answer
  entered_does e = record { moved = rw (take-length table, whole); says = rw (take-length table) }
