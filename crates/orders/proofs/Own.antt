-- The desk's own lines: a new board, a name, a furnace.
use Rattle.meaning.proofs.Kit.{◌≡◌, ap, refl, true, false, Bool, cond, List, [], ◌∷◌, ℕ, suc, zero, ℤ, replicate}
use Rattle.std.specs.Prelude.{Ok, Err}
use Rattle.literals.specs.declared.refusal.Refusal.{Refusal}
use Rattle.stack.specs.Steps.{opened_with}
use Rattle.names.specs.Slots.{padded}
use Rattle.names.specs.Names.{table_length}
use Rattle.promises.specs.Calls.{after, answer, outcome}
use Rattle.orders.specs.Lines.{opening, naming, working}
use Rattle.orders.specs.States.{State, state_of, did, tells, simply, is_made, named_reply, with_name, worked, work_reply, Does}
use Rattle.orders.specs.declared.Desk.{Desk}
use Rattle.orders.specs.declared.Told.{Told}
use Rattle.orders.specs.declared.Reply.TheVariants.{Done as Made, Refused as Denied}

-- a slot of an empty word is all zeros
pub zeros : (n : ℕ) → padded n [] ≡ replicate n 0
unfolding padded
zeros zero = refl
zeros (suc n) = ap (λ (l : List ℕ). 0 ∷ l) (zeros n)

module _ (d : Desk) (table : List ℤ) (names : List ℕ) where
  abbrev now_there : State
  now_there = state_of d table names

  pub opened_does : (S : ℕ) → (opened_with S d.stacks).change.outcome ≡ Ok tt
      → let step = opened_with S d.stacks in
      Does now_there
      (state_of (record { board = step.change.board; stacks = step.stacks; furnace = 1 }) table (replicate table_length 0))
      (opening S) (simply Made)
  unfolding did tells after answer outcome
  opened_does S e = record { moved = rw e; says = rw e }

  pub unopened_does : (S : ℕ) (why : Refusal) → (opened_with S d.stacks).change.outcome ≡ Err why
      → Does now_there now_there (opening S) (simply (Denied why))
  unfolding did tells after answer outcome
  unopened_does S why e = record { moved = rw e; says = rw e }

  pub worked_does : (f : ℕ)
      → Does now_there
      (state_of (record { board = d.board; stacks = d.stacks; furnace = worked d.furnace f }) table names)
      (working f) (simply (work_reply f))
  unfolding did tells
  worked_does f = record { moved = refl; says = refl }

  pub named_does : (s : ℕ) (word : List ℕ) (told : Told) → told ≡ named_reply d.board.symbols names s word
      → Does now_there (state_of d table (cond (is_made told.reply) (with_name names s word) names)) (naming s word) told
  unfolding did tells
  named_does s word told e = record { moved = rw (← e) (go (is_made told.reply)); says = e }
    where
      go : (b : Bool)
          → state_of d table (cond b (with_name names s word) names)
          ≡ cond b (record { world = now_there.world; furnace = d.furnace; names = with_name names s word }) now_there
      go true = refl
      go false = refl
