-- From the code to the world: where a call answers what its contract says, the board it hands back, the table it leaves and the record that it was
-- lent are those of `after`. The calls that hand back no board change nothing.
use Rattle.meaning.proofs.Kit.{◌≡◌, ap, refl, ap₂, List, ◌++◌, ℕ, ℤ, drop}
use Rattle.positions.specs.Positions.{Entry}
use Rattle.board.specs.Changes.{hold_answer}
use Rattle.board.specs.Rules.{ruled, ruled_table}
use Rattle.board.specs.declared.Board.{Board}
use Rattle.board.specs.declared.Change.{Change}
use Rattle.board.specs.declared.rules.Addition.{Addition}
use Rattle.stack.specs.Steps.{opened_with, withdrawn_with, pushed, popped}
use Rattle.stack.specs.declared.Step.{Step}
use Rattle.positions.specs.Entering.{entered, entered_table}
use Rattle.dimacs.specs.Reading.{read_answer, read_table}
use Rattle.dimacs.specs.declared.reading.Reading.{Reading}
use Rattle.text.specs.Adding.{ruled_text, ruled_text_table}
use Rattle.promises.specs.Calls.{opens, adds, enters, holds, withdraws, pushes, pops, asks, asks_whole, explains, settles, grounds, blames}
use Rattle.promises.specs.Calls.{lists, asks_least, reads, writes, reads_text, adds_text, writes_text, World, front, step_to, after}

module _ (w : World) where
  -- the world with the board of an answer
  with_board : Change → World
  with_board c = record { board = c.board; table = w.table; stacks = w.stacks }

  open_carried : (S : ℕ) (r : Step) → r ≡ opened_with S w.stacks → step_to w r ≡ after w (opens S)
  unfolding after
  open_carried S r e = ap (step_to w) e

  module _ (lent : ℕ) where
    -- with that board, and the part that was lent as the call left it
    with_part : Board → List ℤ → World
    with_part b part = record { board = b; table = part ++ drop lent w.table; stacks = w.stacks }

    rule_carried : (bytes : List ℕ) (r : Addition) (t : List ℤ) → r ≡ ruled (front w lent) w.board bytes
        → t ≡ ruled_table (front w lent) w.board bytes → with_part r.board t ≡ after w (adds lent bytes)
    unfolding after with_part
    rule_carried bytes r t e f = ap₂ (λ (a : Addition). with_part a.board) e f

    enter_carried : (e : Entry) (r : Addition) (t : List ℤ) → r ≡ entered (front w lent) w.board e
        → t ≡ entered_table (front w lent) w.board e → with_part r.board t ≡ after w (enters lent e)
    unfolding after with_part
    enter_carried e r t is left = ap₂ (λ (a : Addition). with_part a.board) is left

    read_carried : (text : List ℕ) (r : Reading) (t : List ℤ) → r ≡ read_answer (front w lent) w.board text
        → t ≡ read_table (front w lent) w.board text → with_part r.board t ≡ after w (reads lent text)
    unfolding after with_part
    read_carried text r t e f = ap₂ (λ (a : Reading). with_part a.board) e f

    rule_text_carried : (text : List ℕ) (r : Addition) (t : List ℤ) → r ≡ ruled_text (front w lent) w.board text
        → t ≡ ruled_text_table (front w lent) w.board text → with_part r.board t ≡ after w (adds_text lent text)
    unfolding after with_part
    rule_text_carried text r t e f = ap₂ (λ (a : Addition). with_part a.board) e f

    hold_carried : (furnace : ℕ) (l : ℤ) (r : Change) → r ≡ hold_answer (front w lent) w.board furnace l
        → with_board r ≡ after w (holds lent furnace l)
    unfolding after with_board
    hold_carried furnace l r e = ap with_board e

    withdraw_carried : (furnace : ℕ) (l : ℤ) (r : Step) → r ≡ withdrawn_with (front w lent) w.board w.stacks furnace l
        → step_to w r ≡ after w (withdraws lent furnace l)
    unfolding after
    withdraw_carried furnace l r e = ap (step_to w) e

    push_carried : (furnace : ℕ) (l : ℤ) (r : Step) → r ≡ pushed (front w lent) w.board w.stacks furnace l
        → step_to w r ≡ after w (pushes lent furnace l)
    unfolding after
    push_carried furnace l r e = ap (step_to w) e

    pop_carried : (furnace : ℕ) (r : Step) → r ≡ popped (front w lent) w.board w.stacks furnace → step_to w r ≡ after w (pops lent furnace)
    unfolding after
    pop_carried furnace r e = ap (step_to w) e

    ask_changes_nothing : (furnace : ℕ) (l : ℤ) → after w (asks lent furnace l) ≡ w
    unfolding after
    ask_changes_nothing furnace l = refl

    ask_whole_changes_nothing : (furnace : ℕ) (l : ℤ) → after w (asks_whole lent furnace l) ≡ w
    unfolding after
    ask_whole_changes_nothing furnace l = refl

    explain_changes_nothing : (furnace : ℕ) (l : ℤ) → after w (explains lent furnace l) ≡ w
    unfolding after
    explain_changes_nothing furnace l = refl

    settle_changes_nothing : (furnace : ℕ) (labels ranks supports : List ℕ) → after w (settles lent furnace labels ranks supports) ≡ w
    unfolding after
    settle_changes_nothing furnace labels ranks supports = refl

    ground_changes_nothing : (furnace : ℕ) (l : ℤ) (marks : List ℕ) → after w (grounds lent furnace l marks) ≡ w
    unfolding after
    ground_changes_nothing furnace l marks = refl

    blame_changes_nothing : (furnace : ℕ) (marks : List ℕ) → after w (blames lent furnace marks) ≡ w
    unfolding after
    blame_changes_nothing furnace marks = refl

    list_changes_nothing : (cands : List ℤ) (l : ℤ) (sets : List ℕ) → after w (lists lent cands l sets) ≡ w
    unfolding after
    list_changes_nothing cands l sets = refl

    least_changes_nothing : (furnace : ℕ) (cands : List ℤ) → after w (asks_least lent furnace cands) ≡ w
    unfolding after
    least_changes_nothing furnace cands = refl

    write_changes_nothing : (out : List ℕ) → after w (writes lent out) ≡ w
    unfolding after
    write_changes_nothing out = refl

    read_text_changes_nothing : (text out : List ℕ) → after w (reads_text lent text out) ≡ w
    unfolding after
    read_text_changes_nothing text out = refl

    write_text_changes_nothing : (bytes out : List ℕ) → after w (writes_text lent bytes out) ≡ w
    unfolding after
    write_text_changes_nothing bytes out = refl
