-- What is so after an open and any calls: the rows in use are those of the rules accepted since the last open, each with its rule's number.
use Rattle.meaning.proofs.Kit.{◌≡◌, ◌∙◌, refl, ⊎_elim, true, List, [], ◌∷◌, ◌++◌, map-append, ℕ, ◌+◌, suc, arith, ℤ, length, length-append}
use Rattle.meaning.proofs.Kit.{length-map}
use Rattle.meaning.specs.Tests.{all}
use Rattle.meaning.specs.Formulae.{Formula, rule_of}
use Rattle.meaning.specs.Clauses.{all_rows}
use Rattle.meaning.specs.SecondWay.{accepted, rules_of}
use Rattle.meaning.proofs.Tests.{all_append}
use Rattle.literals.specs.Row.{ruled_in, of_rules}
use Rattle.literals.proofs.RuledRows.{rows_of_table, rows_of_rules, of_rules_append}
use Rattle.board.specs.Furnaces.{with_held}
use Rattle.board.specs.Faults.{first_fault}
use Rattle.board.specs.Changes.{empty_board, open_faults, opened}
use Rattle.stack.specs.Stacking.{empty_stacks}
use Rattle.stack.specs.Steps.{opened_with}
use Rattle.stack.specs.declared.Stacks.{Stacks}
use Rattle.promises.specs.Calls.{Call, opens, World, after, run, rules_after, rules_after_all}
use Rattle.promises.specs.Demands.{rows_of_world, ruled_rows, since, accepted_since}
use Rattle.promises.proofs.Refusals.{done_or_refused}
use Rattle.promises.proofs.Tested.{Added}
use Rattle.promises.proofs.Moves.{Moves, opening, unmoved, one_flag, more_rules, moves}
use Rattle.promises.proofs.Stored.{appends}

pub record Keeps (w : World) (fs : List Formula) : Type 0 where
  pub ruled : ruled_rows w ≡ of_rules 1 (rules_of w.board.symbols fs)
  pub count : w.board.rules ≡ length fs
  pub fine : all (accepted w.board.symbols) fs ≡ true

-- so the rows are the rules'
pub rows_kept_lem : {w : World} {fs : List Formula} → Keeps w fs → rows_of_world w ≡ all_rows (rules_of w.board.symbols fs)
rows_kept_lem {w} {fs} k = rw (← rows_of_table w.board.rows w.table, k.ruled) (rows_of_rules 1 (rules_of w.board.symbols fs))

-- an open, good or refused, leaves no rows in use
empty : (S : ℕ) (table : List ℤ) (stacks : Stacks) → Keeps (record { board = empty_board S; table = table; stacks = stacks }) []
unfolding ruled_in
empty S table stacks = record { ruled = refl; count = refl; fine = refl }

open_step : (w : World) (S : ℕ) → Keeps (after w (opens S)) []
unfolding after opened_with opened
open_step w S =
    ⊎_elim (λ e. rw e (empty S w.table empty_stacks)) (λ r. rw r.1 (empty 0 w.table w.stacks))
    (done_or_refused (first_fault (open_faults S)))

module _ (w : World) (fs : List Formula) (k : Keeps w fs) where
  -- accepted rules more, and their rows
  more : {next : World} {lent : ℕ} {new : List Formula} {count : ℕ} → Added w next lent new count → Keeps next (fs ++ new)
  more {new = new} a =
      let S = w.board.symbols in
      let grown = appends a in
      let next-number : suc w.board.rules ≡ 1 + length (rules_of S fs) = omega (arith, k.count, length-map fs (rule_of S)) in
      record {
        ruled =
            grown.rows
            ∙ rw (grown.symbols, k.ruled, next-number, map-append (rule_of S) fs new, of_rules_append 1 (rules_of S fs) (rules_of S new));
        count = omega (arith, grown.counted, k.count, length-append fs new);
        fine = rw (grown.symbols, all_append (accepted S) fs new, k.fine, a.accepted);
      }

  step : {c : Call} → Moves w c → Keeps (after w c) (rules_after w fs c)
  unfolding rules_after with_held
  step (opening S) = open_step w S
  step (unmoved same rules) = rw (same, rules fs) k
  -- the premises don't matter
  step (one_flag d x) = rw (x.rules w fs, (x.done w d).next_is) (record { ruled = k.ruled; count = k.count; fine = k.fine })
  step (more_rules d x) = rw (x.rules w fs, d) (more (x.done w d))

steps : (w : World) (fs : List Formula) (calls : List Call) → Keeps w fs → Keeps (run w calls) (rules_after_all w fs calls)
steps w fs [] k = k
steps w fs (c ∷ calls) k = steps (after w c) (rules_after w fs c) calls (step w fs k (moves w c))

pub keeps : (w₀ : World) (S : ℕ) (calls : List Call) → Keeps (since w₀ S calls) (accepted_since w₀ S calls)
unfolding rules_after
keeps w₀ S calls = steps (after w₀ (opens S)) [] calls (open_step w₀ S)
