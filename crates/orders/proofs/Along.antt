-- The desk's state is `run` of the calls its lines are.
use Rattle.meaning.proofs.Kit.{◌≡◌, ◌∙◌, sym, ap, refl, ⊎_elim, List, [], ◌∷◌, ◌++◌}
use Rattle.meaning.proofs.Tests.{true_or_false}
use Rattle.board.specs.Faults.{if_done}
use Rattle.board.specs.Faults.{Outcome}
use Rattle.std.specs.Prelude.{Ok, Err}
use Rattle.promises.specs.Calls.{Call, opens, World, outcome, after, run}
use Rattle.orders.specs.Lines.{Line, opening, naming, working, calling, asking, slipping, resting}
use Rattle.orders.specs.States.{State, ordered, did, calls_of, tells, is_made}
use Rattle.orders.specs.Promises.{calls_along, IsRun}

run_both : (w : World) (calls others : List Call) → run w (calls ++ others) ≡ run (run w calls) others
run_both w [] others = refl
run_both w (c ∷ calls) others = run_both (after w c) calls others

-- the board, the table and the record that a line leaves are those of the calls that it is
pub did_run : (s : State) (line : Line) → (did s line).world ≡ run s.world (calls_of s line)
unfolding did
did_run s (opening S) = go (outcome s.world (opens S)) _ refl
  where
    go : (o : Outcome) (next : State) → next.world ≡ after s.world (opens S)
        → (if_done o next (λ _. s)).world ≡ run s.world (if_done o (opens S ∷ []) (λ _. []))
    go (Ok _) next e = e
    go (Err why) next e = refl
did_run s (naming n word) = ⊎_elim (λ e. rw e) (λ e. rw e) (true_or_false (is_made (tells s (naming n word)).reply))
did_run s (working f) = refl
did_run s (calling c) = refl
did_run s asking = refl
did_run s (slipping slip k) = refl
did_run s resting = refl

pub is_run : IsRun
is_run s [] = refl
is_run s (line ∷ lines) =
    let next = did s (ordered s line) in
    is_run next lines
    ∙ ap (λ (w : World). run w (calls_along next lines)) (did_run s (ordered s line))
    ∙ sym (run_both s.world (calls_of s (ordered s line)) (calls_along next lines))
