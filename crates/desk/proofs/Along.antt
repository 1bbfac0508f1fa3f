-- The desk's state after all the input is `run` of the calls its lines are.
use Rattle.meaning.proofs.Kit.{◌≡◌, ◌∙◌, ap, refl, true, false, Bool, cond, List, [], ◌∷◌, ◌++◌, ℕ, eqb, length}
use Rattle.orders.specs.States.{State, ordered, did}
use Rattle.orders.specs.Promises.{after_lines}
use Rattle.orders.proofs.Along.{is_run}
use Rattle.desk.specs.Sittings.{plain, kept, after_line, after_bytes, after_end}
use Rattle.desk.specs.Promises.{lines_from, IsTheRun}

-- the state after a text is the state after its lines
by_lines : (s : State) (line text : List ℕ) → after_end (after_bytes (record { state = s; pending = line }) text) ≡ after_lines s (lines_from line text)
unfolding after_bytes after_end after_line lines_from
by_lines s line [] = go (eqb (length line) 0)
  where
    go : (b : Bool) → cond b s (did s (ordered s (plain line))) ≡ after_lines s (cond b [] (plain line ∷ []))
    go true = refl
    go false = refl
by_lines s line (b ∷ rest) =
    go (eqb b 10) _ _ (by_lines (did s (ordered s (plain line))) [] rest) (by_lines s (kept (line ++ (b ∷ []))) rest) refl
  where
    go : (t : Bool) (next : State) (longer : List ℕ)
        → after_end (after_bytes (record { state = next; pending = [] }) rest) ≡ after_lines next (lines_from [] rest)
        → after_end (after_bytes (record { state = s; pending = longer }) rest) ≡ after_lines s (lines_from longer rest)
        → next ≡ did s (ordered s (plain line))
        → after_end (after_bytes (cond t (record { state = next; pending = [] }) (record { state = s; pending = longer })) rest)
        ≡ after_lines s (cond t (plain line ∷ lines_from [] rest) (lines_from longer rest))
    go true next longer ended on same = ended ∙ ap (λ (t : State). after_lines t (lines_from [] rest)) same
    go false next longer ended on same = on

pub is_the_run : IsTheRun
is_the_run s text = ap (λ (t : State). t.world) (by_lines s.state s.pending text) ∙ is_run s.state (lines_from s.pending text)
