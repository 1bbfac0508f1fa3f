-- 02, Ticket 13, over calls: what was entered since the last open suits the board, and on a board with only such rules what is told of a position is
-- whether it is removed.
use Rattle.meaning.proofs.Kit.{◌≡◌, ◌∙◌, sym, ap, refl, ⊎_elim, ◌↔◌, true, false, Bool, ◌&&◌, List, [], ◌∷◌, ◌++◌, ℕ, pos}
use Rattle.meaning.specs.Tests.{all}
use Rattle.meaning.specs.Literals.{place, opp, has, conflict}
use Rattle.meaning.specs.Clauses.{all_rows}
use Rattle.meaning.specs.SecondWay.{rules_of}
use Rattle.positions.specs.Positions.{symbol_at, Entry, formulae_of_all, suits}
use Rattle.positions.specs.Removal.{emptied}
use Rattle.meaning.proofs.Tests.{all_append, clash, false_of}
use Rattle.meaning.proofs.Literals.{opp_place}
use Rattle.literals.specs.Literal.{place_of}
use Rattle.board.specs.Faults.{first_fault, if_done}
use Rattle.board.specs.Asking.{standing_if, standing}
use Rattle.board.specs.Faults.{Outcome}
use Rattle.std.specs.Prelude.{Result, Ok, Err}
use Rattle.literals.specs.declared.refusal.Refusal.{Refusal}
use Rattle.board.specs.declared.asking.Standing.{Standing}
use Rattle.board.specs.declared.asking.Standing.TheVariants.{Conflict, RuledOut}
use Rattle.positions.specs.Entering.{entry_faults, entered}
use Rattle.promises.specs.Calls.{Call, opens, World, front, outcome, after, run, not_open, entry_of, entries_after, entries_after_all}
use Rattle.promises.specs.Demands.{rows_of_world, premises_of, derived_set, since, entered_since, EnterNoPlace, EntriesSuit, ValvesRemove}
use Rattle.promises.specs.Demands.{ValvesTold}
use Rattle.promises.proofs.Moves.{Kind, opener, idle, flagger, adder, kind}
use Rattle.promises.proofs.Refusals.{done_or_refused}
use Rattle.promises.proofs.Told.{ask_tells, ask_whole_tells}
use Rattle.promises.proofs.Spared.{spared}
use Rattle.promises.proofs.Asked.{none_here}
use Rattle.promises.proofs.History.{rows_kept_lem, keeps}
use Rattle.positions.proofs.Removal.{removed_is, removal_computed}

pub enter_no_place : EnterNoPlace
unfolding entered
enter_no_place w lent e = ⊎_elim (λ d. rw d) (λ r. rw r.1) (done_or_refused (first_fault (entry_faults (front w lent) w.board e)))

-- ---- what was entered

-- the entries suit the board of a world
abbrev Suited : World → List Entry → Type 0
Suited w entries = all (suits w.board.symbols) entries ≡ true

-- the entry of a call that is done does,
own_suits : (w : World) {c : Call} → Kind c → outcome w c ≡ Ok tt → Suited w (entry_of c)
own_suits w (opener S) d = refl
own_suits w (idle n same rules entry) d = rw entry
own_suits w (flagger x) d = rw x.entry
own_suits w (adder x) d = x.suiting w d

-- and no call but an open changes S: so says the law of premises that are spared, here of none
same_symbols : (w : World) (c : Call) → not_open c ≡ true → (after w c).board.symbols ≡ w.board.symbols
same_symbols w c n = (spared w 1 [] (λ _. ⊥) (λ p h. clash h refl) (λ p h. clash h refl) (c ∷ []) ((n, λ h none d. absurd none), tt)).symbols

step : (w : World) (entries : List Entry) → Suited w entries → (c : Call) → Suited (after w c) (entries_after w entries c)
step w entries k c = go (not_open c) refl
  where
    told : (o : Outcome) → outcome w c ≡ o → Suited w (if_done o (entries ++ entry_of c) (λ _. entries))
    told (Ok _) d = rw (all_append (suits w.board.symbols) entries (entry_of c), k, own_suits w (kind c) d)
    told (Err why) d = k

    go : (t : Bool) → not_open c ≡ t → Suited (after w c) (entries_after w entries c)
    go true n = rw (n, same_symbols w c n) (told (outcome w c) refl)
    go false n = rw n refl

steps : (w : World) (entries : List Entry) (calls : List Call) → Suited w entries → Suited (run w calls) (entries_after_all w entries calls)
steps w entries [] k = k
steps w entries (c ∷ calls) k = steps (after w c) (entries_after w entries c) calls (step w entries k c)

pub entries_suit : EntriesSuit
entries_suit w₀ S calls = steps (after w₀ (opens S)) [] calls refl

-- ---- a board with only such rules

pub valves_remove : ValvesRemove
valves_remove w₀ S calls furnace only fit =
    let w = since w₀ S calls in
    let its-rows : rows_of_world w ≡ all_rows (rules_of w.board.symbols (formulae_of_all (entered_since w₀ S calls))) =
    rows_kept_lem (keeps w₀ S calls) ∙ ap (λ fs. all_rows (rules_of w.board.symbols fs)) only in
    rw its-rows (removal_computed w.board.symbols (entered_since w₀ S calls) (premises_of w furnace) (entries_suit w₀ S calls) fit)

-- ---- and what the calls tell of it

-- of the whole board, conflict is told exactly where there is one;
conflict_told : (clashes derived opposed : Bool) → (◌≡◌ {A = Result Standing Refusal} (Ok (standing_if clashes derived opposed)) (Ok Conflict)) ↔ (clashes ≡ true)
conflict_told true derived opposed = (λ e. refl, λ e. refl)
conflict_told false true opposed = (λ e. cc, λ e. clash e refl)
conflict_told false false true = (λ e. cc, λ e. clash e refl)
conflict_told false false false = (λ e. cc, λ e. clash e refl)

-- and where a literal and its opposite are not both derived, it is ruled out exactly where its opposite is
ruled_out_told : (derived opposed : Bool) → derived && opposed ≡ false
    → (◌≡◌ {A = Result Standing Refusal} (Ok (standing_if (derived && opposed) derived opposed)) (Ok RuledOut)) ↔ (opposed ≡ true)
ruled_out_told true true quiet = clash refl quiet
ruled_out_told true false quiet = (λ e. cc, λ e. clash e refl)
ruled_out_told false true quiet = (λ e. refl, λ e. refl)
ruled_out_told false false quiet = (λ e. cc, λ e. clash e refl)

-- the positive literal of a symbol
plus_ruled_out : (known : List Bool) (s : ℕ) → conflict known ≡ false
    → (◌≡◌ {A = Result Standing Refusal} (Ok (standing known (place_of (pos s)))) (Ok RuledOut)) ↔ (has known (place s false) ≡ true)
unfolding place_of
plus_ruled_out known s quiet =
    rw (opp_place s true)
    (ruled_out_told (has known (place s true)) (has known (place s false)) (rw (opp_place s true) at (none_here known (place s true) quiet)))

pub valves_told : ValvesTold
valves_told w₀ S calls lent furnace only fit =
    let w = since w₀ S calls in
    let entries = entered_since w₀ S calls in
    let held = premises_of w furnace in
    let known = derived_set w furnace in
    let same = valves_remove w₀ S calls furnace only fit in
    let is = removed_is w.board.symbols entries held (entries_suit w₀ S calls) fit in
    record {
      conflict =
          λ l d. (let told = ask_whole_tells w lent furnace l d in
          let r = conflict_told (conflict known) (has known (place_of l)) (has known (opp (place_of l))) in
          (λ e. is.1.1 (sym same.conflicts ∙ r.0 (sym told ∙ e)), λ e. told ∙ r.1 (same.conflicts ∙ is.1.0 e)));
      ruled_out =
          λ full x i m low d. (let told = ask_tells w lent furnace (pos (symbol_at x i)) d in
          let whole : emptied w.board.symbols entries held ≡ false = false_of _ (λ e. full (is.1.1 e)) in
          let off-is = same.ruled_out whole x i m low in
          let r = plus_ruled_out known (symbol_at x i) (same.conflicts ∙ whole) in
          let removal = is.0 x i m low in
          (λ e. removal.1 (sym off-is ∙ r.0 (sym told ∙ e)), λ e. told ∙ r.1 (off-is ∙ removal.0 e)));
    }
