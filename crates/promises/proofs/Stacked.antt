-- 02, Ticket 14, over calls: what the one record is, whatever is called, as long as nobody else writes it.
use Rattle.meaning.proofs.Kit.{◌≡◌, ap, refl, ⊎_elim, true, false, Bool, cond, ◌&&◌, List, [], ◌∷◌, In, in_nil, ◌≤◌, ℕ, ◌-◌, arith, eqb, pos, drop}
use Rattle.meaning.proofs.Kit.{replicate, set, eqb-true}
use Rattle.meaning.specs.Literals.{has}
use Rattle.meaning.proofs.Tests.{both_true, clash, all_at}
use Rattle.literals.specs.Literal.{in_range, place_of}
use Rattle.board.specs.Furnaces.{held_by, with_held}
use Rattle.board.specs.Faults.{first_fault}
use Rattle.board.specs.Changes.{open_faults, opened, flag_changed, withdraw_answer}
use Rattle.board.proofs.Goodness.{good_is}
use Rattle.board.proofs.TwoSets.{held_own, held_other}
use Rattle.stack.specs.Stacking.{on_stack, top, empty_stack, stack_of, stacked, good_stacks}
use Rattle.stack.specs.Steps.{opened_with}
use Rattle.stack.specs.declared.Stack.{Stack}
use Rattle.stack.proofs.GoodStacks.{stack_is}
use Rattle.stack.proofs.Own.{Own, own_empty}
use Rattle.stack.proofs.Kept.{Kept, kept_empty, kept_good, own_of, with_own, empty_good, empty_unstacked}
use Rattle.stack.proofs.Stepping.{withdraw_refused, withdraw_done}
use Rattle.promises.specs.Calls.{Call, opens, adds, enters, holds, withdraws, pushes, pops, asks, asks_whole, explains, settles, grounds, blames}
use Rattle.promises.specs.Calls.{lists, asks_least, reads, writes, reads_text, adds_text, writes_text, World, front, answer, outcome, after, run}
use Rattle.promises.specs.Demands.{premises_of, since, AlwaysSince, StacksStayGood, StackedHeld, ZerosBeyond, OnlyPop, PopTells, NeverStacked}
use Rattle.promises.proofs.Refusals.{done_or_refused}
use Rattle.promises.proofs.Changes.{withdraw_free, pop_flagged}
use Rattle.promises.proofs.Moves.{Moves, opening, unmoved, one_flag, more_rules, moves}
use Rattle.promises.proofs.Told.{settle_tells}
use Rattle.promises.proofs.Good.{stays_good}

-- after a good open the premises and stacks of both furnaces are as the calls leave them; after a refused one there is no symbol
abbrev pub Sound : World → Type 0
Sound w = 1 ≤ w.board.symbols → Kept w.board w.stacks

pub sound_open : (w : World) (S : ℕ) → Sound (after w (opens S))
unfolding after opened_with opened
sound_open w S =
    ⊎_elim (λ e. rw e (λ some. kept_empty S)) (λ r. rw r.1 (λ some. absurd (omega arith))) (done_or_refused (first_fault (open_faults S)))

module _ (w : World) (k : Sound w) where
  moved : {c : Call} → Moves w c → Sound (after w c)
  unfolding with_held
  moved (opening S) = sound_open w S
  moved (unmoved same rules) = rw same k
  moved (one_flag {furnace = furnace} d x) =
      let f = x.done w d in rw f.next_is (λ some. with_own (k some) furnace (f.own (own_of (k some) furnace f.named)))
  moved (more_rules d x) = let a = x.done w d in rw (a.board, a.stacks) (λ some. record { first = (k some).first; second = (k some).second })

  pub sound_after : (c : Call) → Sound (after w c)
  sound_after c = moved (moves w c)

pub sound_all : (w : World) (calls : List Call) → Sound w → Sound (run w calls)
sound_all w [] k = k
sound_all w (c ∷ calls) k = sound_all (after w c) calls (sound_after w k c)

-- ---- since a good open

pub kept_always : AlwaysSince (λ w. Kept w.board w.stacks)
kept_always w₀ S calls e n = sound_all (after w₀ (opens S)) calls (sound_open w₀ S) (good_is _ _ (stays_good w₀ S calls e n)).some

pub stacks_stay_good : StacksStayGood
stacks_stay_good w₀ S calls e n = kept_good (kept_always w₀ S calls e n)

-- of any number: what is so of both furnaces, and of no premise and an empty stack
of_any : (w : World) (So : List Bool → Stack → Type 0) → So w.board.first w.stacks.first → So w.board.second w.stacks.second
    → So [] empty_stack → (furnace : ℕ) → So (premises_of w furnace) (stack_of w.stacks furnace)
unfolding held_by
of_any w So first second neither furnace = go (eqb furnace 1) (eqb furnace 2)
  where
    go : (one two : Bool) → So (cond one w.board.first (cond two w.board.second []))
        (cond one w.stacks.first (cond two w.stacks.second empty_stack))
    go true two = first
    go false true = second
    go false false = neither

pub stacked_held : StackedHeld
stacked_held w₀ S calls e n furnace l m =
    let k = kept_always w₀ S calls e n in
    of_any w (λ held s. In l (on_stack s) → has held (place_of l) ≡ true) (held_on k.first) (held_on k.second) (λ i. absurd (in_nil i)) furnace m
  where
    w : World
    w = since w₀ S calls

    held_on : {held : List Bool} {s : Stack} → Own w.board.symbols held s → In l (on_stack s) → has held (place_of l) ≡ true
    held_on {held} {s} o i =
        (both_true (in_range w.board.symbols l) (has held (place_of l))
        (all_at (λ x. in_range w.board.symbols x && has held (place_of x)) (stack_is w.board.symbols held s o.good).held_each i)).1

pub zeros_beyond : ZerosBeyond
zeros_beyond w₀ S calls e n =
    let k = kept_always w₀ S calls e n in
    of_any (since w₀ S calls) (λ held s. drop s.count s.literals ≡ replicate (400 - s.count) (pos 0)) k.first.zeros k.second.zeros
    (own_empty 0).zeros

-- ---- what takes a stacked premise

pub only_pop : OnlyPop
unfolding stacked
only_pop w (opens S) furnace l d n on takes = clash n refl
only_pop w (adds lent bytes) furnace l d n on takes = clash takes refl
only_pop w (enters lent e) furnace l d n on takes = clash takes refl
only_pop w (holds lent named k) furnace l d n on takes = clash takes refl
only_pop w (withdraws lent named k) furnace l d n on takes =
    let both = both_true (eqb named furnace) (eqb (place_of k) (place_of l)) takes in
    clash on (rw (eqb-true named furnace both.0, eqb-true (place_of k) (place_of l) both.1) at (withdraw_free w lent named k d))
only_pop w (pushes lent named k) furnace l d n on takes = clash takes refl
only_pop w (pops lent named) furnace l d n on takes =
    let both = both_true (eqb named furnace) (eqb (place_of (top (stack_of w.stacks named))) (place_of l)) takes in
    (lent, ap (pops lent) (eqb-true named furnace both.0))
only_pop w (asks lent named k) furnace l d n on takes = clash takes refl
only_pop w (asks_whole lent named k) furnace l d n on takes = clash takes refl
only_pop w (explains lent named k) furnace l d n on takes = clash takes refl
only_pop w (settles lent named labels ranks supports) furnace l d n on takes = clash takes refl
only_pop w (grounds lent named k marks) furnace l d n on takes = clash takes refl
only_pop w (blames lent named marks) furnace l d n on takes = clash takes refl
only_pop w (lists lent cands k sets) furnace l d n on takes = clash takes refl
only_pop w (asks_least lent named cands) furnace l d n on takes = clash takes refl
only_pop w (reads lent text) furnace l d n on takes = clash takes refl
only_pop w (writes lent out) furnace l d n on takes = clash takes refl
only_pop w (reads_text lent text out) furnace l d n on takes = clash takes refl
only_pop w (adds_text lent text) furnace l d n on takes = clash takes refl
only_pop w (writes_text lent bytes out) furnace l d n on takes = clash takes refl

-- ---- after a pop

pub pop_tells : PopTells
unfolding with_held
pop_tells w lent furnace e =
    let f = pop_flagged w lent furnace e in
    let now = set (premises_of w furnace) (place_of (top (stack_of w.stacks furnace))) false in
    rw f.next_is
    (record {
      table = refl;
      symbols = refl;
      rows = refl;
      own = held_own w.board furnace now f.named;
      others = held_other w.board furnace now;
      settle = settle_tells _ [];
    })

-- ---- where nothing is stacked

pub never_stacked : NeverStacked
unfolding answer outcome after flag_changed
never_stacked w lent furnace l first second =
    ⊎_elim
    (λ e. (let r = withdraw_done (front w lent) w.board w.stacks furnace l good e (empty_unstacked w.stacks first second furnace l) in
    (rw r, rw r)))
    (λ x. (let r = withdraw_refused (front w lent) w.board w.stacks furnace l good x.1 in
    (rw (r, x.1), rw (r, x.1))))
    (done_or_refused (withdraw_answer (front w lent) w.board furnace l).outcome)
  where
    good : good_stacks w.board w.stacks ≡ true
    good = empty_good w.stacks first second w.board
