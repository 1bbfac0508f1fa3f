-- What a call does to the world, by its kind: it opens, leaves all as it was, changes one flag for one furnace, or adds rules. Laws of what is so
-- after any calls go by the kinds; each call has its kind here, once.
use Rattle.meaning.proofs.Kit.{◌≡◌, ◌∙◌, refl, inl, inr, ◌⊎◌, true, false, Bool, ◌&&◌, not, List, [], ◌∷◌, ◌++◌, ℕ, eqb, ℤ}
use Rattle.meaning.specs.Tests.{all}
use Rattle.meaning.specs.Formulae.{Formula}
use Rattle.literals.specs.Literal.{place_of}
use Rattle.literals.specs.declared.refusal.Refusal.{Refusal}
use Rattle.formula.specs.Answers.{formula_of}
use Rattle.board.specs.Faults.{if_done}
use Rattle.std.specs.Prelude.{Ok, Err}
use Rattle.positions.specs.Positions.{formulae_of, suits}
use Rattle.stack.specs.Stacking.{top, on_top, less_top, stack_of}
use Rattle.stack.specs.declared.Stack.{Stack}
use Rattle.dimacs.specs.Form.{parse_text}
use Rattle.dimacs.specs.Reading.{formulae_in}
use Rattle.chains.specs.Form.{whole_text}
use Rattle.promises.specs.Calls.{Call, opens, adds, enters, holds, withdraws, pushes, pops, asks, asks_whole, explains, settles, grounds, blames}
use Rattle.promises.specs.Calls.{lists, asks_least, reads, writes, reads_text, adds_text, writes_text, World, outcome, after, rules_after, formula_in}
use Rattle.promises.specs.Calls.{not_open, entry_of, names_furnace, changes_premises, brings, takes}
use Rattle.promises.proofs.Refusals.{refused_same, done_or_refused}
use Rattle.promises.proofs.Changes.{Flagged, hold_flagged, withdraw_flagged, push_flagged, pop_flagged}
use Rattle.promises.proofs.Tested.{Added, rule_added, entry_added, entry_suits, rule_text_added, text_added}

-- it sets or clears the flag of a literal, and leaves its furnace a stack: both are of the stack that the furnace had
pub record Flags (c : Call) (furnace : ℕ) (literal : Stack → ℤ) (flag : Bool) (left : Stack → Stack) : Type 0 where
  pub not_open : not_open c ≡ true
  pub changing : changes_premises c ≡ true
  pub naming : (f : ℕ) → names_furnace f c ≡ eqb furnace f
  pub bringing : (f : ℕ) → brings f c ≡ flag && eqb furnace f
  pub taking : (w : World) (f h : ℕ) → takes w f h c ≡ not flag && (eqb furnace f && eqb (place_of (literal (stack_of w.stacks furnace))) h)
  pub rules : (w : World) (fs : List Formula) → rules_after w fs c ≡ fs
  pub entry : entry_of c ≡ []
  pub done : (w : World) → outcome w c ≡ Ok tt → let s = stack_of w.stacks furnace in Flagged w (after w c) furnace (literal s) flag (left s)

-- it adds the rules of formulae, which may be read with the board's symbols, and tells a count
pub record Adds (c : Call) (lent : ℕ) (new : ℕ → List Formula) (count : World → ℕ) : Type 0 where
  pub not_open : not_open c ≡ true
  pub naming : (f : ℕ) → names_furnace f c ≡ false
  pub bringing : (f : ℕ) → brings f c ≡ true
  pub rules : (w : World) (fs : List Formula) → rules_after w fs c ≡ if_done (outcome w c) (fs ++ new w.board.symbols) (λ _. fs)
  pub suiting : (w : World) → outcome w c ≡ Ok tt → all (suits w.board.symbols) (entry_of c) ≡ true
  pub done : (w : World) → outcome w c ≡ Ok tt → Added w (after w c) lent (new w.board.symbols) (count w)

-- the four kinds; an idle call leaves the world as it was, and adds to neither the rules nor what was entered
pub data Kind : Call → Type 0 where
  opener : (S : ℕ) → Kind (opens S)
  idle : {c : Call} → not_open c ≡ true → ((w : World) → after w c ≡ w) → ((w : World) (fs : List Formula) → rules_after w fs c ≡ fs)
      → entry_of c ≡ [] → Kind c
  flagger : {c : Call} {furnace : ℕ} {literal : Stack → ℤ} {flag : Bool} {left : Stack → Stack} → Flags c furnace literal flag left → Kind c
  adder : {c : Call} {lent : ℕ} {new : ℕ → List Formula} {count : World → ℕ} → Adds c lent new count → Kind c

-- these two by their facts, in one order
flags : {c : Call} {furnace : ℕ} {flag : Bool} (literal : Stack → ℤ) (left : Stack → Stack)
    → ((w : World) → outcome w c ≡ Ok tt → let s = stack_of w.stacks furnace in Flagged w (after w c) furnace (literal s) flag (left s))
    → not_open c ≡ true → changes_premises c ≡ true → ((f : ℕ) → names_furnace f c ≡ eqb furnace f) → ((f : ℕ) → brings f c ≡ flag && eqb furnace f)
    → ((w : World) (f h : ℕ) → takes w f h c ≡ not flag && (eqb furnace f && eqb (place_of (literal (stack_of w.stacks furnace))) h))
    → ((w : World) (fs : List Formula) → rules_after w fs c ≡ fs) → entry_of c ≡ [] → Kind c
flags literal left done n ch na br ta ru en =
    flagger {literal = literal} {left = left}
    (record { done = done; not_open = n; changing = ch; naming = na; bringing = br; taking = ta; rules = ru; entry = en })

more : {c : Call} {lent : ℕ} {count : World → ℕ} (new : ℕ → List Formula)
    → ((w : World) → outcome w c ≡ Ok tt → Added w (after w c) lent (new w.board.symbols) (count w))
    → ((w : World) → outcome w c ≡ Ok tt → all (suits w.board.symbols) (entry_of c) ≡ true)
    → not_open c ≡ true → ((f : ℕ) → names_furnace f c ≡ false) → ((f : ℕ) → brings f c ≡ true)
    → ((w : World) (fs : List Formula) → rules_after w fs c ≡ if_done (outcome w c) (fs ++ new w.board.symbols) (λ _. fs)) → Kind c
more new done su n na br ru = adder {new = new} (record { done = done; suiting = su; not_open = n; naming = na; bringing = br; rules = ru })

pub kind : (c : Call) → Kind c
unfolding after rules_after
kind (opens S) = opener S
kind (adds lent bytes) = more (λ S. formula_in S bytes ∷ []) (λ w. rule_added w lent bytes) (λ w d. refl) refl (λ f. refl) (λ f. refl) (λ w fs. refl)
kind (enters lent e) =
    more (λ S. formulae_of e) (λ w. entry_added w lent e) (λ w d. rw (entry_suits w lent e d)) refl (λ f. refl) (λ f. refl) (λ w fs. refl)
kind (holds lent furnace l) =
    flags (λ s. l) (λ s. s) (λ w. hold_flagged w lent furnace l) refl refl (λ f. refl) (λ f. refl) (λ w f h. refl) (λ w fs. refl) refl
kind (withdraws lent furnace l) =
    flags (λ s. l) (λ s. s) (λ w. withdraw_flagged w lent furnace l) refl refl (λ f. refl) (λ f. refl) (λ w f h. refl) (λ w fs. refl) refl
kind (pushes lent furnace l) =
    flags (λ s. l) (λ s. on_top s l) (λ w. push_flagged w lent furnace l) refl refl (λ f. refl) (λ f. refl) (λ w f h. refl) (λ w fs. refl) refl
kind (pops lent furnace) = flags top less_top (λ w. pop_flagged w lent furnace) refl refl (λ f. refl) (λ f. refl) (λ w f h. refl) (λ w fs. refl) refl
kind (asks lent furnace l) = idle refl (λ w. refl) (λ w fs. refl) refl
kind (asks_whole lent furnace l) = idle refl (λ w. refl) (λ w fs. refl) refl
kind (explains lent furnace l) = idle refl (λ w. refl) (λ w fs. refl) refl
kind (settles lent furnace labels ranks supports) = idle refl (λ w. refl) (λ w fs. refl) refl
kind (grounds lent furnace l marks) = idle refl (λ w. refl) (λ w fs. refl) refl
kind (blames lent furnace marks) = idle refl (λ w. refl) (λ w fs. refl) refl
kind (lists lent cands l sets) = idle refl (λ w. refl) (λ w fs. refl) refl
kind (asks_least lent furnace cands) = idle refl (λ w. refl) (λ w fs. refl) refl
kind (reads lent text) =
    more (λ S. formulae_in (parse_text text)) (λ w. text_added w lent text) (λ w d. refl) refl (λ f. refl) (λ f. refl) (λ w fs. refl)
kind (writes lent out) = idle refl (λ w. refl) (λ w fs. refl) refl
kind (reads_text lent text out) = idle refl (λ w. refl) (λ w fs. refl) refl
kind (adds_text lent text) =
    more (λ S. formula_of (whole_text text) ∷ []) (λ w. rule_text_added w lent text) (λ w d. refl) refl (λ f. refl) (λ f. refl) (λ w fs. refl)
kind (writes_text lent bytes out) = idle refl (λ w. refl) (λ w fs. refl) refl

-- what a call did to a world: a refused one, but an open, left all as it was
pub data Moves (w : World) : Call → Type 0 where
  opening : (S : ℕ) → Moves w (opens S)
  unmoved : {c : Call} → after w c ≡ w → ((fs : List Formula) → rules_after w fs c ≡ fs) → Moves w c
  one_flag : {c : Call} {furnace : ℕ} {literal : Stack → ℤ} {flag : Bool} {left : Stack → Stack} → outcome w c ≡ Ok tt
      → Flags c furnace literal flag left → Moves w c
  more_rules : {c : Call} {lent : ℕ} {new : ℕ → List Formula} {count : World → ℕ} → outcome w c ≡ Ok tt → Adds c lent new count → Moves w c

pub moves : (w : World) (c : Call) → Moves w c
moves w c = go (kind c) (done_or_refused (outcome w c))
  where
    go : {c : Call} → Kind c → (outcome w c ≡ Ok tt) ⊎ ((why : Refusal) × (outcome w c ≡ Err why)) → Moves w c
    go (opener S) o = opening S
    go (idle n same rules entry) o = unmoved (same w) (rules w)
    go (flagger x) (inl d) = one_flag d x
    go {c} (flagger x) (inr r) = unmoved (refused_same w c x.not_open r) (x.rules w)
    go (adder x) (inl d) = more_rules d x
    go {c} (adder x) (inr r) = unmoved (refused_same w c x.not_open r) (λ fs. x.rules w fs ∙ rw r.1)
