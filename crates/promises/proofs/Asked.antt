-- 02, Ticket 11, over calls: ask by symbol, and the old answer as a second call.
use Rattle.meaning.proofs.Kit.{◌≡◌, ◌∙◌, sym, ap, refl, ⊎_elim, ◌↔◌, true, false, Bool, cond, ◌&&◌, not, List, ℕ, suc, ◌*◌, arith, eqb, ℤ, pos}
use Rattle.meaning.proofs.Kit.{nat_abs, negsuc, not-false}
use Rattle.meaning.specs.Literals.{place, opp, has, conflict}
use Rattle.meaning.specs.Rounds.{label_of, label}
use Rattle.meaning.proofs.Tests.{true_or_false, both_true, false_of, clash}
use Rattle.meaning.proofs.Literals.{opp_place, conflict_at}
use Rattle.meaning.proofs.Derived.{derived_is}
use Rattle.meaning.proofs.Growth.{derived_grows}
use Rattle.literals.specs.Literal.{in_range, place_of}
use Rattle.board.specs.Furnaces.{held_by}
use Rattle.board.specs.Faults.{good_board}
use Rattle.board.specs.Asking.{ask_faults, standing_if, standing, asked, asked_whole}
use Rattle.std.specs.Prelude.{Result, Ok, Err}
use Rattle.literals.specs.declared.refusal.Refusal.{Refusal}
use Rattle.board.specs.declared.asking.Standing.{Standing}
use Rattle.board.specs.declared.asking.Standing.TheVariants.{Conflict, Stands, RuledOut, Open}
use Rattle.literals.proofs.Arguments.{range_facts}
use Rattle.board.proofs.Answered.{none_given}
use Rattle.promises.specs.Calls.{asks, asks_whole, World, ask_outcome, of_ask, front, faults, answer, outcome, run}
use Rattle.promises.specs.Demands.{rows_of_world, premises_of, derived_set, ByLabel, AskByLabel, StandsOn, OldAnswer}
use Rattle.promises.proofs.Refusals.{cases, first_case}
use Rattle.promises.proofs.Told.{rows_read, label_at, ask_tells, ask_whole_tells}
use Rattle.promises.proofs.Spared.{Kept, spared}

-- ---- how a literal stands, and its symbol's label

-- the one by the other, where `this` is the label of only this literal derived, and `other` that of only its opposite
abbrev said : (this other label : ℕ) → Result Standing Refusal
said this other label = Ok (cond (eqb label 3) Conflict (cond (eqb label this) Stands (cond (eqb label other) RuledOut Open)))

abbrev labelled : (this other : ℕ) → Result Standing Refusal → ℕ
labelled this other (Ok Conflict) = 3
labelled this other (Ok Stands) = this
labelled this other (Ok RuledOut) = other
labelled this other (Ok Open) = 0
labelled this other (Err why) = 0

exactly : (this other : ℕ) {how : Result Standing Refusal} {label : ℕ} → (how ≡ said this other label) × (label ≡ labelled this other how)
    → (x : Result Standing Refusal) (n : ℕ) → said this other n ≡ x → labelled this other x ≡ n → (how ≡ x) ↔ (label ≡ n)
exactly this other is x n s t = (λ e. is.1 ∙ ap (labelled this other) e ∙ t, λ e. is.0 ∙ ap (said this other) e ∙ s)

-- by what is derived: the literal, its opposite
abbrev stood : (derived opposed : Bool) → Result Standing Refusal
stood derived opposed = Ok (standing_if (derived && opposed) derived opposed)

plus_said : (a b : Bool) → (stood a b ≡ said 1 2 (label_of a b)) × (label_of a b ≡ labelled 1 2 (stood a b))
plus_said true true = (refl, refl)
plus_said true false = (refl, refl)
plus_said false true = (refl, refl)
plus_said false false = (refl, refl)

minus_said : (a b : Bool) → (stood b a ≡ said 2 1 (label_of a b)) × (label_of a b ≡ labelled 2 1 (stood b a))
minus_said true true = (refl, refl)
minus_said true false = (refl, refl)
minus_said false true = (refl, refl)
minus_said false false = (refl, refl)

by_label : (l : ℤ) (known : List Bool) → ByLabel (Ok (standing known (place_of l))) l (label known (nat_abs l))
unfolding place_of
by_label (pos s) known =
    let r = plus_said (has known (place s true)) (has known (place s false)) in
    rw (opp_place s true)
    (record {
      conflict = exactly 1 2 r (Ok Conflict) 3 refl refl;
      stands = exactly 1 2 r (Ok Stands) 1 refl refl;
      ruled_out = exactly 1 2 r (Ok RuledOut) 2 refl refl;
      is_open = exactly 1 2 r (Ok Open) 0 refl refl;
    })
by_label (negsuc k) known =
    let r = minus_said (has known (place (suc k) true)) (has known (place (suc k) false)) in
    rw (opp_place (suc k) false)
    (record {
      conflict = exactly 2 1 r (Ok Conflict) 3 refl refl;
      stands = exactly 2 1 r (Ok Stands) 2 refl refl;
      ruled_out = exactly 2 1 r (Ok RuledOut) 1 refl refl;
      is_open = exactly 2 1 r (Ok Open) 0 refl refl;
    })

pub ask_by_label : AskByLabel
unfolding faults ask_faults
ask_by_label w lent some furnace l labels ranks supports e d =
    let given = none_given (ask_faults (front w lent) w.board furnace l) (cases w (asks lent furnace l) e) in
    let range = range_facts w.board.symbols l (not-false (in_range w.board.symbols l) (given 2)) in
    rw (ask_tells w lent furnace l e, label_at w some furnace labels ranks supports d (nat_abs l) range.0 range.1)
    (by_label l (derived_set w furnace))

-- ---- a mark that stands, with rules and premises more

derived_if : (a b : Bool) → stood a b ≡ Ok Stands → a ≡ true
derived_if true b e = refl
derived_if false true e = let z = ap (labelled 1 2) e in absurd (omega arith)
derived_if false false e = let z = ap (labelled 1 2) e in absurd (omega arith)

module _ (w : World) (lent furnace : ℕ) (l : ℤ) (e : asked (front w lent) w.board furnace l ≡ Ok Stands) where
  done : outcome w (asks lent furnace l) ≡ Ok tt
  unfolding answer outcome
  done = ap ask_outcome e

  is_derived : has (derived_set w furnace) (place_of l) ≡ true
  is_derived = derived_if _ (has (derived_set w furnace) (opp (place_of l))) (sym (ask_tells w lent furnace l done) ∙ e)

  still_derived : (v : World) → Kept w furnace (premises_of w furnace) v → has (derived_set v furnace) (place_of l) ≡ true
  unfolding held_by
  still_derived v k =
      (derived_is (2 * v.board.symbols) (rows_of_world v) (premises_of v furnace) (place_of l)).0
      (rw k.symbols
      (derived_grows k.rows k.premises ((derived_is (2 * w.board.symbols) (rows_of_world w) (premises_of w furnace) (place_of l)).1 is_derived)))

pub stands_on : StandsOn
stands_on w lent some furnace l calls e sparing d =
    let kept = spared w furnace (premises_of w furnace) (λ h. has (premises_of w furnace) h ≡ true) (λ p h. h) (λ p h. h) calls sparing in
    ask_tells (run w calls) some furnace l d ∙ rw (still_derived w lent furnace l e (run w calls) kept)

-- ---- the old answer

-- where there is no conflict, none is of the literal's symbol
pub none_here : (known : List Bool) (p : ℕ) → conflict known ≡ false → has known p && has known (opp p) ≡ false
none_here known p quiet =
    false_of (has known p && has known (opp p)) (λ c. (let both = both_true _ _ c in clash (conflict_at known p both.0 both.1) quiet))

module _ (w : World) (lent furnace : ℕ) (l : ℤ) where
  same_outcome : outcome w (asks_whole lent furnace l) ≡ outcome w (asks lent furnace l)
  unfolding faults
  same_outcome = first_case w (asks_whole lent furnace l) ∙ sym (first_case w (asks lent furnace l))

  same_answer : conflict (derived_set w furnace) ≡ false → answer w (asks_whole lent furnace l) ≡ answer w (asks lent furnace l)
  unfolding answer asked asked_whole ask_faults
  same_answer quiet =
      ⊎_elim
      (λ (g : good_board (front w lent) w.board ≡ true).
      rw (rows_read w lent (ap not g), quiet, none_here (derived_set w furnace) (place_of l) quiet))
      (λ g. rw g) (true_or_false (good_board (front w lent) w.board))

  hidden : conflict (derived_set w furnace) ≡ true → outcome w (asks_whole lent furnace l) ≡ Ok tt → answer w (asks_whole lent furnace l) ≡ of_ask (Ok Conflict)
  unfolding answer
  hidden c e = ap of_ask (ask_whole_tells w lent furnace l e ∙ rw c)

pub old_answer : OldAnswer
old_answer w lent furnace l =
    record { outcomes = same_outcome w lent furnace l; alike = same_answer w lent furnace l; hides = hidden w lent furnace l }
