-- By its tests, one after the other.
use Rattle.meaning.proofs.Kit.{◌≡◌, ◌∙◌, cond, ◌&&◌, not, List, ℕ, ◌≤◌, suc, sym, arith, eqb, ne_eqb, eq-eqb, le-leb, lt-leb}
use Rattle.std.proofs.Common.{Option}
use Rattle.std.specs.Option.{is_some, unwrap_or}
use Rattle.meaning.specs.Tests.{none}
use Rattle.names.specs.Names.{name_slot}
use Rattle.names.proofs.Finding.{slot_few}
use Rattle.orders.specs.States.{named_reply, simply}
use Rattle.orders.specs.declared.Reply.TheVariants.{Done as Made, Not}
use Rattle.orders.specs.declared.Slip.TheVariants.{NameTaken}
use Rattle.orders.proofs.taking.judge_name.Goals as goal
use Rattle.orders.proofs.taking.judge_name.Goals.{in_default-via-in-Some+else-slot-symbol, in_default-via-in_default}

pub returns-then-symbols-eq0 : goal.returns-then-symbols-eq0
unfolding named_reply
returns-then-symbols-eq0 c = c.told.ensures ∙ rw c.if-symbols-eq0.true

pub returns-then-symbol-lt1 : goal.returns-then-symbol-lt1
unfolding named_reply
returns-then-symbol-lt1 c =
    c.told-then-symbol-lt1.ensures ∙ rw (ne_eqb _ 0 c.if-symbols-eq0.false, lt-leb 1 c.args.symbol (omega arith))

pub returns-then-symbols-symbol : goal.returns-then-symbols-symbol
unfolding named_reply
returns-then-symbols-symbol c =
    let a = c.args in
    c.told-then-symbols-symbol.ensures ∙ rw (ne_eqb _ 0 c.if-symbols-eq0.false, le-leb 1 a.symbol (omega arith), lt-leb a.symbol a.symbols (omega arith))

pub returns-then-symbol-gt-SYMBOLS : goal.returns-then-symbol-gt-SYMBOLS
unfolding named_reply
returns-then-symbol-gt-SYMBOLS c =
    let a = c.args in
    let low = le-leb 1 a.symbol (omega arith) in
    c.told-then-symbol-gt-SYMBOLS.ensures
    ∙ rw (ne_eqb _ 0 c.if-symbols-eq0.false, low, le-leb a.symbol a.symbols (omega arith), lt-leb a.symbol 200 (omega arith))

pub overflow_add-slot : goal.overflow_add-slot
overflow_add-slot c = omega (arith, slot_few c.args.names.now c.args.given.now c.in-Some.slot (sym c.in-Some.ensures))

-- where the symbol is one of the board's that there is a slot for: by the slot of the name
judged : (S s : ℕ) (names word : List ℕ) (slot : Option ℕ) → slot ≡ name_slot names word → (S ≡ 0 → ⊥) → 1 ≤ s → s ≤ S → s ≤ 200
    → named_reply S names s word
    ≡ cond (is_some slot && not (eqb (suc (unwrap_or slot none)) s)) (record { reply = Not NameTaken; place = 2; added = 0 }) (simply Made)
unfolding named_reply
judged S s names word slot e some low within few = rw (ne_eqb S 0 some, le-leb 1 s low, le-leb s S within, le-leb s 200 few, ← e)

pub returns-in-Some : goal.returns-in-Some
returns-in-Some c =
    let a = c.args in
    let other = ne_eqb (suc c.in-Some.slot) a.symbol (λ e. c.if-slot-symbol.true (omega (arith, e))) in
    let is = judged a.symbols a.symbol _ _ _ c.in-Some.ensures c.if-symbols-eq0.false (omega arith) (omega arith) (omega arith) in
    c.told-in-Some.ensures ∙ rw (is, other)

pub returns-in_default : goal.returns-in_default
returns-in_default c =
    let a = c.args in
    elim c.in_default.branch [
      | in_default-via-in-Some+else-slot-symbol w ↦
          let same = eq-eqb (suc w.in-Some.slot) a.symbol (omega (arith, w.if-slot-symbol.false)) in
          let is = judged a.symbols a.symbol _ _ _ w.in-Some.ensures c.if-symbols-eq0.false (omega arith) (omega arith) (omega arith) in
          c.told-in_default.ensures ∙ rw (is, same)
      | in_default-via-in_default w ↦
          c.told-in_default.ensures
          ∙ rw (judged a.symbols a.symbol _ _ _ w.in_default.ensures c.if-symbols-eq0.false (omega arith) (omega arith) (omega arith))
    ]
