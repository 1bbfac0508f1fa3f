-- `reading::closed` meets its contract.
use Rattle.meaning.proofs.Kit.{◌≡◌, ◌∙◌, ap, List, ◌≤◌, ℕ, ◌<◌, ◌+◌, add-one, arith, length, get_or, drop, drop_of_length-le, drop-cons, ne_eqb}
use Rattle.meaning.proofs.Kit.{eq-eqb}
use Rattle.chains.proofs.Words.{BadText, lead, close_answer, Blank, extent, Ok, broken}
use Rattle.formula.proofs.Parts.{onward, onward_drop, onward_length}
use Rattle.chains.proofs.Runs.{lead_extent}
use Rattle.chains.proofs.reading.closed.Goals as goal

module _ (inner : List ℕ) (count : ℕ) where
  close_none : count ≡ length inner → broken BadText count ≡ close_answer count (drop count inner)
  unfolding close_answer
  close_none e = let h : length inner ≤ count = omega arith in rw (drop_of_length-le inner h)

  close_other : count < length inner → (get_or inner count 0 ≡ 41 → ⊥) → broken BadText count ≡ close_answer count (drop count inner)
  unfolding close_answer
  close_other h e = rw (drop-cons inner count 0 h, ne_eqb (get_or inner count 0) 41 e)

  close_good : count < length inner → get_or inner count 0 ≡ 41
      → Ok (count + 1 + lead Blank (onward (count + 1) inner)) ≡ close_answer count (drop count inner)
  unfolding close_answer
  close_good h e = rw (drop-cons inner count 0 h, eq-eqb (get_or inner count 0) 41 e, onward_drop (count + 1) inner, add-one count)

pub returns-then-count-inner : goal.returns-then-count-inner
returns-then-count-inner c = c.breaks.ensures ∙ rw c.in-Ok.is (close_none c.args.inner.now c.in-Ok.count c.if-count-inner.true)

pub returns-then-inner-count-ne41 : goal.returns-then-inner-count-ne41
returns-then-inner-count-ne41 c =
    let within : c.in-Ok.count ≤ length c.args.inner.now = omega (arith, ap extent c.in-Ok.is, c.requires) in
    c.breaks-then-inner-count-ne41.ensures ∙ rw c.in-Ok.is (close_other c.args.inner.now c.in-Ok.count (omega (arith, within)) c.if-inner-count-ne41.true)

pub overflow_add-result-in-Ok : goal.overflow_add-result-in-Ok
overflow_add-result-in-Ok c =
    let l = c.args.inner.now in
    let n = c.in-Ok.count in
    let within : n ≤ length l = omega (arith, ap extent c.in-Ok.is, c.requires) in
    omega (arith, within, c.run.ensures, lead_extent Blank (onward (n + 1) l), onward_length (n + 1) l, c.well_formed.0.1)

pub returns-else-inner-count-ne41 : goal.returns-else-inner-count-ne41
returns-else-inner-count-ne41 c =
    let l = c.args.inner.now in
    let n = c.in-Ok.count in
    let within : n ≤ length l = omega (arith, ap extent c.in-Ok.is, c.requires) in
    rw c.in-Ok.is
    (ap (λ (m : ℕ). Ok (n + 1 + m)) c.run.ensures ∙ close_good l n (omega (arith, within)) c.if-inner-count-ne41.false)
