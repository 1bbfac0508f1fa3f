-- `words::number_at` meets its contract.
use Rattle.meaning.proofs.Kit.{◌≡◌, ◌∙◌, sym, ap, ◌<◌, ◌+◌, add-zero, arith, drop, get_or, length}
use Rattle.formula.proofs.Parts.{onward_length}
use Rattle.dimacs.specs.Words.{is_gap, up_to}
use Rattle.dimacs.proofs.Scanning.{byte_at, sought_none, sought_more, sought_here, sought_end}
use Rattle.dimacs.proofs.Numbers.{number_is, grown_most, spelled_more, spelled_none, spelled_stops}
use Rattle.dimacs.proofs.words.number_at.Goals as goal

pub loop-k-init : goal.loop-k-init
loop-k-init c =
    let text = c.args.text.now in
    rw add-zero (record { sought = sought_none is_gap text c.args.at c.requires; goes_on = number_is (up_to is_gap (drop c.args.at text)); most = omega arith })

pub loop-k-preserved : goal.loop-k-preserved
loop-k-preserved c =
    let text = c.args.text.now in
    let at = c.args.at in
    let l = c.loop-k in
    let h : at + l.k < length text = omega (arith, c.loop-k-test.true, onward_length at text) in
    let here = byte_at text at l.k in
    let other = ap is_gap (sym here) ∙ sym c.is_gap.ensures ∙ c.if-is_gap.false in
    let next : at + (l.k + 1) ≡ at + l.k + 1 = omega arith in
    let grows = rw here at c.grow-value.ensures in
    rw next (record {
      sought = sought_more l.invariant.sought h other;
      goes_on = l.invariant.goes_on ∙ spelled_more l.value text (at + l.k) h other ∙ rw grows;
      most = rw grows (grown_most l.value (get_or text (at + l.k) 0));
    })

pub returns-then-is_gap : goal.returns-then-is_gap
returns-then-is_gap c =
    let text = c.args.text.now in
    let at = c.args.at in
    let l = c.loop-k in
    let h : at + l.k < length text = omega (arith, c.loop-k-test.true, onward_length at text) in
    let gap = ap is_gap (sym (byte_at text at l.k)) ∙ sym c.is_gap.ensures ∙ c.if-is_gap.true in
    record {
      value_value = sym (l.invariant.goes_on ∙ spelled_stops l.value text (at + l.k) h gap);
      place = sought_here l.invariant.sought h gap;
    }

pub returns : goal.returns
returns c =
    let text = c.args.text.now in
    let l = c.loop-k in
    let end : c.args.at + l.k ≡ length text = omega (arith, c.loop-k-test.false, l.invariant.sought.within, onward_length c.args.at text) in
    record {
      value_value = sym (l.invariant.goes_on ∙ spelled_none l.value text (c.args.at + l.k) (omega arith));
      place = rw end at (sought_end l.invariant.sought (omega arith));
    }
