-- `writing::line_size` meets its contract.
use Rattle.meaning.proofs.Kit.{◌≡◌, ap, List, ℕ, of_z, to_z, ◌≤◌, arith, ℤ, pos, length}
use Rattle.meaning.proofs.Kit.{get_or, take_all, w16, SFits, to_z-of_z}
use Rattle.spelling.specs.Text.{literal}
use Rattle.spelling.proofs.Pieces.{literal_most}
use Rattle.dimacs.specs.Writing.{spaced}
use Rattle.dimacs.proofs.Lines.{line_size, spaced_none, spaced_size}
use Rattle.dimacs.proofs.writing.line_size.Goals as goal

-- a literal takes six bytes at the most
measured : {l : ℤ} {n : ℕ} (f : SFits w16 l) → n ≡ length (literal (to_z w16 (of_z w16 l))) → (n ≡ length (literal l)) × (n ≤ 6)
measured f e = let is = rw (to_z-of_z f) at e in (is, omega (arith, is, literal_most f))

pub loop-l-init : goal.loop-l-init
loop-l-init c = (omega (arith, ap length (spaced_none c.args.part.now)), omega arith)

pub overflow_add-size : goal.overflow_add-size
overflow_add-size c =
    let f : SFits w16 (get_or c.args.part.now c.loop-l.l-index (pos 0)) = record { sfits = omega arith } in
    omega (arith, (measured f c.literal_size.ensures).1)

pub overflow_add-size-in-loop-l : goal.overflow_add-size-in-loop-l
overflow_add-size-in-loop-l c =
    let f : SFits w16 (get_or c.args.part.now c.loop-l.l-index (pos 0)) = record { sfits = omega arith } in
    omega (arith, (measured f c.literal_size.ensures).1)

pub loop-l-preserved : goal.loop-l-preserved
loop-l-preserved c =
    let part = c.args.part.now in
    let l = c.loop-l in
    let f : SFits w16 (get_or part l.l-index (pos 0)) = record { sfits = omega arith } in
    let one = measured f c.literal_size.ensures in
    (omega (arith, one.0, l.invariant.0, spaced_size part l.l-index c.loop-l-test.true), omega (arith, one.1, l.invariant.1))

pub returns : goal.returns
returns c =
    let part = c.args.part.now in
    let l = c.loop-l in
    let whole = ap (λ (ls : List ℤ). length (spaced ls)) (take_all l.l-index part c.loop-l-test.false) in
    (omega (arith, l.invariant.0, line_size part, whole), omega arith)
