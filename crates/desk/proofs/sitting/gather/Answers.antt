-- `sitting::gather` meets its contract: as many bytes as there is room for are copied behind those that were there.
use Rattle.meaning.proofs.Kit.{◌≡◌, ◌∙◌, ap, List, ℕ, ◌+◌, ◌++◌, arith, length, length-take-le, take}
use Rattle.std.proofs.lemmas.Slice.{take-put_mid}
use Rattle.desk.proofs.Bytes.{gathered_all}
use Rattle.desk.proofs.sitting.gather.Goals as goal

pub returns-clause-line_after : goal.returns-clause-line_after
returns-clause-line_after c =
    let line = c.args.line.now in
    let n = c.min-n.result in
    let part = c.copy_from_slice.new.self in
    let is : part ≡ take n c.args.bytes.now = c.copy_from_slice.ensures.after in
    let long : length part ≡ n = rw is (length-take-le n c.args.bytes.now (omega (arith, c.min-n.ensures))) in
    let behind = take-put_mid c.args.filled _ line part (c.args.filled + n) (omega (arith, long)) (omega arith) in
    let e = behind ∙ ap (λ (l : List ℕ). take c.args.filled line ++ l) is in
    gathered_all line c.args.bytes.now c.args.filled _ n c.requires.0 c.requires.1 c.min-n.ensures e
