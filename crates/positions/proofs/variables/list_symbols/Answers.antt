-- As many symbols are written as there are places.
use Rattle.std.proofs.Common.{◌∙◌, sym, arith, length}
use Rattle.meaning.proofs.Kit.{ext_get_or}
use Rattle.meaning.specs.Tests.{from}
use Rattle.meaning.proofs.BySize.{length_from, from_at}
use Rattle.positions.proofs.variables.list_symbols.Goals as goal

pub returns : goal.returns
returns c =
    let n = length c.args.names.now in
    ext_get_or 0 c.loop-i.names (from c.args.first n) (c.loop-i.auto.names ∙ sym (length_from c.args.first n))
    (λ k h. c.loop-i.invariant k (omega arith) ∙ sym (from_at c.args.first n k (omega arith)))
