-- `emitting::write_symbol` meets its contract.
use Rattle.meaning.proofs.Kit.{◌∙◌, sym, ap, ap₂, List, ℕ, ◌+◌, add-one, arith, take, set, length-take-le}
use Rattle.chains.proofs.Words.{capped, Number}
use Rattle.chains.proofs.Runs.{lead_extent}
use Rattle.chains.proofs.emitting.write_symbol.Goals as goal

pub slice_bounds-value-end : goal.slice_bounds-value-end
slice_bounds-value-end c =
    let body = c.args.body.now in
    sym (length-take-le c.run-count.result body (omega (arith, c.run-count.ensures, lead_extent Number body)))

pub returns : goal.returns
returns c =
    let a = c.args in
    c.put-2.ensures
    ∙ ap (λ (o : List ℕ). set o (a.at + 1) c.value-number.result) c.put.ensures
    ∙ ap₂ (λ (n x : ℕ). set (set a.out.now a.at 16) n x) (add-one a.at)
    (c.value-number.ensures ∙ ap (λ (n : ℕ). capped 0 (take n a.body.now)) c.run-count.ensures)
