-- `taking::enter_pairs` meets its contract: by the marks.
use Rattle.meaning.proofs.Kit.{◌≡◌, ◌∙◌, sym, true, rules, not-false, not-true}
use Rattle.orders.specs.Marks.{table_fits}
use Rattle.orders.proofs.Slips.{slip_does}
use Rattle.orders.proofs.Carried.{entered_does}
use Rattle.orders.proofs.taking.enter_pairs.Statement.{statement}
use Rattle.orders.proofs.taking.enter_pairs.Tie as tie

fits : (c : tie.Else-not-table_fits) → let a = c.args in table_fits a.line.now a.count a.others ≡ true
fits c = sym c.table_fits.ensures ∙ not-false _ c.if-not-table_fits.false-raw

returns : tie.Need-returns-then-not-table_fits
returns c = rw (c.slip.ensures, sym c.table_fits.ensures ∙ not-true _ c.if-not-table_fits.true-raw) (slip_does _ _ 5)

returns_2 : tie.Need-returns
returns_2 c =
    let added = c.add_pairs-addition.ensures in
    rw (c.of_addition.ensures, added.0, added.1, c.pairs_in-allowed.ensures, fits c.before.before.before.before.before.before) (entered_does _ _ _ _)

pub enter_pairs_spec : {M : Type 1} → statement M
enter_pairs_spec = tie.close (tie.spec
    (λ c κs. search rules) (λ c κs. search rules) returns (λ c κs. fits c) (λ c κs. search rules) (λ c κs. search rules) (λ c. search rules)
    returns_2)
