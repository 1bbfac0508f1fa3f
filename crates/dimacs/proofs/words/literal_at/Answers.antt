-- `words::literal_at` meets its contract, by the first byte.
use Rattle.dimacs.proofs.Literals.{minus_some, minus_zero, plain}
use Rattle.dimacs.proofs.words.literal_at.Goals as goal

pub returns-then-n-eq0 : goal.returns-then-n-eq0
returns-then-n-eq0 c =
    let n = c.number_at-n.ensures in
    let all = minus_zero c.args.text.now c.args.at c.requires c.if-text-at-eq45.true (n.value_value, n.place) c.if-n-eq0.true in
    record { spells = all.0; place = all.1 }

pub returns-then-text-at-eq45 : goal.returns-then-text-at-eq45
returns-then-text-at-eq45 c =
    let n = c.number_at-n.ensures in
    let all = minus_some c.args.text.now c.args.at c.requires c.if-text-at-eq45.true (n.value_value, n.place) c.if-n-eq0.false in
    record { spells = all.0; place = all.1 }

pub returns-clause-spells : goal.returns-clause-spells
returns-clause-spells c = plain c.args.text.now c.args.at c.requires c.if-text-at-eq45.false c.number_at-n-2.ensures.value_value
