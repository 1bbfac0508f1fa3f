-- `taking::valve_line` meets its contract: by the symbol and the number, and that nothing follows them.
use Rattle.meaning.proofs.Kit.{◌≡◌, ◌∙◌, sym, rules, not-false, not-true}
use Rattle.orders.specs.Words.{word_at}
use Rattle.orders.specs.Reading.{number_in, symbol_in}
use Rattle.orders.proofs.Slips.{slip_does}
use Rattle.orders.proofs.Carried.{entered_does}
use Rattle.orders.proofs.taking.valve_line.Statement.{statement}
use Rattle.orders.proofs.taking.valve_line.Tie as tie

-- from where the second word is read to where the first is
abbrev one : tie.After-number_in → tie.After-symbol_in
one c = c.before.before.before

read : (c : tie.After-symbol_in) → let a = c.args in symbol_in a.names.now (word_at 1 a.line.now) ≡ c.symbol_in.result
read c = rw (← c.word.ensures) (sym c.symbol_in.ensures)

read_next : (c : tie.After-number_in) → number_in (word_at 2 c.args.line.now) ≡ c.number_in.result
read_next c = rw (← c.word-in-Ok.ensures) (sym c.number_in.ensures)

-- from where it is looked whether another follows to where the second word is read
abbrev at : tie.After-ends_at → tie.After-number_in
at c = c.before.before

returns : tie.Need-returns-then-not-ends_at
returns c =
    let m = at c.before.before in
    let first = read (one m) ∙ c.in-Ok.is in
    let count = read_next m ∙ c.in-Ok-number_in.is in
    rw (c.slip-then-not-ends_at.ensures, first, count, sym c.ends_at.ensures ∙ not-true _ c.if-not-ends_at.true-raw) (slip_does _ _ 3)

returns_2 : tie.Need-returns-in-Err
returns_2 c = rw (c.slip.ensures, read c.before.before ∙ c.in-Err.is) (slip_does _ _ 1)

returns_3 : tie.Need-returns-in-Err-number_in
returns_3 c =
    rw (c.slip-in-Err-number_in.ensures, read (one c.before.before) ∙ c.in-Ok.is, read_next c.before.before ∙ c.in-Err-number_in.is) (slip_does _ _ 2)

returns_4 : tie.Need-returns-else-not-ends_at
returns_4 c =
    let m = at c.before.before.before.before.before.before in
    let first = read (one m) ∙ c.in-Ok.is in
    let count = read_next m ∙ c.in-Ok-number_in.is in
    let added = c.add_positions-addition.ensures in
    rw (c.of_addition.ensures, added.0, added.1, first, count, sym c.ends_at.ensures ∙ not-false _ c.if-not-ends_at.false-raw) (entered_does _ _ _ _)

pub valve_line_spec : {M : Type 1} → statement M
valve_line_spec = tie.close (tie.spec
    (λ c κs. search rules) (λ c κs. search rules) (λ c. search rules) (λ c κs. search rules) (λ c. search rules) (λ c κs. search rules)
    (λ c κs. search rules) (λ c. search rules) (λ c κs. search rules) (λ c. search rules) (λ c κs. search rules) (λ c κs. search rules) returns
    (λ c κs. search rules) (λ c κs. search rules) returns_2 returns_3 (λ c. search rules) returns_4)
