-- `taking::name_line` meets its contract: by the symbol and the name, and that nothing follows them.
use Rattle.meaning.proofs.Kit.{◌≡◌, ◌∙◌, sym, rules, not-false, not-true}
use Rattle.names.specs.Names.{is_name}
use Rattle.orders.specs.Words.{word_at}
use Rattle.orders.specs.Reading.{symbol_in}
use Rattle.orders.proofs.Slips.{slip_does}
use Rattle.orders.proofs.taking.name_line.Statement.{statement}
use Rattle.orders.proofs.taking.name_line.Tie as tie

-- from where the name is tested to where the symbol is read
abbrev one : tie.After-is_name → tie.After-symbol_in
one c = c.before.before.before

read : (c : tie.After-symbol_in) → let a = c.args in symbol_in a.names.now (word_at 1 a.line.now) ≡ c.symbol_in.result
read c = rw (← c.word.ensures) (sym c.symbol_in.ensures)

named : (c : tie.After-is_name) → is_name (word_at 2 c.args.line.now) ≡ c.is_name.result
named c = rw (← c.word-given.ensures) (sym c.is_name.ensures)

returns : tie.Need-returns-then-not-is_name
returns c =
    let said = read (one c.before.before) ∙ c.in-Ok.is in
    rw (c.slip-then-not-is_name.ensures, said, named c.before.before ∙ not-true _ c.if-not-is_name.true-raw) (slip_does _ _ 2)

returns_2 : tie.Need-returns-then-not-ends_at
returns_2 c =
    let said = read (one c.before.before.before.before) ∙ c.in-Ok.is in
    let more = sym c.ends_at.ensures ∙ not-true _ c.if-not-ends_at.true-raw in
    rw (c.slip-then-not-ends_at.ensures, said, named c.before.before.before.before ∙ not-false _ c.if-not-is_name.false-raw, more) (slip_does _ _ 3)

returns_3 : tie.Need-returns-in-Err
returns_3 c = rw (c.slip.ensures, read c.before.before ∙ c.in-Err.is) (slip_does _ _ 1)

returns_4 : tie.Need-returns-else-not-ends_at
returns_4 c =
    let said = read (one c.before.before.before.before.before.before.before) ∙ c.in-Ok.is in
    let over = sym c.ends_at.ensures ∙ not-false _ c.if-not-ends_at.false-raw in
    rw (said, named c.before.before.before.before.before.before.before ∙ not-false _ c.if-not-is_name.false-raw, over, ← c.word-given.ensures) c.name.ensures

pub name_line_spec : {M : Type 1} → statement M
name_line_spec = tie.close (tie.spec
    (λ c κs. search rules) (λ c κs. search rules) (λ c. search rules) (λ c κs. search rules) (λ c. search rules) (λ c κs. search rules)
    (λ c κs. search rules) (λ c κs. search rules) (λ c. search rules) returns (λ c κs. search rules) (λ c κs. search rules) (λ c. search rules)
    returns_2 (λ c κs. search rules) (λ c. search rules) returns_3 (λ c. search rules) returns_4)
