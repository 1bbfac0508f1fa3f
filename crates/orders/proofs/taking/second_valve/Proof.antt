-- `taking::second_valve` meets its contract: by the symbol and the number.
use Rattle.meaning.proofs.Kit.{◌≡◌, ◌∙◌, sym, rules}
use Rattle.orders.specs.Words.{word_at}
use Rattle.orders.specs.Reading.{number_in, symbol_in}
use Rattle.orders.proofs.Slips.{slip_does}
use Rattle.orders.proofs.taking.second_valve.Statement.{statement}
use Rattle.orders.proofs.taking.second_valve.Tie as tie

-- from where the second word is read to where the first is
abbrev one : tie.After-number_in → tie.After-symbol_in
one c = c.before.before.before

read : (c : tie.After-symbol_in) → let a = c.args in symbol_in a.names.now (word_at 3 a.line.now) ≡ c.symbol_in.result
read c = rw (← c.word.ensures) (sym c.symbol_in.ensures)

read_next : (c : tie.After-number_in) → number_in (word_at 4 c.args.line.now) ≡ c.number_in.result
read_next c = rw (← c.word-in-Ok.ensures) (sym c.number_in.ensures)

returns : tie.Need-returns-in-Err
returns c = rw (c.slip.ensures, read c.before.before ∙ c.in-Err.is) (slip_does _ _ 3)

returns_2 : tie.Need-returns-in-Err-number_in
returns_2 c =
    rw (c.slip-in-Err-number_in.ensures, read (one c.before.before) ∙ c.in-Ok.is, read_next c.before.before ∙ c.in-Err-number_in.is) (slip_does _ _ 4)

returns_3 : tie.Need-returns-in-Ok-number_in
returns_3 c =
    rw (read (one c.before.before.before.before) ∙ c.in-Ok.is, read_next c.before.before.before.before ∙ c.in-Ok-number_in.is) c.enter_pairs.ensures

pub second_valve_spec : {M : Type 1} → statement M
second_valve_spec = tie.close (tie.spec
    (λ c κs. search rules) (λ c κs. search rules) (λ c. search rules) (λ c κs. search rules) (λ c. search rules) (λ c κs. search rules)
    (λ c κs. search rules) (λ c. search rules) (λ c κs. search rules) (λ c. search rules) (λ c κs. search rules) returns returns_2 (λ c. search rules)
    returns_3)
