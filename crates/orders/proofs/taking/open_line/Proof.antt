-- `taking::open_line` meets its contract: by the number, and that nothing follows it.
use Rattle.meaning.proofs.Kit.{◌≡◌, ◌∙◌, sym, rules, not-false, not-true}
use Rattle.orders.specs.Words.{word_at}
use Rattle.orders.specs.Reading.{number_in}
use Rattle.orders.proofs.Slips.{slip_does}
use Rattle.orders.proofs.taking.open_line.Statement.{statement}
use Rattle.orders.proofs.taking.open_line.Tie as tie

-- from where it is looked whether another follows to where the word is read
abbrev at : tie.After-ends_at → tie.After-number_in
at c = c.before.before

read : (c : tie.After-number_in) → let a = c.args in number_in (word_at 1 a.line.now) ≡ c.number_in.result
read c = rw (← c.word.ensures) (sym c.number_in.ensures)

returns : tie.Need-returns-then-not-ends_at
returns c =
    rw (c.slip-then-not-ends_at.ensures, read (at c.before.before) ∙ c.in-Ok.is, sym c.ends_at.ensures ∙ not-true _ c.if-not-ends_at.true-raw)
    (slip_does _ _ 2)

returns_2 : tie.Need-returns-in-Err
returns_2 c = rw (c.slip.ensures, read c.before.before ∙ c.in-Err.is) (slip_does _ _ 1)

returns_3 : tie.Need-returns-else-not-ends_at
returns_3 c =
    rw (read (at c.before.before.before.before.before) ∙ c.in-Ok.is, sym c.ends_at.ensures ∙ not-false _ c.if-not-ends_at.false-raw) c.«open».ensures

pub open_line_spec : {M : Type 1} → statement M
open_line_spec = tie.close (tie.spec
    (λ c κs. search rules) (λ c κs. search rules) (λ c. search rules) (λ c κs. search rules) (λ c. search rules) (λ c κs. search rules)
    (λ c κs. search rules) returns (λ c κs. search rules) returns_2 (λ c. search rules) returns_3)
