-- `taking::literal_line` meets its contract: by the literal, and that nothing follows it.
use Rattle.meaning.proofs.Kit.{◌≡◌, ◌∙◌, sym, subst, to_z-of_z, rules, not-false, not-true}
use Rattle.orders.specs.Words.{word_at}
use Rattle.orders.specs.Reading.{literal_in}
use Rattle.orders.proofs.Slips.{slip_does}
use Rattle.orders.proofs.Literals.{Fitting, literal_fits}
use Rattle.orders.proofs.taking.literal_line.Statement.{statement}
use Rattle.orders.proofs.taking.literal_line.Tie as tie

-- from where it is looked whether another follows to where the word is read
abbrev at : tie.After-ends_at → tie.After-literal_in
at c = c.before.before

read : (c : tie.After-literal_in) → let a = c.args in literal_in a.names.now (word_at 1 a.line.now) ≡ c.literal_in.result
read c = rw (← c.word.ensures) (sym c.literal_in.ensures)

returns : tie.Need-returns-then-not-ends_at
returns c =
    rw (c.slip-then-not-ends_at.ensures, read (at c.before.before) ∙ c.in-Ok.is, sym c.ends_at.ensures ∙ not-true _ c.if-not-ends_at.true-raw)
    (slip_does _ _ 2)

returns_2 : tie.Need-returns-in-Err
returns_2 c = rw (c.slip.ensures, read c.before.before ∙ c.in-Err.is) (slip_does _ _ 1)

returns_3 : tie.Need-returns-else-not-ends_at
returns_3 c =
    let said = read (at c.before.before) ∙ c.in-Ok.is in
    rw (said, sym c.ends_at.ensures ∙ not-false _ c.if-not-ends_at.false-raw, ← to_z-of_z (subst Fitting said (literal_fits _ _))) c.act.ensures

pub literal_line_spec : {M : Type 1} → statement M
literal_line_spec = tie.close (tie.spec
    (λ c κs. search rules) (λ c κs. search rules) (λ c. search rules) (λ c κs. search rules) (λ c. search rules) (λ c κs. search rules)
    (λ c κs. search rules) returns (λ c κs. search rules) returns_2 returns_3)
