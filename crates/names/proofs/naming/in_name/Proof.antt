-- `naming::in_name` meets its contract: a letter, `_`, or by the bounds of the digits.
use Rattle.meaning.proofs.Kit.{◌∙◌, sym, arith, ne_eqb, eq-eqb, le-leb, lt-leb}
use Rattle.names.proofs.naming.in_name.Statement.{statement}
use Rattle.names.proofs.naming.in_name.Tie as tie

returns_2 : tie.Need-returns-then-byte-eq95
returns_2 c =
    rw (sym c.is_letter.ensures ∙ c.if-is_letter.false, eq-eqb c.args.byte 95 c.if-byte-eq95.true)

returns_3 : tie.Need-returns-then-byte-lt48
returns_3 c =
    let b = c.args.byte in
    rw (sym c.is_letter.ensures ∙ c.if-is_letter.false, ne_eqb b 95 c.if-byte-eq95.false, lt-leb 48 b (omega arith))

returns_4 : tie.Need-returns
returns_4 c =
    let b = c.args.byte in
    rw (sym c.is_letter.ensures ∙ c.if-is_letter.false, ne_eqb b 95 c.if-byte-eq95.false, le-leb 48 b (omega arith))

pub in_name_spec : {M : Type 1} → statement M
in_name_spec = tie.close (tie.spec (λ c κs. tt) (λ c. rw (sym c.is_letter.ensures ∙ c.if-is_letter.true)) returns_2 returns_3 returns_4)
