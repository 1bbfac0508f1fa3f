-- `one_row::literal_for` meets its contract: the symbol is at most 200, so it and its negation fit.
use Rattle.meaning.proofs.Kit.{◌≡◌, ◌∙◌, ◌+◌, ◌/◌, ◌%◌, add-one, arith, ℕ, pos, neg_ℤ, to_z-of_z, ne_eqb, eq-eqb}
use Rattle.literals.specs.Literal.{literal_at}
use Rattle.literals.proofs.Signed.{small_abs, minus_read}
use Rattle.implicates.proofs.one_row.literal_for.Goals as goal

even : (p : ℕ) → p % 2 ≡ 0 → pos (p / 2 + 1) ≡ literal_at p
unfolding literal_at
even p e = rw (eq-eqb (p % 2) 0 e, add-one)

odd : (p : ℕ) → (p % 2 ≡ 0 → ⊥) → neg_ℤ (pos (p / 2 + 1)) ≡ literal_at p
unfolding literal_at
odd p e = rw (ne_eqb (p % 2) 0 e, add-one)

pub returns-then-p-eq0 : goal.returns-then-p-eq0
returns-then-p-eq0 c =
    let p = c.args.p in
    to_z-of_z (small_abs (pos (p / 2 + 1)) (omega arith)) ∙ even p c.if-p-eq0.true

pub returns : goal.returns
returns c =
    let p = c.args.p in
    minus_read (small_abs (pos (p / 2 + 1)) (omega arith)) (omega arith) ∙ odd p c.if-p-eq0.false
