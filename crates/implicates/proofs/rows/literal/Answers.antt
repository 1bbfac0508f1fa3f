-- `literal` meets its contract: a symbol is below 256, so it and its negation fit.
use Rattle.meaning.proofs.Kit.{◌≡◌, ◌∙◌, sym, true, false, ◌<◌, suc, zero, arith, ℕ, pos, negsuc, neg_ℤ, to_z-of_z}
use Rattle.meaning.specs.Literals.{place}
use Rattle.literals.specs.Literal.{place_of, literal_at}
use Rattle.literals.proofs.Places.{literal_at_place}
use Rattle.literals.proofs.Signed.{small_abs, minus_read}
use Rattle.implicates.proofs.rows.literal.Goals as goal

-- the literals of a symbol by its number
plus_at : (s : ℕ) → 0 < s → pos s ≡ literal_at (place s true)
unfolding place_of
plus_at s h = sym (literal_at_place (pos s) h)

minus_at : (s : ℕ) → 0 < s → neg_ℤ (pos s) ≡ literal_at (place s false)
unfolding place_of
minus_at zero h = absurd (omega arith)
minus_at (suc k) h = sym (literal_at_place (negsuc k) (omega arith))

pub returns-then-negated : goal.returns-then-negated
returns-then-negated c =
    let s = c.args.symbol in
    minus_read (small_abs (pos s) (omega arith)) (omega arith) ∙ rw c.if-negated.true (minus_at s c.requires)

pub returns-else-negated : goal.returns-else-negated
returns-else-negated c =
    let s = c.args.symbol in
    to_z-of_z (small_abs (pos s) (omega arith)) ∙ rw c.if-negated.false (plus_at s c.requires)
