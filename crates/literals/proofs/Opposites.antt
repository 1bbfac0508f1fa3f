-- "The opposite of a literal is its negation": where it stands, and what `opposite` gives for a literal that was tested.
use Rattle.meaning.proofs.Kit.{◌≡◌, ◌∙◌, sym, ap, true, false, ◌≤◌, ℕ, ◌<◌, suc, zero, arith, ℤ, pos, nat_abs, negsuc, neg_ℤ, w16, SFits, to_z-of_z}
use Rattle.meaning.specs.Literals.{opp}
use Rattle.meaning.proofs.Literals.{opp_place}
use Rattle.literals.specs.Literal.{place_of, literal_at}
use Rattle.literals.specs.Promises.{OppositePlace, OppositeLiteral}
use Rattle.literals.proofs.Signed.{back, minus_abs, minus_fits}
use Rattle.literals.proofs.Places.{place_of_literal, literal_at_place, literal_nonzero}

pub opposite_place : OppositePlace
unfolding place_of
opposite_place (pos zero) h = absurd (omega arith)
opposite_place (pos (suc k)) h = sym (opp_place (suc k) true)
opposite_place (negsuc k) h = sym (opp_place (suc k) false)

pub opposite_literal : OppositeLiteral
opposite_literal p =
    let l = literal_at p in
    let there : opp p ≡ place_of (neg_ℤ l) = ap opp (sym (place_of_literal p)) ∙ sym (opposite_place l (literal_nonzero p)) in
    ap literal_at there ∙ literal_at_place (neg_ℤ l) (omega (arith, minus_abs l, literal_nonzero p))

-- l was tested, and m is what `opposite` gives for it: m can be placed, and its place is the other one of l's symbol
module _ {l : ℤ} (f : SFits w16 l) (small : nat_abs l < 32768) {m : ℤ} (is : m ≡ neg_ℤ (back l)) where
  negated : back m ≡ neg_ℤ l
  negated = ap back (is ∙ ap neg_ℤ (to_z-of_z f)) ∙ to_z-of_z (minus_fits l small)

  pub opposite_abs : nat_abs (back m) ≡ nat_abs l
  opposite_abs = ap nat_abs negated ∙ minus_abs l

  pub opposite_at : 1 ≤ nat_abs l → {o : ℕ} → o ≡ place_of (back m) → o ≡ opp (place_of l)
  opposite_at some e = e ∙ ap place_of negated ∙ opposite_place l some
