-- The literal that a call is given: a signed argument speaks of what the machine reads back from its bits, which is the argument.
use Rattle.meaning.proofs.Kit.{◌≡◌, ◌∙◌, sym, ap, true, Bool, ◌≤◌, ℕ, ◌<◌, ◌*◌, arith, leb, ℤ, nat_abs, w16, SFits, to_z-of_z, le-leb, leb-true}
use Rattle.meaning.proofs.Tests.{both_true, and_intro}
use Rattle.literals.specs.Literal.{in_range, place_of}
use Rattle.literals.proofs.Signed.{back}
use Rattle.literals.proofs.Places.{place_bound}

module _ {l : ℤ} (f : SFits w16 l) where
  pub range_is : (symbols : ℕ) (r : Bool) → r ≡ in_range symbols (back l) → in_range symbols l ≡ r
  range_is symbols r e = sym (e ∙ ap (in_range symbols) (to_z-of_z f))

  pub place_is : (p : ℕ) → p ≡ place_of (back l) → p ≡ place_of l
  place_is p e = e ∙ ap place_of (to_z-of_z f)

module _ (symbols : ℕ) (l : ℤ) (e : in_range symbols l ≡ true) where
  pub range_facts : (1 ≤ nat_abs l) × (nat_abs l ≤ symbols)
  range_facts = let h = both_true (leb 1 (nat_abs l)) (leb (nat_abs l) symbols) e in (leb-true _ _ h.0, leb-true _ _ h.1)

  -- it is one of a larger board's too
  pub range_more : (more : ℕ) → symbols ≤ more → in_range more l ≡ true
  range_more more le =
      let r = range_facts in
      and_intro (leb 1 (nat_abs l)) (leb (nat_abs l) more) (le-leb 1 (nat_abs l) r.0) (le-leb (nat_abs l) more (omega (arith, r.1)))

  pub place_fits : place_of l < 2 * symbols
  place_fits = place_bound symbols l range_facts.0 range_facts.1
