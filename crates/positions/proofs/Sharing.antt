-- Two variables share a symbol exactly if each begins before the other ends.
use Rattle.meaning.proofs.Kit.{◌≡◌, ◌∙◌, sym, ⊎_elim, inr, true, false, ◌≤◌, ◌<◌, ◌+◌, arith, ltb, lt-ltb, le-ltb}
use Rattle.meaning.specs.Tests.{member}
use Rattle.positions.specs.Positions.{Variable, share, symbols_in}
use Rattle.meaning.proofs.Tests.{any_found, clash, false_of, from_in, member_in, true_or_false}
use Rattle.meaning.proofs.Tables.{le_or_lt}
use Rattle.positions.proofs.PositionRules.{Apart, apart_of}

module _ (x y : Variable) where
  pub apart_share : Apart x y → share x y ≡ false
  apart_share h = false_of (share x y) none
    where
      none : share x y ≡ true → ⊥
      none e =
          let r = any_found (λ s. member s (symbols_in y)) (symbols_in x) e in
          let a = from_in x.first x.count r.0 r.1 in
          let b = from_in y.first y.count r.0 (member_in r.0 (symbols_in y) r.2) in
          ⊎_elim (λ l. omega (arith, a.0, a.1, b.0, b.1, l)) (λ l. omega (arith, a.0, a.1, b.0, b.1, l)) h

  -- where the second begins before the first ends, the other test decides
  pub sharing : 2 ≤ x.count → 2 ≤ y.count → y.first < x.first + x.count → ltb x.first (y.first + y.count) ≡ share x y
  sharing a b h = ⊎_elim (λ e. meet e ∙ sym e) (λ e. part e ∙ sym e) (true_or_false (share x y))
    where
      meet : share x y ≡ true → ltb x.first (y.first + y.count) ≡ true
      meet e =
          ⊎_elim (λ l. clash e (apart_share (inr l))) (λ l. lt-ltb x.first (y.first + y.count) l)
          (le_or_lt (y.first + y.count) x.first)

      part : share x y ≡ false → ltb x.first (y.first + y.count) ≡ false
      part e = le-ltb x.first (y.first + y.count) (⊎_elim (λ l. absurd (omega arith)) (λ l. l) (apart_of x y a b e))
