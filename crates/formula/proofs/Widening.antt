-- A formula that was read for the symbols 1 to S: they alone stand in it, its bytes are some of those that were read, and it is the
-- same formula where more symbols or more levels are allowed.
use Rattle.meaning.proofs.Kit.{◌≡◌, ◌∙◌, sym, ap, refl, true, false, Bool, cond, ◌&&◌, List, ◌≤◌, ℕ, suc, zero, arith, eqb, leb, length, le-leb}
use Rattle.meaning.proofs.Kit.{eqb-true, leb-true}
use Rattle.formula.proofs.Words.{Formula, inside, BytesLeftOver, joined, Parsed, good, bad, parse, ended, levels, whole_of, is_good, used_of}
use Rattle.formula.proofs.Words.{Join, And, Or, Implies, Same}
use Rattle.meaning.proofs.Tests.{both_true, and_intro}
use Rattle.formula.proofs.Steps.{Taken, one, not, two, taken, taken_told}
use Rattle.formula.proofs.Extents.{taken_within, taken_some}
use Rattle.formula.proofs.Walk.{never}

-- ---- for more symbols and more levels

module _ (few more : ℕ) (h : few ≤ more) where
  number_wider : (s : ℕ) → leb 1 s && leb s few ≡ true → leb 1 s && leb s more ≡ true
  number_wider s e =
      let both = both_true (leb 1 s) (leb s few) e in
      and_intro (leb 1 s) (leb s more) both.0 (le-leb s more (omega (arith, leb-true s few both.1)))

  pub wider : {depth used : ℕ} {bytes : List ℕ} {f : Formula} (deep : ℕ) → depth ≤ deep → Taken few depth bytes f used → Taken more deep bytes f used
  wider zero d (one e fits) = absurd (omega arith)
  wider zero d (not e t) = absurd (omega arith)
  wider zero d (two e t u) = absurd (omega arith)
  wider (suc deep) d (one {s = s} e fits) = one e (number_wider s fits)
  wider (suc deep) d (not {d = d'} e t) = not e (wider {depth = d'} deep (omega arith) t)
  wider (suc deep) d (two {d = d'} e t u) = two e (wider {depth = d'} deep (omega arith) t) (wider {depth = d'} deep (omega arith) u)

-- a formula of the board's symbols is the same where every byte but 0 is a symbol's number, as the walks over it have it
module _ (S : ℕ) (h : S ≤ 200) (depth : ℕ) (bytes : List ℕ) (well : is_good (parse S depth bytes) ≡ true) where
  pub wide : parse S depth bytes ≡ parse 255 depth bytes
  wide = go (parse S depth bytes) refl well
    where
      go : (p : Parsed) → parse S depth bytes ≡ p → is_good p ≡ true → parse S depth bytes ≡ parse 255 depth bytes
      go (good f used) e g = e ∙ sym (taken_told 255 (wider S 255 (omega arith) depth (omega arith) (taken S e)))
      go (bad why at) e g = never g

  pub wide_well : is_good (parse 255 depth bytes) ≡ true
  wide_well = ap is_good (sym wide) ∙ well

-- ---- what a good formula is made of

inside_joined : (S : ℕ) (join : Join) (f g : Formula) → inside S f ≡ true → inside S g ≡ true → inside S (joined join f g) ≡ true
unfolding inside
inside_joined S And f g = and_intro (inside S f) (inside S g)
inside_joined S Or f g = and_intro (inside S f) (inside S g)
inside_joined S Implies f g = and_intro (inside S f) (inside S g)
inside_joined S Same f g = and_intro (inside S f) (inside S g)

taken_inside : {S depth used : ℕ} {bytes : List ℕ} {f : Formula} → Taken S depth bytes f used → inside S f ≡ true
unfolding inside
taken_inside (one e fits) = fits
taken_inside (not e t) = taken_inside t
taken_inside {S} (two {f = f} {g = g} {join = join} e t u) = inside_joined S join f g (taken_inside t) (taken_inside u)

-- a formula that was read from the front of the bytes: of the symbols 1 to S, and of so many bytes
pub record Read (S : ℕ) (bytes : List ℕ) (f : Formula) (used : ℕ) : Type 0 where
  pub known : inside S f ≡ true
  pub some : 1 ≤ used
  pub within : used ≤ length bytes

-- ---- the whole, where nothing follows it

pub ended_all : (p : Parsed) (n : ℕ) {f : Formula} {used : ℕ} → ended n p ≡ good f used → (p ≡ good f used) × (used ≡ n)
ended_all (good g count) n {f} {used} e = by (eqb count n) refl e
  where
    by : (b : Bool) → eqb count n ≡ b → cond b (good g count) (bad BytesLeftOver count) ≡ good f used → (good g count ≡ good f used) × (used ≡ n)
    by true q r = let same : used ≡ count = sym (ap used_of r) in (r, same ∙ eqb-true count n q)
    by false q r = never (ap is_good r)
ended_all (bad why at) n e = never (ap is_good e)

pub whole_read : (S : ℕ) (bytes : List ℕ) (f : Formula) (used : ℕ) → whole_of S bytes ≡ good f used → Read S bytes f used
unfolding whole_of
whole_read S bytes f used e =
    let t = taken S (ended_all (parse S levels bytes) (length bytes) e).0 in
    record { known = taken_inside t; some = taken_some t; within = taken_within t }
