-- The text of two joined operands, whatever joins them, and how the mark between them is read.
use Rattle.meaning.proofs.Kit.{◌≡◌, refl, true}
use Rattle.chains.proofs.Words.{Formula, joined, Join, And, Or, Implies, Same, goes_on, joined_by, pair, bracketed, mark_of, unit_text, spelled}

module _ (f g : Formula) where
  pub spelled_joined : (join : Join) → spelled (joined join f g) ≡ pair (mark_of join) (unit_text f) (unit_text g)
  unfolding spelled
  spelled_joined = elim [ And ↦ refl | Or ↦ refl | Implies ↦ refl | Same ↦ refl ]

  pub unit_joined : (join : Join) → unit_text (joined join f g) ≡ bracketed (pair (mark_of join) (unit_text f) (unit_text g))
  unfolding unit_text
  unit_joined = elim [ And ↦ refl | Or ↦ refl | Implies ↦ refl | Same ↦ refl ]

  -- the mark is read as that join
  pub mark_joins : (join : Join) → joined_by (mark_of join) f g ≡ joined join f g
  mark_joins = elim [ And ↦ refl | Or ↦ refl | Implies ↦ refl | Same ↦ refl ]

-- after one unit a chain goes on with any of the marks
pub mark_goes : (join : Join) → goes_on 0 (mark_of join) ≡ true
mark_goes = elim [ And ↦ refl | Or ↦ refl | Implies ↦ refl | Same ↦ refl ]
