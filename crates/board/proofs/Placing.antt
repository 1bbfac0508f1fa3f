-- What a call that is given a literal knows once its place is found, or why the call is refused.
use Rattle.meaning.proofs.Kit.{◌≡◌, ◌∙◌, sym, ap, refl, true, false, Bool, cond, not, List, ◌∷◌, ℕ, ◌<◌, ◌*◌, arith, ℤ, w16, SFits, to_z-of_z}
use Rattle.literals.specs.Literal.{in_range, place_of}
use Rattle.literals.specs.declared.refusal.Refusal.{Refusal}
use Rattle.literals.specs.declared.refusal.Refusal.TheVariants.{BadBoard, BadLiteral, BadFurnace}
use Rattle.literals.proofs.Signed.{back}
use Rattle.board.specs.Furnaces.{is_furnace}
use Rattle.board.specs.Faults.{good_board, Fault, first_fault}
use Rattle.board.specs.Placing.{placed}
use Rattle.board.specs.declared.Board.{Board}
use Rattle.std.specs.Prelude.{Result, Ok, Err}
use Rattle.board.proofs.Goodness.{Good, good_is}
use Rattle.literals.proofs.Arguments.{place_fits}

-- the three tests have passed, and p is the literal's place
pub record PlacedAt (table : List ℤ) (b : Board) (furnace : ℕ) (l : ℤ) (p : ℕ) : Type 0 where
  pub is_good_lem : good_board table b ≡ true
  pub is_furnace : is_furnace furnace ≡ true
  pub in_range_lem : in_range b.symbols l ≡ true
  pub good : Good table b
  pub place : p ≡ place_of l
  pub low : p < 2 * b.symbols

-- the faults of a call that is given a literal: the first three, and those of its own
abbrev literal_faults : List ℤ → Board → (furnace : ℕ) → ℤ → List Fault → List Fault
literal_faults table b furnace l own =
    record { given = not (good_board table b); refusal = BadBoard }
    ∷ record { given = not (is_furnace furnace); refusal = BadFurnace }
    ∷ record { given = not (in_range b.symbols l); refusal = BadLiteral }
    ∷ own

-- `answer` is what `place_on` ensures of the literal as the machine reads it back
module _ (table : List ℤ) (b : Board) (furnace : ℕ) {l : ℤ} (f : SFits w16 l) {answer : Result ℕ Refusal} (is : answer ≡ placed table b furnace (back l)) where
  -- what is placed where the three tests come out so
  abbrev placed_if : (good furnace range : Bool) → Result ℕ Refusal
  placed_if g h i =
      cond g (cond h (cond i (Ok (place_of l)) (Err BadLiteral)) (Err BadFurnace)) (Err BadBoard)

  pub placed_at : {p : ℕ} → answer ≡ Ok p → PlacedAt table b furnace l p
  unfolding placed
  placed_at {p} e =
      go (good_board table b) (is_furnace furnace) (in_range b.symbols l) refl refl refl (sym (is ∙ ap (placed table b furnace) (to_z-of_z f)) ∙ e)
    where
      go : (g h i : Bool) → good_board table b ≡ g → is_furnace furnace ≡ h → in_range b.symbols l ≡ i
          → placed_if g h i ≡ Ok p
          → PlacedAt table b furnace l p
      go true true true g h i e =
          let same : p ≡ place_of l = cc in
          record {
            is_good_lem = g;
            is_furnace = h;
            in_range_lem = i;
            good = good_is table b g;
            place = same;
            low = omega (arith, same, place_fits b.symbols l i);
          }
      go true true false g h i e = let z : ◌≡◌ {A = ℕ} 0 1 = cc in absurd (omega arith)
      go true false k g h i e = let z : ◌≡◌ {A = ℕ} 0 1 = cc in absurd (omega arith)
      go false j k g h i e = let z : ◌≡◌ {A = ℕ} 0 1 = cc in absurd (omega arith)

  pub placed_refused : {why : Refusal} → answer ≡ Err why → (own : List Fault)
      → first_fault (literal_faults table b furnace l own) ≡ Err why
  unfolding placed
  placed_refused {why} e own =
      go (good_board table b) (is_furnace furnace) (in_range b.symbols l) (sym (is ∙ ap (placed table b furnace) (to_z-of_z f)) ∙ e)
    where
      go : (g h i : Bool)
          → placed_if g h i ≡ Err why
          → cond (not g) (Err BadBoard) (cond (not h) (Err BadFurnace) (cond (not i) (Err BadLiteral) (first_fault own))) ≡ Err why
      go true true true e = let z : ◌≡◌ {A = ℕ} 0 1 = cc in absurd (omega arith)
      go true true false e = cc
      go true false i e = cc
      go false h i e = cc
