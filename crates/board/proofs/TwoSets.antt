-- The furnaces' numbers, and whose premises are whose.
use Rattle.meaning.proofs.Kit.{◌≡◌, ◌∙◌, sym, refl, ◌≢◌, true, false, Bool, cond, ◌||◌, false≢true, List, [], ℕ, eqb, length, ne_eqb, eqb-true}
use Rattle.board.specs.Furnaces.{is_furnace, set_of, held_by, with_held}
use Rattle.board.specs.declared.Board.{Board}

-- what `premises` hands over is as long as an array of flags
pub held_long : (b : Board) (furnace n : ℕ) {held : List Bool} → is_furnace furnace ≡ true → n ≡ length b.first → n ≡ length b.second
    → held ≡ set_of furnace b.first b.second → n ≡ length held
unfolding is_furnace
held_long b furnace n {held} e long long' same = go (eqb furnace 1) (eqb furnace 2) e same
  where
    go : (one two : Bool) → one || two ≡ true → held ≡ cond one b.first (cond two b.second []) → n ≡ length held
    go true two e s = rw s long
    go false true e s = rw s long'
    go false false e s = absurd (false≢true e)

-- ---- with other premises for one furnace

module _ (b : Board) (furnace : ℕ) (held : List Bool) where
  -- that furnace holds those,
  pub held_own : is_furnace furnace ≡ true → held_by (with_held b furnace held) furnace ≡ held
  unfolding is_furnace held_by with_held
  held_own e = go (eqb furnace 1) (eqb furnace 2) refl refl e
    where
      go : (one two : Bool) → eqb furnace 1 ≡ one → eqb furnace 2 ≡ two → one || two ≡ true → held_by (with_held b furnace held) furnace ≡ held
      go true two a c e = rw a
      go false true a c e = rw (a, c)
      go false false a c e = absurd (false≢true e)

  -- and another number what it held
  pub held_other : (other : ℕ) → furnace ≢ other → held_by (with_held b furnace held) other ≡ held_by b other
  unfolding held_by with_held
  held_other other apart = go (eqb other 1) (eqb other 2) refl refl
    where
      go : (one two : Bool) → eqb other 1 ≡ one → eqb other 2 ≡ two → held_by (with_held b furnace held) other ≡ held_by b other
      go true two a c = rw (a, ne_eqb furnace 1 (λ e. apart (e ∙ sym (eqb-true other 1 a))))
      go false true a c = rw (a, c, ne_eqb furnace 2 (λ e. apart (e ∙ sym (eqb-true other 2 c))))
      go false false a c = rw (a, c)
