-- A set's candidates as the flags of furnace 1: the board is good, and the literal stands on it as the set, held alone, has it.
use Rattle.meaning.proofs.Kit.{◌≡◌, ◌∙◌, sym, ap, refl, inl, inr, ◌⊎◌, true, false, Bool, ◌&&◌, ◌||◌, or-false, or_assoc, List, [], ◌∷◌, In, ◌≤◌, ℕ}
use Rattle.meaning.proofs.Kit.{◌<◌, suc, ◌*◌, zero, zero-le, arith, eqb, leb, ltb, ℤ, length, drop, replicate, set, length-set, length-replicate}
use Rattle.meaning.proofs.Kit.{get_or-replicate, get_or-set_other, get_or-set_same, eq-eqb, eqb-true, eqb-false}
use Rattle.std.specs.Prelude.{Ok}
use Rattle.meaning.specs.Tests.{any, all, member}
use Rattle.meaning.specs.Literals.{has}
use Rattle.meaning.specs.Rounds.{derived}
use Rattle.candidates.specs.Sets.{chosen, set_each}
use Rattle.smallest.specs.Smallest.{alone, by_alone}
use Rattle.meaning.proofs.Tests.{true_or_false, or_right, both_true, and_intro, false_of, clash, member_in}
use Rattle.meaning.proofs.Tables.{get_d_tabulate}
use Rattle.meaning.proofs.Literals.{has_below}
use Rattle.meaning.proofs.Growth.{same_known}
use Rattle.literals.specs.Literal.{in_range, place_of}
use Rattle.literals.specs.Row.{most_rules, rows_lent, rows_sound}
use Rattle.board.specs.Furnaces.{is_furnace, held_by}
use Rattle.board.specs.Faults.{premises_fit, good_board}
use Rattle.board.specs.Ranking.{rows_on}
use Rattle.board.specs.Asking.{ask_faults, standing_whole, asked_whole}
use Rattle.board.specs.declared.Board.{Board}
use Rattle.board.proofs.Goodness.{good_is}
use Rattle.candidates.proofs.Places.{chosen_low}
use Rattle.smallest.specs.Search.{holding, alone_on}

-- ---- the flags

pub holding_each : (held : List Bool) (some : List ℕ) → set_each true held some ≡ holding held some
holding_each held [] = refl
holding_each held (x ∷ more) = holding_each (set held x true) more

pub length_holding : (held : List Bool) (some : List ℕ) → length (holding held some) ≡ length held
length_holding held [] = refl
length_holding held (x ∷ more) = length_holding (set held x true) more ∙ length-set held x true

has_holding : (held : List Bool) (some : List ℕ) (p : ℕ) → p < length held → has (holding held some) p ≡ (has held p || member p some)
has_holding held [] p l = sym (or-false (has held p))
has_holding held (x ∷ more) p l =
    has_holding (set held x true) more p (rw length-set l)
    ∙ ap (λ (t : Bool). t || member p more) (one (true_or_false (eqb x p)))
    ∙ or_assoc (has held p) (eqb x p) (member p more)
  where
    one : (eqb x p ≡ true) ⊎ (eqb x p ≡ false) → has (set held x true) p ≡ (has held p || eqb x p)
    one (inl e) =
        let q : p ≡ x = sym (eqb-true x p e) in
        rw (q, eq-eqb x x refl, get_or-set_same held x true false (rw q at l)) (sym (or_right (has held x) true refl))
    one (inr e) = rw (e, get_or-set_other held x p true false (λ q. eqb-false x p e (sym q))) (sym (or-false (has held p)))

-- of N flags those of the candidates chosen are set
module _ (N : ℕ) (some : List ℕ) where
  unset : (p : ℕ) → has (replicate N false) p ≡ false
  unset p =
      false_of (has (replicate N false) p)
      (λ e. clash e (get_or-replicate N p false false (omega (arith, has_below (replicate N false) p e, length-replicate N false))))

  pub flag_is : (p : ℕ) → p < N → has (holding (replicate N false) some) p ≡ member p some
  flag_is p l = has_holding (replicate N false) some p (omega (arith, length-replicate N false)) ∙ ap (λ (t : Bool). t || member p some) (unset p)

  -- and no other
  flag_in : (p : ℕ) → has (holding (replicate N false) some) p ≡ true → In p some
  flag_in p e =
      let l : p < N =
      omega (arith, has_below (holding (replicate N false) some) p e, length_holding (replicate N false) some, length-replicate N false) in
      member_in p some (sym (flag_is p l) ∙ e)

none_beyond : (flags : List Bool) (n : ℕ) → ((p : ℕ) → n ≤ p → has flags p ≡ false) → any (λ h. h) (drop n flags) ≡ false
none_beyond [] zero f = refl
none_beyond [] (suc n) f = refl
none_beyond (x ∷ flags) zero f = rw (f 0 zero-le) (none_beyond flags zero (λ p l. f (suc p) zero-le))
none_beyond (x ∷ flags) (suc n) f = none_beyond flags n (λ p l. f (suc p) (omega arith))

-- ---- the board

module _ (table : List ℤ) (b : Board) (cands : List ℕ) (m : ℕ) (low : all (λ p. ltb p (2 * b.symbols)) cands ≡ true) where
  fits : premises_fit (alone_on b cands m) ≡ true
  unfolding premises_fit
  fits =
      rw (
        none_beyond (holding (replicate 400 false) (chosen cands m)) (2 * b.symbols)
            (λ p l. false_of _ (λ e. omega (arith, chosen_low (2 * b.symbols) cands m p low (flag_in 400 (chosen cands m) p e)))),
        none_beyond (replicate 400 false) (2 * b.symbols) (λ p l. unset 400 [] p),
      )

  pub alone_good : good_board table b ≡ true → good_board table (alone_on b cands m) ≡ true
  unfolding good_board
  alone_good g =
      let rest : Bool =
      leb 1 b.symbols && leb b.symbols 200 && leb b.rules most_rules && leb b.rows (rows_lent table)
      && rows_sound b.symbols b.rules b.rows table in
      and_intro rest (premises_fit (alone_on b cands m)) (both_true rest (premises_fit b) g).0 fits

  -- what the board derives for furnace 1
  derived_alone : 2 * b.symbols ≤ 400
      → derived (2 * b.symbols) (rows_on table b) (holding (replicate 400 false) (chosen cands m)) ≡ by_alone (2 * b.symbols) (rows_on table b) cands m
  unfolding alone
  derived_alone h =
      same_known (2 * b.symbols) (rows_on table b) _ _
      (λ p l. flag_is 400 (chosen cands m) p (omega arith) ∙ sym (get_d_tabulate (2 * b.symbols) (λ q. member q (chosen cands m)) p false l))
      (2 * b.symbols)

  pub asked_alone : good_board table b ≡ true → (l : ℤ) → in_range b.symbols l ≡ true
      → asked_whole table (alone_on b cands m) 1 l ≡ Ok (standing_whole (by_alone (2 * b.symbols) (rows_on table b) cands m) (place_of l))
  unfolding asked_whole ask_faults is_furnace held_by
  asked_alone g l r =
      rw (alone_good g, r)
      (ap (λ (known : List Bool). Ok (standing_whole known (place_of l))) (derived_alone (omega (arith, (good_is table b g).sound.symbols))))
