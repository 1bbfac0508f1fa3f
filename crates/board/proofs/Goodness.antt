-- `good_board`, a test at a time, and what a good board is known to be.
use Rattle.meaning.proofs.Kit.{◌≡◌, ◌∙◌, ap, refl, ap₂, true, false, Bool, cond, ◌&&◌, not, List, [], ◌∷◌, ◌≤◌, ℕ, ◌<◌, suc, ◌*◌, zero}
use Rattle.meaning.proofs.Kit.{zero-le, arith, eqb, leb, ℤ, length, drop, replicate, set, drop-set-lt, le-leb, eqb-true}
use Rattle.meaning.proofs.Kit.{leb-true, lt-leb}
use Rattle.meaning.specs.Tests.{any}
use Rattle.meaning.proofs.Tests.{both_true}
use Rattle.literals.specs.Literal.{place_of}
use Rattle.literals.specs.Row.{most_rules, rows_lent, rule_sound, rows_sound, Sound}
use Rattle.literals.proofs.Decoding.{sound_both}
use Rattle.board.specs.Furnaces.{held_by, with_held}
use Rattle.board.specs.Faults.{premises_fit, good_board}
use Rattle.board.specs.Changes.{empty_board, with_flag}
use Rattle.board.specs.declared.Board.{Board}

-- ---- the scan for a premise beyond the symbols

-- some flag from place k on is set
abbrev pub flag_from : List Bool → ℕ → Bool
flag_from flags k = any (λ h. h) (drop k flags)

pub flag_nowhere : (flags : List Bool) (k : ℕ) → length flags ≤ k → flag_from flags k ≡ false
flag_nowhere [] zero h = refl
flag_nowhere [] (suc k) h = refl
flag_nowhere (x ∷ flags) zero h = absurd (omega arith)
flag_nowhere (x ∷ flags) (suc k) h = flag_nowhere flags k (omega arith)

-- ---- the tests in their order

module _ (table : List ℤ) (b : Board) where
  pub no_low : b.symbols < 1 → good_board table b ≡ false
  unfolding good_board
  no_low h = rw (lt-leb 1 b.symbols h)

  pub no_high : 1 ≤ b.symbols → 200 < b.symbols → good_board table b ≡ false
  unfolding good_board
  no_high h k = rw (le-leb 1 b.symbols h, lt-leb b.symbols 200 k)

  module _ (low : 1 ≤ b.symbols) (high : b.symbols ≤ 200) where
    pub no_number : most_rules < b.rules → good_board table b ≡ false
    unfolding good_board
    no_number h = rw (le-leb 1 b.symbols low, le-leb b.symbols 200 high, lt-leb b.rules most_rules h)

    module _ (few : b.rules ≤ most_rules) where
      pub no_rows : rows_lent table < b.rows → good_board table b ≡ false
      unfolding good_board
      no_rows h = rw (le-leb 1 b.symbols low, le-leb b.symbols 200 high, le-leb b.rules most_rules few, lt-leb b.rows (rows_lent table) h)

      module _ (lent : b.rows ≤ rows_lent table) where
        pub by_rows_lem : good_board table b ≡ (rows_sound b.symbols b.rules b.rows table && premises_fit b)
        unfolding good_board
        by_rows_lem =
            rw (le-leb 1 b.symbols low, le-leb b.symbols 200 high, le-leb b.rules most_rules few, le-leb b.rows (rows_lent table) lent)

-- ---- a good board

pub record Good (table : List ℤ) (b : Board) : Type 0 where
  pub some : 1 ≤ b.symbols
  pub few : b.rules ≤ most_rules
  pub lent : b.rows ≤ rows_lent table
  pub sound : Sound b.symbols b.rows table
  pub numbers : (r : ℕ) → r < b.rows → rule_sound b.rules table r ≡ true
  pub fit : premises_fit b ≡ true

pub good_is : (table : List ℤ) (b : Board) → good_board table b ≡ true → Good table b
unfolding good_board
good_is table b e =
    let range = leb 1 b.symbols && leb b.symbols 200 in
    let count = leb b.rules most_rules in
    let room = leb b.rows (rows_lent table) in
    let sound = rows_sound b.symbols b.rules b.rows table in
    let rest = both_true (range && count && room && sound) (premises_fit b) e in
    let rows = both_true (range && count && room) sound rest.0 in
    let used = both_true (range && count) room rows.0 in
    let rules = both_true range count used.0 in
    let symbols = both_true (leb 1 b.symbols) (leb b.symbols 200) rules.0 in
    let fits = leb-true b.rows (rows_lent table) used.1 in
    let each = sound_both b.symbols b.rules b.rows table rows.1 in
    record {
      some = leb-true 1 b.symbols symbols.0;
      few = leb-true b.rules most_rules rules.1;
      lent = fits;
      sound = record { symbols = leb-true b.symbols 200 symbols.1; rows = omega arith; room = omega arith; sound = λ r h. (each r h).0 };
      numbers = λ r h. (each r h).1;
      fit = rest.1;
    }

-- ---- a board with other premises for a furnace, the same beyond the symbols

-- a set of premises, be it the one that is changed or not, has the same flags beyond
same_beyond : (held now : List Bool) (n : ℕ) → drop n now ≡ drop n held → (its : Bool) (premises : List Bool) → (its ≡ true → held ≡ premises)
    → flag_from (cond its now premises) n ≡ flag_from premises n
same_beyond held now n e true premises is = ap (any (λ h. h)) (e ∙ ap (drop n) (is refl))
same_beyond held now n e false premises is = refl

module _ (b : Board) (furnace : ℕ) (now : List Bool) (e : drop (2 * b.symbols) now ≡ drop (2 * b.symbols) (held_by b furnace)) where
  held_fits : premises_fit (with_held b furnace now) ≡ premises_fit b
  unfolding premises_fit held_by with_held
  held_fits =
      let same = same_beyond (held_by b furnace) now (2 * b.symbols) e in
      ap₂ (λ (one two : Bool). not one && not two)
      (same (eqb furnace 1) b.first (λ is. rw (eqb-true furnace 1 is)))
      (same (eqb furnace 2) b.second (λ is. rw (eqb-true furnace 2 is)))

  pub held_good : (table : List ℤ) → good_board table (with_held b furnace now) ≡ good_board table b
  unfolding good_board with_held
  held_good table = rw held_fits

-- with a premise more or less, at a place of the board's
module _ (b : Board) (furnace : ℕ) (l : ℤ) (flag : Bool) (low : place_of l < 2 * b.symbols) where
  flag_beyond : drop (2 * b.symbols) (set (held_by b furnace) (place_of l) flag) ≡ drop (2 * b.symbols) (held_by b furnace)
  flag_beyond = drop-set-lt (2 * b.symbols) (held_by b furnace) (place_of l) flag low

  pub flag_fits : premises_fit (with_flag b furnace l flag) ≡ premises_fit b
  flag_fits = held_fits b furnace (set (held_by b furnace) (place_of l) flag) flag_beyond

  pub flag_good : (table : List ℤ) → good_board table (with_flag b furnace l flag) ≡ good_board table b
  flag_good = held_good b furnace (set (held_by b furnace) (place_of l) flag) flag_beyond

-- ---- a board just opened

-- of premises that start empty none is set
unset : (n k : ℕ) → flag_from (replicate n false) k ≡ false
unset zero zero = refl
unset zero (suc k) = refl
unset (suc n) zero = unset n zero
unset (suc n) (suc k) = unset n k

pub empty_good : (table : List ℤ) (S : ℕ) → leb 1 S && leb S 200 ≡ true → good_board table (empty_board S) ≡ true
unfolding rows_sound premises_fit
empty_good table S e =
    let count = both_true (leb 1 S) (leb S 200) e in
    by_rows_lem table (empty_board S) (leb-true 1 S count.0) (leb-true S 200 count.1) zero-le zero-le ∙ rw (unset 400 (2 * S))
