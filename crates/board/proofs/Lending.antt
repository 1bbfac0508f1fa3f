-- The board's ranks and supports at the front of an array: lent to be filled, and lent again to be read.
use Rattle.meaning.proofs.Kit.{◌≡◌, ◌∙◌, sym, ap, ap₂, Bool, List, ◌++◌, ◌≤◌, ℕ, ◌<◌, ◌+◌, ◌*◌, add-zero, zero-add, arith, ℤ, length, get_or, drop}
use Rattle.meaning.proofs.Kit.{take, replicate, length-append, length-replicate, length-take-le, take_at, get_or-take}
use Rattle.meaning.specs.Tests.{none, tabulate}
use Rattle.meaning.specs.Rounds.{rank_of, ranks_of, support_of, supports_of}
use Rattle.meaning.proofs.Tables.{length_tabulate, tabulate_same}
use Rattle.literals.specs.Row.{Fit}
use Rattle.board.specs.Furnaces.{set_of, held_by}
use Rattle.board.specs.Ranking.{rows_on}
use Rattle.board.specs.declared.Board.{Board}
use Rattle.board.proofs.Goodness.{Good}
use Rattle.findings.proofs.RankTables.{length_ranks_of, get_d_ranks_of}

-- ---- lent to be filled

module _ (table : List ℤ) (b : Board) (big : List ℕ) (room : 2 * b.symbols ≤ length big) where
  pub part_long : length (take (2 * b.symbols) big) ≡ 2 * b.symbols
  part_long = length-take-le (2 * b.symbols) big room

  pub rows_fit : Good table b → Fit (length (take (2 * b.symbols) big)) b.rows table
  rows_fit g = (b.symbols, part_long, g.sound)

  -- and so filled, by what `premises` handed over
  module _ (furnace : ℕ) {held : List Bool} (same : held ≡ set_of furnace b.first b.second) where
    pub filled_is : {filled : List ℕ} → filled ≡ ranks_of (length (take (2 * b.symbols) big)) (rows_on table b) held
        → filled ≡ ranks_of (2 * b.symbols) (rows_on table b) (held_by b furnace)
    unfolding held_by
    filled_is e = e ∙ ap₂ (λ n h. ranks_of n (rows_on table b) h) part_long same

    pub supports_are : (count from : ℕ) {filled : List ℕ}
        → filled ≡ tabulate count (λ i. support_of (length (take (2 * b.symbols) big)) (rows_on table b) held (from + i))
        → filled ≡ tabulate count (λ i. support_of (2 * b.symbols) (rows_on table b) (held_by b furnace) (from + i))
    unfolding held_by
    supports_are count from e = e ∙ ap₂ (λ n h. tabulate count (λ i. support_of n (rows_on table b) h (from + i))) part_long same

module _ (places : ℕ) (rows : List (List ℕ)) (held : List Bool) where
  -- the supports of all the places
  pub all_supports : {count : ℕ} {filled : List ℕ} → count ≡ places → filled ≡ tabulate count (λ i. support_of places rows held (0 + i))
      → filled ≡ supports_of places rows held
  unfolding supports_of
  all_supports {count} e is =
      is
      ∙ tabulate_same 0 count places (λ i. support_of places rows held (0 + i)) (support_of places rows held) e
      (λ i h. ap (support_of places rows held) (zero-add i))

  pub length_supports_of : length (supports_of places rows held) ≡ places
  unfolding supports_of
  length_supports_of = length_tabulate places (support_of places rows held)

  -- the support of one place
  pub one_support : (p : ℕ) {filled : List ℕ} → filled ≡ tabulate 1 (λ i. support_of places rows held (p + i))
      → get_or filled 0 0 ≡ support_of places rows held p
  one_support p is = ap (λ (l : List ℕ). get_or l 0 0) is ∙ ap (support_of places rows held) (add-zero p)

-- ---- lent to be read

-- a table is the first n of a list
pub record Front {A : Type 0} (n : ℕ) (table list : List A) : Type 0 where
  pub room : n ≤ length list
  pub long : length (take n list) ≡ n
  pub is : take n list ≡ table

pub front_of : {A : Type 0} (n : ℕ) (table rest : List A) → length table ≡ n → Front n table (table ++ rest)
front_of n table rest e =
    let is = take_at table rest n e in
    record { room = omega (arith, e, length-append table rest); long = ap length is ∙ e; is = is }

-- the ranks are the first 2S of a list
abbrev pub RanksIn : List ℤ → Board → (furnace : ℕ) → List ℕ → Type 0
RanksIn table b furnace list = Front (2 * b.symbols) (ranks_of (2 * b.symbols) (rows_on table b) (held_by b furnace)) list

module _ (table : List ℤ) (b : Board) (furnace : ℕ) where
  pub rank_at : {list : List ℕ} → RanksIn table b furnace list → (p : ℕ) → p < 2 * b.symbols
      → get_or list p 0 ≡ rank_of (2 * b.symbols) (rows_on table b) (held_by b furnace) p
  rank_at {list} front p h =
      sym (get_or-take (2 * b.symbols) list p 0 h)
      ∙ ap (λ (l : List ℕ). get_or l p 0) front.is
      ∙ get_d_ranks_of (2 * b.symbols) (rows_on table b) (held_by b furnace) p h

-- ---- an array of as many ranks as a board can have, its front lent

module _ (table : List ℤ) (b : Board) (g : Good table b) where
  pub places_few : 2 * b.symbols < none
  places_few = omega (arith, g.sound.symbols)

  pub ranks_room : 2 * b.symbols ≤ length (replicate 400 none)
  ranks_room = rw length-replicate (omega (arith, g.sound.symbols))

  pub ranks_long : length (take (2 * b.symbols) (replicate 400 none)) ≡ 2 * b.symbols
  ranks_long = part_long table b (replicate 400 none) ranks_room

  -- all that `propagate` requires of it
  pub can_propagate : (held : List Bool) → 400 ≡ length held
      → Fit (length (take (2 * b.symbols) (replicate 400 none))) b.rows table × (length (take (2 * b.symbols) (replicate 400 none)) ≤ length held)
  can_propagate held all = (rows_fit table b (replicate 400 none) ranks_room g, omega (arith, ranks_long, all, g.sound.symbols))

  pub ranks_back : (furnace : ℕ) {held : List Bool} {ranks : List ℕ} → held ≡ set_of furnace b.first b.second
      → ranks ≡ ranks_of (length (take (2 * b.symbols) (replicate 400 none))) (rows_on table b) held
      → RanksIn table b furnace (ranks ++ drop (2 * b.symbols) (replicate 400 none))
  ranks_back furnace same are =
      rw (filled_is table b (replicate 400 none) ranks_room furnace same are)
      (front_of (2 * b.symbols) _ _ (length_ranks_of (2 * b.symbols) (rows_on table b) (held_by b furnace)))

  -- and the support of one place, in an array of its own
  pub support_back : (furnace : ℕ) {held : List Bool} → held ≡ set_of furnace b.first b.second → (p : ℕ) {supports : List ℕ}
      → supports ≡ tabulate 1 (λ i. support_of (length (take (2 * b.symbols) (replicate 400 none))) (rows_on table b) held (p + i))
      → get_or supports 0 0 ≡ support_of (2 * b.symbols) (rows_on table b) (held_by b furnace) p
  support_back furnace same p are =
      one_support (2 * b.symbols) (rows_on table b) (held_by b furnace) p
      (supports_are table b (replicate 400 none) ranks_room furnace same 1 p are)
