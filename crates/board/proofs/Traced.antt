-- The ranks and the marks that ground and blame lend, and as they come back.
use Rattle.meaning.proofs.Kit.{◌≡◌, ◌∙◌, sym, ap, ap₂, false, Bool, List, ◌++◌, ◌≤◌, ℕ, ◌*◌, arith, ℤ, length, drop, take, replicate}
use Rattle.meaning.proofs.Kit.{length-replicate, length-take-le}
use Rattle.meaning.specs.Tests.{none}
use Rattle.meaning.specs.Rounds.{ranks_of}
use Rattle.literals.specs.Row.{Fit}
use Rattle.findings.specs.Reach.{reached_asked}
use Rattle.findings.proofs.Filling.{part_same}
use Rattle.board.specs.Furnaces.{set_of, held_by}
use Rattle.board.specs.Ranking.{rows_on}
use Rattle.board.specs.declared.Board.{Board}
use Rattle.board.proofs.Goodness.{Good}
use Rattle.board.proofs.Lending.{Front, front_of, RanksIn, ranks_long, can_propagate, ranks_back}

-- what comes back: the ranks, and the premises reached from p
pub record Traced (table : List ℤ) (b : Board) (furnace : ℕ) (p : ℕ) (list : List ℕ) (reached : List Bool) : Type 0 where
  pub ranks : RanksIn table b furnace list
  pub marks : Front (2 * b.symbols) (reached_asked (2 * b.symbols) (rows_on table b) (held_by b furnace) p) reached

module _ (table : List ℤ) (b : Board) (g : Good table b) where
  -- ---- as they are lent

  pub marks_room : 2 * b.symbols ≤ length (replicate 400 false)
  marks_room = rw length-replicate (omega (arith, g.sound.symbols))

  pub marks_long : length (take (2 * b.symbols) (replicate 400 false)) ≡ 2 * b.symbols
  marks_long = length-take-le (2 * b.symbols) (replicate 400 false) marks_room

  -- all that `trace` requires
  pub can_trace : (held : List Bool) → 400 ≡ length held
      → Fit (length (take (2 * b.symbols) (replicate 400 none))) b.rows table
      × (((length (take (2 * b.symbols) (replicate 400 none)) ≤ length held)
      × (length (take (2 * b.symbols) (replicate 400 false)) ≡ length (take (2 * b.symbols) (replicate 400 none))))
      × (take (2 * b.symbols) (replicate 400 false) ≡ replicate (length (take (2 * b.symbols) (replicate 400 none))) false))
  can_trace held all =
      let can = can_propagate table b g held all in
      let unset = part_same (2 * b.symbols) 400 false (omega (arith, g.sound.symbols)) in
      (can.0, ((can.1, marks_long ∙ sym (ranks_long table b g)), unset ∙ ap (λ n. replicate n false) (sym (ranks_long table b g))))

  -- ---- as they come back

  pub come_back : (furnace p : ℕ) {held : List Bool} {ranks : List ℕ} {marks : List Bool} → held ≡ set_of furnace b.first b.second
      → ranks ≡ ranks_of (length (take (2 * b.symbols) (replicate 400 none))) (rows_on table b) held
      → marks ≡ reached_asked (length (take (2 * b.symbols) (replicate 400 none))) (rows_on table b) held p
      → length marks ≡ length (take (2 * b.symbols) (replicate 400 false))
      → Traced table b furnace p (ranks ++ drop (2 * b.symbols) (replicate 400 none)) (marks ++ drop (2 * b.symbols) (replicate 400 false))
  unfolding held_by
  come_back furnace p {ranks = ranks} {marks} same are reached long =
      let front = front_of (2 * b.symbols) marks (drop (2 * b.symbols) (replicate 400 false)) (long ∙ marks_long) in
      record {
        ranks = ranks_back table b g furnace same are;
        marks =
            record {
              room = front.room;
              long = front.long;
              is = front.is ∙ reached ∙ ap₂ (λ n h. reached_asked n (rows_on table b) h p) (ranks_long table b g) same;
            };
      }
