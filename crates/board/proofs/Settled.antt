-- What settle answers and writes, where it is refused and where it is done.
use Rattle.meaning.proofs.Kit.{◌≡◌, ◌∙◌, sym, ⊎_elim, inl, inr, List, ◌++◌, ℕ, ◌<◌, ◌*◌, arith, ℤ, length, drop, list_get_or_append, not-false}
use Rattle.meaning.specs.Tests.{none}
use Rattle.meaning.specs.Rounds.{ranks_of, supports_of, labels_of}
use Rattle.meaning.proofs.Ranks.{rank_of_is}
use Rattle.meaning.proofs.Tables.{length_tabulate}
use Rattle.literals.specs.declared.refusal.Refusal.{Refusal}
use Rattle.findings.specs.Ranks.{labels_from}
use Rattle.findings.proofs.RankTables.{length_ranks_of, get_d_ranks_of}
use Rattle.findings.proofs.Final.{labels_from_is}
use Rattle.board.specs.Furnaces.{held_by}
use Rattle.board.specs.Faults.{good_board}
use Rattle.board.specs.Ranking.{rows_on}
use Rattle.board.specs.Settling.{settle_faults, settle_outcome, settled_labels, settled_ranks, settled_supports, RanksBounded}
use Rattle.board.specs.declared.Board.{Board}
use Rattle.board.specs.Faults.{Outcome}
use Rattle.std.specs.Prelude.{Ok, Err}
use Rattle.board.proofs.Goodness.{good_is}
use Rattle.board.proofs.Answered.{refused_not_done, none_given}
use Rattle.board.proofs.Lending.{length_supports_of}

module _ (table : List ℤ) (b : Board) (furnace : ℕ) (labels ranks supports : List ℕ) where
  -- the outcome, the three tables after the call, and the bound on the ranks
  abbrev pub Settled : Outcome → (labels ranks supports : List ℕ) → Type 0
  Settled o l r s =
      (o ≡ settle_outcome table b furnace labels ranks supports)
      × (l ≡ settled_labels table b furnace labels ranks supports)
      × (r ≡ settled_ranks table b furnace labels ranks supports)
      × (s ≡ settled_supports table b furnace labels ranks supports)
      × (o ≡ Ok tt → RanksBounded b.symbols r)

  pub settle_refused : (why : Refusal) → settle_outcome table b furnace labels ranks supports ≡ Err why
      → Settled (Err why) labels ranks supports
  unfolding settled_labels settled_ranks settled_supports
  settle_refused why e = (sym e, rw e, rw e, rw e, λ done. refused_not_done done)

  abbrev rows : List (List ℕ)
  rows = rows_on table b

  -- no rank written is above 2S
  pub ranks_bounded : settle_outcome table b furnace labels ranks supports ≡ Ok tt
      → RanksBounded b.symbols (settled_ranks table b furnace labels ranks supports)
  unfolding settle_outcome settle_faults settled_ranks
  ranks_bounded e p h =
      let tests = none_given (settle_faults table b furnace (length labels) (length ranks) (length supports)) e in
      let few = (good_is table b (not-false (good_board table b) (tests 0))).sound.symbols in
      let places = 2 * b.symbols in
      let all = ranks_of places rows (held_by b furnace) in
      let written = list_get_or_append all (drop (length all) ranks) 0 p (omega (arith, length_ranks_of places rows (held_by b furnace))) in
      rw (e, written ∙ get_d_ranks_of places rows (held_by b furnace) p h)
      (⊎_elim (λ f. inl f.0) (λ f. inr f.0) (rank_of_is places rows (held_by b furnace) p (omega (arith, few))))

  length_labels : length (labels_of b.symbols rows (held_by b furnace)) ≡ b.symbols
  unfolding labels_of
  length_labels = length_tabulate b.symbols _

  -- what is written, over the front of each table
  pub settle_done : {l r s : List ℕ} → 2 * b.symbols < none → settle_outcome table b furnace labels ranks supports ≡ Ok tt
      → l ≡ labels_from b.symbols (ranks_of (2 * b.symbols) rows (held_by b furnace)) → r ≡ ranks_of (2 * b.symbols) rows (held_by b furnace)
      → s ≡ supports_of (2 * b.symbols) rows (held_by b furnace)
      → Settled (Ok tt) (l ++ drop b.symbols labels) (r ++ drop (2 * b.symbols) ranks) (s ++ drop (2 * b.symbols) supports)
  unfolding settled_labels settled_ranks settled_supports
  settle_done {r = r} small e el er es =
      let are : r ++ drop (2 * b.symbols) ranks ≡ settled_ranks table b furnace labels ranks supports =
      rw (e, er, length_ranks_of (2 * b.symbols) rows (held_by b furnace)) in (
        sym e,
        rw (e, el ∙ labels_from_is b.symbols rows (held_by b furnace) small, length_labels),
        are,
        rw (e, es, length_supports_of (2 * b.symbols) rows (held_by b furnace)),
        λ _. rw are (ranks_bounded e),
      )
