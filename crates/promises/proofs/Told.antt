-- Demand 2, what the calls tell: the derived literals, ranks and supports over the rows in the table and the premises then held.
use Rattle.meaning.proofs.Kit.{◌≡◌, ◌∙◌, sym, ap, refl, true, false, Bool, not, List, [], ◌++◌, map, ◌≤◌, ℕ, ◌<◌, ◌-◌, suc, ◌*◌, arith, length, get_or}
use Rattle.meaning.proofs.Kit.{drop, length-map, list_get_or_append, drop_at, not-false}
use Rattle.meaning.specs.Tests.{none, tabulate}
use Rattle.meaning.specs.Literals.{has}
use Rattle.meaning.specs.Rounds.{label, ranks_of, supports_of, labels_of}
use Rattle.meaning.specs.Ground.{ground, blame}
use Rattle.meaning.proofs.Tables.{length_tabulate, get_d_tabulate, tabulate_same}
use Rattle.meaning.proofs.Derived.{derived_is}
use Rattle.meaning.proofs.Literals.{has_below}
use Rattle.literals.proofs.Decoding.{length_rows}
use Rattle.board.specs.Faults.{good_board}
use Rattle.board.specs.Ranking.{rows_on}
use Rattle.board.specs.Settling.{settle_faults, settle_outcome, settled_labels, settled_ranks, settled_supports}
use Rattle.board.specs.Asking.{ask_faults, asked, asked_whole}
use Rattle.board.specs.Grounds.{byte_of, ground_faults, ground_outcome, ground_marks, blame_faults, blame_outcome, blame_marks}
use Rattle.std.specs.Prelude.{Ok}
use Rattle.board.proofs.Goodness.{good_is}
use Rattle.board.proofs.Answered.{none_given}
use Rattle.board.proofs.Grounded.{mark_at_lem, byte_one}
use Rattle.dimacs.specs.Writing.{literals_of, clause_at, clauses_at, text_of, text_on, write_faults, write_outcome, write_answer, write_bytes}
use Rattle.promises.specs.Calls.{asks, asks_whole, settles, World, front, faults, answer, outcome, run}
use Rattle.promises.specs.Demands.{rows_of_world, premises_of, derived_set, rank_in, support_in, Tells, SettleTells, SettleSpares, AskTells}
use Rattle.promises.specs.Demands.{AskWholeTells, GroundTells, BlameTells, WriteTells}
use Rattle.promises.proofs.Refusals.{cases}
use Rattle.promises.proofs.Lent.{rows_lent_lem, numbers_lent}

-- the rows that a call reads in the part that it is lent are those of the whole table
pub rows_read : (w : World) (lent : ℕ) → not (good_board (front w lent) w.board) ≡ false → rows_on (front w lent) w.board ≡ rows_of_world w
rows_read w lent e =
    let good = good_is (front w lent) w.board (not-false (good_board (front w lent) w.board) e) in
    rows_lent_lem lent w.board.rows w.table good.sound.room

-- and their places and rows can be counted
pub few_enough : (w : World) (lent : ℕ) → not (good_board (front w lent) w.board) ≡ false
    → (2 * w.board.symbols < none) × (length (rows_of_world w) < none)
few_enough w lent e =
    let good = good_is (front w lent) w.board (not-false (good_board (front w lent) w.board) e) in
    (omega (arith, good.sound.symbols), omega (arith, length_rows w.board.rows w.table, good.sound.rows))

-- ---- settle

-- what stands in a table whose first places are written
written_at : (n : ℕ) (f : ℕ → ℕ) (rest : List ℕ) (i : ℕ) → i < n → get_or (tabulate n f ++ rest) i 0 ≡ f i
written_at n f rest i h = list_get_or_append (tabulate n f) rest 0 i (omega (arith, length_tabulate n f)) ∙ get_d_tabulate n f i 0 h

module _ (w : World) (lent furnace : ℕ) (labels ranks supports : List ℕ) (e : outcome w (settles lent furnace labels ranks supports) ≡ Ok tt) where
  abbrev places : ℕ
  places = 2 * w.board.symbols

  rows : rows_on (front w lent) w.board ≡ rows_of_world w
  unfolding answer outcome settle_outcome settle_faults
  rows = rows_read w lent (none_given (settle_faults (front w lent) w.board furnace (length labels) (length ranks) (length supports)) e 0)

  pub label_at : (s : ℕ) → 1 ≤ s → s ≤ w.board.symbols
      → get_or (settled_labels (front w lent) w.board furnace labels ranks supports) (s - 1) 0 ≡ label (derived_set w furnace) s
  unfolding answer outcome settled_labels labels_of
  label_at s low high =
      let next : suc (s - 1) ≡ s = omega arith in
      rw (e, rows)
      (written_at w.board.symbols (λ i. label (derived_set w furnace) (suc i)) _ (s - 1) (omega arith) ∙ ap (label (derived_set w furnace)) next)

  rank_at : (p : ℕ) → p < places → get_or (settled_ranks (front w lent) w.board furnace labels ranks supports) p 0 ≡ rank_in w furnace p
  unfolding answer outcome settled_ranks ranks_of
  rank_at p h = rw (e, rows) (written_at places (rank_in w furnace) _ p h)

  support_at_lem : (p : ℕ) → p < places → get_or (settled_supports (front w lent) w.board furnace labels ranks supports) p 0 ≡ support_in w furnace p
  unfolding answer outcome settled_supports supports_of
  support_at_lem p h = rw (e, rows) (written_at places (support_in w furnace) _ p h)

  tells : Tells w furnace (settled_labels (front w lent) w.board furnace labels ranks supports)
      (settled_ranks (front w lent) w.board furnace labels ranks supports)
      (settled_supports (front w lent) w.board furnace labels ranks supports)
  tells =
      record {
        label = label_at;
        derived = λ p. (let r = derived_is places (rows_of_world w) (premises_of w furnace) p in (r.1, r.0));
        rank = rank_at;
        support = support_at_lem;
      }

pub settle_tells : SettleTells
settle_tells w₀ calls lent furnace labels ranks supports e = tells (run w₀ calls) lent furnace labels ranks supports e

-- what stands after the places that are written
spared : (n : ℕ) (f : ℕ → ℕ) (lent : List ℕ) → drop n (tabulate n f ++ drop (length (tabulate n f)) lent) ≡ drop n lent
spared n f lent = rw (length_tabulate n f) (drop_at (tabulate n f) (drop n lent) n (length_tabulate n f))

pub settle_spares : SettleSpares
unfolding answer outcome settled_labels labels_of settled_ranks ranks_of settled_supports supports_of
settle_spares w lent furnace labels ranks supports e =
    rw e (spared w.board.symbols _ labels, spared (2 * w.board.symbols) _ ranks, spared (2 * w.board.symbols) _ supports)

-- ---- ask, ground and blame

pub ask_tells : AskTells
unfolding faults asked ask_faults
ask_tells w lent furnace l e =
    let f = cases w (asks lent furnace l) e in
    rw (f, rows_read w lent (none_given (ask_faults (front w lent) w.board furnace l) f 0))

pub ask_whole_tells : AskWholeTells
unfolding faults asked_whole ask_faults
ask_whole_tells w lent furnace l e =
    let f = cases w (asks_whole lent furnace l) e in
    rw (f, rows_read w lent (none_given (ask_faults (front w lent) w.board furnace l) f 0))

-- as many marks are written as there are
marks_over : (n : ℕ) (f : ℕ → Bool) (marks : List ℕ) → let new = map byte_of (tabulate n f) in new ++ drop (length new) marks ≡ new ++ drop n marks
marks_over n f marks = ap (λ (k : ℕ). map byte_of (tabulate n f) ++ drop k marks) (length-map (tabulate n f) byte_of ∙ length_tabulate n f)

pub ground_tells : GroundTells
unfolding answer outcome ground_outcome ground_marks ground_faults ground
ground_tells w lent furnace l marks e =
    rw (e, rows_read w lent (none_given (ground_faults (front w lent) w.board furnace l (length marks)) e 0))
    (marks_over (2 * w.board.symbols) _ marks)

pub blame_tells : BlameTells
unfolding answer outcome blame_outcome blame_marks blame_faults blame
blame_tells w lent furnace marks e =
    rw (e, rows_read w lent (none_given (blame_faults (front w lent) w.board furnace (length marks)) e 0))
    (marks_over (2 * w.board.symbols) _ marks)

-- so of the first places, those whose byte is 1 are those marked
module _ {n : ℕ} {bytes : List ℕ} (marked : List Bool) (rest : List ℕ) (long : length marked ≡ n) (told : bytes ≡ map byte_of marked ++ rest) where
  pub its_mark : (p : ℕ) → p < n → get_or bytes p 0 ≡ byte_of (has marked p)
  its_mark p low = ap (λ (l : List ℕ). get_or l p 0) told ∙ mark_at_lem marked rest p (omega (arith, long))

  pub byte_marked : (p : ℕ) → (p < n) × (get_or bytes p 0 ≡ 1) → has marked p ≡ true
  byte_marked p m = byte_one (has marked p) (sym (its_mark p m.0) ∙ m.1)

  pub marked_byte : (p : ℕ) → has marked p ≡ true → (p < n) × (get_or bytes p 0 ≡ 1)
  marked_byte p h = let low : p < n = omega (arith, has_below marked p h, long) in (low, its_mark p low ∙ ap byte_of h)

-- ---- the text

-- the text of the rows in the part that is lent is that of the whole table's
text_read : (w : World) (lent : ℕ) → not (good_board (front w lent) w.board) ≡ false
    → text_on (front w lent) w.board ≡ text_on w.table w.board
unfolding text_on clauses_at
text_read w lent e =
    let used = w.board.rows in
    let good = good_is (front w lent) w.board (not-false (good_board (front w lent) w.board) e) in
    ap (text_of w.board.symbols)
    (tabulate_same [] used used (clause_at (front w lent)) (clause_at w.table) refl
    (λ r b. ap literals_of (numbers_lent lent used w.table good.sound.room r b)))

pub write_tells : WriteTells
unfolding answer outcome write_answer write_outcome write_bytes write_faults
write_tells w lent out e =
    let same = text_read w lent (none_given (write_faults (front w lent) w.board (length out)) e 0) in
    (rw (e, same), rw (e, same))
