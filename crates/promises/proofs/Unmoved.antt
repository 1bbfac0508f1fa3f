-- 02, Ticket 9, over calls: the marks that can't move.
use Rattle.meaning.proofs.Kit.{◌≡◌, ◌∙◌, sym, ap, refl, ⊎_elim, inl, inr, true, false, Bool, cond, ◌&&◌, not, and-false, List, [], ◌∷◌, map, ℕ, ◌<◌}
use Rattle.meaning.proofs.Kit.{◌*◌, arith, eqb, ℤ, length, get_or, ne_eqb, not-false}
use Rattle.meaning.specs.Tests.{none}
use Rattle.meaning.specs.Literals.{opp, has, Within, conflict}
use Rattle.meaning.specs.Rounds.{derived}
use Rattle.meaning.specs.Ground.{ground}
use Rattle.meaning.specs.Promises.{Unmoved}
use Rattle.meaning.proofs.Tests.{true_or_false, false_of, clash, same_test}
use Rattle.meaning.proofs.Tables.{length_tabulate}
use Rattle.meaning.proofs.Ranks.{rank_zero}
use Rattle.meaning.proofs.Derived.{derived_is}
use Rattle.meaning.proofs.Growth.{known_before, no_conflict_more}
use Rattle.meaning.proofs.Unmoved.{ground_held, ground_enough}
use Rattle.literals.specs.Literal.{in_range, place_of}
use Rattle.board.specs.Furnaces.{is_furnace, held_by}
use Rattle.board.specs.Faults.{good_board, Fault, first_fault, if_done}
use Rattle.board.specs.Ranking.{rows_on, derived_on}
use Rattle.board.specs.Settling.{settle_faults, settle_outcome, settled_ranks, settled_supports}
use Rattle.board.specs.Asking.{ask_faults, standing, asked, standing_whole, asked_whole, explain_faults, explain_numbers, explain_part}
use Rattle.board.specs.Grounds.{ground_faults, ground_outcome, ground_marks}
use Rattle.std.specs.Prelude.{Ok, Err}
use Rattle.board.specs.declared.asking.Standing.{Standing}
use Rattle.board.specs.declared.asking.Standing.TheVariants.{Conflict, Stands}
use Rattle.literals.proofs.Arguments.{place_fits}
use Rattle.board.proofs.Answered.{none_given}
use Rattle.promises.specs.Calls.{Call, withdraws, asks, asks_whole, explains, settles, grounds, World, of_ask, front, faults, answer, outcome}
use Rattle.promises.specs.Calls.{run}
use Rattle.promises.specs.Demands.{rows_of_world, premises_of, derived_set, rank_in, support_in, InGround, GroundAlone, KeptBut, CannotMove}
use Rattle.promises.specs.Demands.{MarkStays, StrikesOff}
use Rattle.promises.proofs.Refusals.{cases, done_or_refused, refused_unwritten}
use Rattle.promises.proofs.Told.{rows_read, few_enough, settle_tells, ground_tells, byte_marked, marked_byte}
use Rattle.promises.proofs.Fewer.{Fewer, fewer}
use Rattle.promises.proofs.Spared.{spared}

-- how a literal stands that was derived and still is, where what is a conflict for it now was one before
kept_but : (before now : Bool) → (now ≡ true → before ≡ true) → KeptBut (of_ask (Ok (cond before Conflict Stands))) (of_ask (Ok (cond now Conflict Stands)))
kept_but true true more = inl refl
kept_but true false more = inr (refl, refl)
kept_but false true more = clash (more refl) refl
kept_but false false more = inl refl

-- ---- a literal whose ground is told

module _ (w : World) (lent furnace : ℕ) (l : ℤ) (marks : List ℕ) (e : outcome w (grounds lent furnace l marks) ≡ Ok tt) where
  abbrev S : ℕ
  S = w.board.symbols

  abbrev rows : List (List ℕ)
  rows = rows_of_world w

  abbrev held : List Bool
  held = premises_of w furnace

  abbrev p : ℕ
  p = place_of l

  abbrev its_ground : List Bool
  its_ground = ground (2 * S) rows held p

  -- no case of its refusals is given
  not_given : (i : ℕ) → get_or (map (λ (f : Fault). f.given) (ground_faults (front w lent) w.board furnace l (length marks))) i false ≡ false
  unfolding answer outcome ground_outcome
  not_given = none_given (ground_faults (front w lent) w.board furnace l (length marks)) e

  named : is_furnace furnace ≡ true
  unfolding ground_faults
  named = not-false (is_furnace furnace) (not_given 1)

  range : in_range S l ≡ true
  unfolding ground_faults
  range = not-false (in_range S l) (not_given 2)

  below : p < 2 * S
  below = place_fits S l range

  pub is_derived : has (derived_set w furnace) p ≡ true
  unfolding ground_faults
  is_derived = rw (rows_read w lent (not_given 0)) at (not-false (has (derived_on (front w lent) w.board furnace) p) (not_given 4))

  pub small : 2 * S < none
  unfolding ground_faults
  small = (few_enough w lent (not_given 0)).0

  pub few : length rows < none
  unfolding ground_faults
  few = (few_enough w lent (not_given 0)).1

  -- ---- the bytes

  long : length its_ground ≡ 2 * S
  unfolding ground
  long = length_tabulate (2 * S) _

  pub in_ground : (h : ℕ) → has its_ground h ≡ true → InGround w lent furnace l marks h
  in_ground = marked_byte its_ground _ long (ground_tells w lent furnace l marks e)

  ground_in : (h : ℕ) → InGround w lent furnace l marks h → has its_ground h ≡ true
  ground_in = byte_marked its_ground _ long (ground_tells w lent furnace l marks e)

  is_held : Within its_ground held
  is_held = ground_held (2 * S) rows held p small few below

  -- ---- with premises between the ground and those held

  enough : (now : List Bool) → Within its_ground now → Within now held → Unmoved (2 * S) rows held now p
  enough now covers fewer = ground_enough (2 * S) rows held now p small few is_derived covers fewer

  module _ (v : World) (f : Fewer furnace w v)
      (covers : Within (ground (2 * w.board.symbols) (rows_of_world w) (premises_of w furnace) (place_of l)) (premises_of v furnace)) where
    u : Unmoved (2 * S) rows held (premises_of v furnace) p
    u = enough (premises_of v furnace) covers f.premises

    good_same : (some : ℕ) → good_board (front v some) v.board ≡ good_board (front w some) w.board
    unfolding good_board
    good_same some = rw (f.fit, f.symbols, f.rows, f.rules, f.table)

    -- it is held if it was
    held_same : has (premises_of v furnace) p ≡ has held p
    held_same =
        same_test (has (premises_of v furnace) p) (has held p) (f.premises p)
        (λ t. (rank_zero (2 * S) rows (premises_of v furnace) p small below).0 (u.rank ∙ (rank_zero (2 * S) rows held p small below).1 t))

    rank_same : rank_in v furnace p ≡ rank_in w furnace p
    unfolding held_by
    rank_same = rw (f.symbols, f.rows, f.table) u.rank

    support_same : support_in v furnace p ≡ support_in w furnace p
    unfolding held_by
    support_same = rw (f.symbols, f.rows, f.table) u.support

    -- where the part lent makes no good board, every call is refused with 1; where it does, the rows are the table's
    by_part : (some : ℕ) (c : Call) → (good_board (front w some) w.board ≡ false → answer v c ≡ answer w c)
        → (good_board (front w some) w.board ≡ true → rows_on (front w some) w.board ≡ rows_of_world w → answer v c ≡ answer w c)
        → answer v c ≡ answer w c
    by_part some c bad fine = ⊎_elim (λ g. fine g (rows_read w some (ap not g))) bad (true_or_false (good_board (front w some) w.board))

    explain_same : (some : ℕ) → answer v (explains some furnace l) ≡ answer w (explains some furnace l)
    unfolding answer explain_faults explain_numbers explain_part held_by
    explain_same some =
        by_part some (explains some furnace l) (λ g. rw (good_same some, g))
        (λ g read. rw (good_same some, g, f.symbols, f.rows, f.table, read, held_same, u.derived, is_derived, u.rank, u.support))

    ground_same : (some : ℕ) (bytes : List ℕ) → answer v (grounds some furnace l bytes) ≡ answer w (grounds some furnace l bytes)
    unfolding answer ground_outcome ground_marks ground_faults held_by
    ground_same some bytes =
        by_part some (grounds some furnace l bytes) (λ g. rw (good_same some, g))
        (λ g read. rw (good_same some, g, f.symbols, f.rows, f.table, read, u.derived, is_derived, u.ground))

    -- both calls that ask are refused as before; where they are done, they answer by the rows of the table
    told_kept : (some : ℕ) (before now : Standing) → (rows_on (front w some) w.board ≡ rows → KeptBut (of_ask (Ok before)) (of_ask (Ok now)))
        → KeptBut (of_ask (if_done (first_fault (ask_faults (front w some) w.board furnace l)) (Ok before) (λ why. Err why)))
        (of_ask (if_done (first_fault (ask_faults (front v some) v.board furnace l)) (Ok now) (λ why. Err why)))
    unfolding ask_faults
    told_kept some before now kept =
        ⊎_elim
        (λ (g : good_board (front w some) w.board ≡ true).
        rw (good_same some, g, named, f.symbols, range) (kept (rows_read w some (ap not g))))
        (λ (g : good_board (front w some) w.board ≡ false). inl (rw (good_same some, g)))
        (true_or_false (good_board (front w some) w.board))

    -- what is derived now was derived before, so the opposite of the literal is not derived anew,
    ask_kept : (some : ℕ) → KeptBut (answer w (asks some furnace l)) (answer v (asks some furnace l))
    unfolding answer asked held_by
    ask_kept some =
        told_kept some (standing (derived_on (front w some) w.board furnace) p) (standing (derived_on (front v some) v.board furnace) p)
        (λ read. rw (f.symbols, f.rows, f.table, read, is_derived, u.derived)
        (kept_but _ _ (known_before (2 * S) rows (premises_of v furnace) held f.premises (2 * S) (opp p))))

    -- and no conflict comes up
    conflict_before : conflict (derived (2 * S) rows (premises_of v furnace)) ≡ true → conflict (derived (2 * S) rows held) ≡ true
    conflict_before = no_conflict_more (2 * S) rows (premises_of v furnace) held f.premises

    ask_whole_kept : (some : ℕ) → KeptBut (answer w (asks_whole some furnace l)) (answer v (asks_whole some furnace l))
    unfolding answer asked_whole held_by
    ask_whole_kept some =
        told_kept some (standing_whole (derived_on (front w some) w.board furnace) p)
        (standing_whole (derived_on (front v some) v.board furnace) p)
        (λ read. rw (f.symbols, f.rows, f.table, read, is_derived, u.derived) (kept_but _ _ conflict_before))

    -- where the board was good, what either call tells now is how the literal stands
    told_now : (some : ℕ) (now : Standing) → good_board (front w some) w.board ≡ true
        → of_ask (if_done (first_fault (ask_faults (front v some) v.board furnace l)) (Ok now) (λ why. Err why)) ≡ of_ask (Ok now)
    unfolding ask_faults
    told_now some now g = rw (good_same some, g, named, f.symbols, range)

    was_good : (some : ℕ) (c : Call) → faults w c ≡ ask_faults (front w some) w.board furnace l → outcome w c ≡ Ok tt
        → good_board (front w some) w.board ≡ true
    unfolding ask_faults
    was_good some c e d = not-false (good_board (front w some) w.board)
        (none_given (ask_faults (front w some) w.board furnace l) (sym (ap first_fault e) ∙ cases w c d) 0)

    stands_now : (some : ℕ) → has (derived_set v furnace) (opp p) ≡ false → outcome w (asks some furnace l) ≡ Ok tt
        → answer v (asks some furnace l) ≡ of_ask (Ok Stands)
    unfolding answer asked faults held_by
    stands_now some alone d =
        let g = was_good some (asks some furnace l) refl d in
        let still : has (derived (2 * S) rows (premises_of v furnace)) (opp p) ≡ false = rw (f.symbols, f.rows, f.table) at alone in
        told_now some (standing (derived_on (front v some) v.board furnace) p) g
        ∙ rw (f.symbols, f.rows, f.table, rows_read w some (ap not g), u.derived, still)

    stands_whole_now : (some : ℕ) → conflict (derived_set v furnace) ≡ false → outcome w (asks_whole some furnace l) ≡ Ok tt
        → answer v (asks_whole some furnace l) ≡ of_ask (Ok Stands)
    unfolding answer asked_whole faults held_by
    stands_whole_now some quiet d =
        let g = was_good some (asks_whole some furnace l) refl d in
        let still : conflict (derived (2 * S) rows (premises_of v furnace)) ≡ false = rw (f.symbols, f.rows, f.table) at quiet in
        told_now some (standing_whole (derived_on (front v some) v.board furnace) p) g
        ∙ rw (f.symbols, f.rows, f.table, rows_read w some (ap not g), still, u.derived)

    no_conflict : conflict (derived_set w furnace) ≡ false → conflict (derived_set v furnace) ≡ false
    unfolding held_by
    no_conflict quiet =
        rw (f.symbols, f.rows, f.table) (false_of (conflict (derived (2 * S) rows (premises_of v furnace)))
        (λ c. clash (conflict_before c) quiet))

    module _ (some : ℕ) (labels ranks supports : List ℕ) where
      outcome_same : outcome v (settles some furnace labels ranks supports) ≡ outcome w (settles some furnace labels ranks supports)
      unfolding answer outcome settle_outcome settle_faults
      outcome_same = rw (good_same some, f.symbols)

      abbrev Same : Type 0
      Same =
          (get_or (settled_ranks (front v some) v.board furnace labels ranks supports) p 0
          ≡ get_or (settled_ranks (front w some) w.board furnace labels ranks supports) p 0)
          × (get_or (settled_supports (front v some) v.board furnace labels ranks supports) p 0
          ≡ get_or (settled_supports (front w some) w.board furnace labels ranks supports) p 0)

      settled_same : Same
      settled_same = ⊎_elim done refused (done_or_refused (outcome w (settles some furnace labels ranks supports)))
        where
          done : outcome w (settles some furnace labels ranks supports) ≡ Ok tt → Same
          done d =
              let here = settle_tells w [] some furnace labels ranks supports d in
              let there = settle_tells v [] some furnace labels ranks supports (outcome_same ∙ d) in
              let low : p < 2 * v.board.symbols = omega (arith, below, f.symbols) in
              (there.rank p low ∙ rank_same ∙ sym (here.rank p below), there.support p low ∙ support_same ∙ sym (here.support p below))

          refused : (why : _) × (outcome w (settles some furnace labels ranks supports) ≡ Err why) → Same
          refused r =
              let here = (refused_unwritten w some r.0).settle furnace labels ranks supports r.1 in
              let there = (refused_unwritten v some r.0).settle furnace labels ranks supports (outcome_same ∙ r.1) in
              (ap (λ (t : List ℕ). get_or t p 0) (there.1 ∙ sym here.1), ap (λ (t : List ℕ). get_or t p 0) (there.2 ∙ sym here.2))

    cannot_move : CannotMove w v furnace l
    cannot_move =
        record {
          explain = explain_same;
          settle =
              λ some labels ranks supports.
              let same = settled_same some labels ranks supports in (outcome_same some labels ranks supports, same.0, same.1);
          ground = ground_same;
          ask = ask_kept;
          stands = stands_now;
          ask_whole = ask_whole_kept;
          stands_whole = stands_whole_now;
          no_conflict = no_conflict;
        }

-- ---- the promises

pub ground_alone : GroundAlone
unfolding held_by
ground_alone w v lent furnace l marks e symbols same_rows only =
    let u =
    enough w lent furnace l marks e (premises_of v furnace) (λ h t. (only h).1 (in_ground w lent furnace l marks e h t))
    (λ h t. is_held w lent furnace l marks e h (ground_in w lent furnace l marks e h ((only h).0 t))) in (
      (derived_is (2 * v.board.symbols) (rows_of_world v) (premises_of v furnace) (place_of l)).1 (rw (symbols, same_rows) u.derived),
      rw (symbols, same_rows) u.rank,
      rw (symbols, same_rows) u.support,
    )

pub mark_stays : MarkStays
mark_stays w lent furnace l marks calls e sparing bringing =
    cannot_move w lent furnace l marks e (run w calls)
    (fewer furnace w (InGround w lent furnace l marks) calls sparing bringing)
    (spared w furnace (its_ground w lent furnace l marks e) (InGround w lent furnace l marks)
    (in_ground w lent furnace l marks e) (is_held w lent furnace l marks e) calls sparing).premises

pub strikes_off : StrikesOff
strikes_off w lent furnace l marks h some e outside =
    mark_stays w lent furnace l marks (withdraws some furnace h ∷ []) e ((refl, apart), tt) ((λ done. refl), tt)
  where
    apart : (x : ℕ) → InGround w lent furnace l marks x → outcome w (withdraws some furnace h) ≡ Ok tt
        → eqb furnace furnace && eqb (place_of h) x ≡ false
    apart x m done = rw (ne_eqb (place_of h) x (λ q. omega (arith, rw q at outside, m.1)), and-false (eqb furnace furnace))
