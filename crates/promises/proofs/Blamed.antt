-- 02, Ticket 4: the symbol that blame takes, and what the premises that it marks are good for.
use Rattle.meaning.proofs.Kit.{◌≡◌, ◌∙◌, ap, refl, true, false, Bool, ◌||◌, List, map, ◌≤◌, ℕ, ◌<◌, ◌*◌, arith, length, get_or, not-false}
use Rattle.meaning.specs.Tests.{none}
use Rattle.meaning.specs.Literals.{place, has, Within, conflict}
use Rattle.meaning.specs.Ground.{reaches, blamed, blame}
use Rattle.meaning.specs.Promises.{Earliest}
use Rattle.meaning.proofs.Blame.{length_blame, blame_at, blamed_is, blame_held, blame_enough}
use Rattle.board.specs.Furnaces.{held_by}
use Rattle.board.specs.Faults.{Fault}
use Rattle.board.specs.Ranking.{derived_on}
use Rattle.board.specs.Grounds.{byte_of, blame_faults, blame_outcome, blame_marks}
use Rattle.std.specs.Prelude.{Ok}
use Rattle.board.proofs.Answered.{none_given}
use Rattle.promises.specs.Calls.{blames, World, front, answer, outcome, run}
use Rattle.promises.specs.Demands.{rows_of_world, premises_of, derived_set, BlameTakes, Marked, BlameMarksHeld, BlameAlone, ConflictLasts}
use Rattle.promises.proofs.Told.{rows_read, few_enough, blame_tells, its_mark, byte_marked, marked_byte}
use Rattle.promises.proofs.Spared.{Kept, spared}

-- ---- a board on which blame is done

module _ (w : World) (lent furnace : ℕ) (marks : List ℕ) (e : outcome w (blames lent furnace marks) ≡ Ok tt) where
  abbrev S : ℕ
  S = w.board.symbols

  abbrev rows : List (List ℕ)
  rows = rows_of_world w

  abbrev held : List Bool
  held = premises_of w furnace

  abbrev marked : List Bool
  marked = blame S rows held

  -- no case of its refusals is given
  not_given : (i : ℕ) → get_or (map (λ (f : Fault). f.given) (blame_faults (front w lent) w.board furnace (length marks))) i false ≡ false
  unfolding answer outcome blame_outcome
  not_given = none_given (blame_faults (front w lent) w.board furnace (length marks)) e

  in_conflict : conflict (derived_set w furnace) ≡ true
  unfolding blame_faults
  in_conflict = rw (rows_read w lent (not_given 0)) at (not-false (conflict (derived_on (front w lent) w.board furnace)) (not_given 3))

  small : 2 * S < none
  unfolding blame_faults
  small = (few_enough w lent (not_given 0)).0

  few : length rows ≤ none
  unfolding blame_faults
  few = omega (arith, (few_enough w lent (not_given 0)).1)

  -- ---- the bytes

  long : length marked ≡ 2 * S
  long = length_blame S rows held

  takes : (s : ℕ) × Earliest S rows held s
      × ((p : ℕ) → p < 2 * S → get_or (blame_marks (front w lent) w.board furnace marks) p 0
      ≡ byte_of (reaches (2 * S) rows held (place s true) p || reaches (2 * S) rows held (place s false) p))
  takes = (
    blamed S rows held,
    (blamed_is S rows held (blamed S rows held) small in_conflict).0 refl,
    λ p h. its_mark marked _ long (blame_tells w lent furnace marks e) p h ∙ ap byte_of (blame_at S rows held p h),
  )

  marked_has : (p : ℕ) → Marked w lent furnace marks p → has marked p ≡ true
  marked_has = byte_marked marked _ long (blame_tells w lent furnace marks e)

  has_marked : (p : ℕ) → has marked p ≡ true → Marked w lent furnace marks p
  has_marked = marked_byte marked _ long (blame_tells w lent furnace marks e)

  marks_held : Within marked held
  marks_held = blame_held S rows held small few in_conflict

  -- a board that has these rows, and maybe others, and on which the furnace holds the premises marked, and maybe others
  kept_conflict : (v : World) → Kept w furnace marked v → conflict (derived_set v furnace) ≡ true
  unfolding held_by
  kept_conflict v k = rw k.symbols (blame_enough S rows (rows_of_world v) held (premises_of v furnace) small few in_conflict k.rows k.premises)

-- ---- the promises

pub blame_takes : BlameTakes
blame_takes w lent furnace marks e = takes w lent furnace marks e

pub blame_marks_held : BlameMarksHeld
blame_marks_held w lent furnace marks p e m = marks_held w lent furnace marks e p (marked_has w lent furnace marks e p m)

pub blame_alone : BlameAlone
blame_alone w v lent furnace marks e symbols rows only =
    kept_conflict w lent furnace marks e v
    (record { symbols = symbols; rows = λ row m. rw rows m; premises = λ p h. (only p).1 (has_marked w lent furnace marks e p h) })

pub conflict_lasts : ConflictLasts
conflict_lasts w lent furnace marks calls e sparing =
    kept_conflict w lent furnace marks e (run w calls)
    (spared w furnace (marked w lent furnace marks e) (Marked w lent furnace marks)
    (has_marked w lent furnace marks e) (marks_held w lent furnace marks e) calls sparing)
