-- What blame tells of the board with a set struck off: whether a conflict is left, and which candidates it stands on.
use Rattle.meaning.proofs.Kit.{◌≡◌, ◌∙◌, sym, ap, refl, true, false, Bool, cond, not, List, ◌++◌, map, ◌≤◌, ℕ, ◌<◌, ◌*◌, ◌^◌, arith, eqb, leb, ltb, ℤ}
use Rattle.meaning.proofs.Kit.{pow_mono, length, get_or, drop, le-leb, ltb-true}
use lib.Bits.{bit_and}
use Rattle.meaning.specs.Tests.{all}
use Rattle.meaning.specs.Literals.{has, conflict}
use Rattle.meaning.specs.Rounds.{derived}
use Rattle.meaning.specs.Ground.{struck_off, blame}
use Rattle.candidates.specs.Sets.{chosen}
use Rattle.least.specs.Least.{ends}
use Rattle.meaning.proofs.Tests.{all_at}
use Rattle.meaning.proofs.Blame.{length_blame}
use Rattle.candidates.proofs.ChosenSets.{and_apart, passing_same, passing_below}
use Rattle.least.proofs.Least.{leaves_it}
use Rattle.literals.specs.declared.refusal.Refusal.{Refusal}
use Rattle.literals.specs.declared.refusal.Refusal.TheVariants.{NothingToShow}
use Rattle.literals.proofs.Decoding.{length_rows}
use Rattle.board.specs.Furnaces.{is_furnace, held_by, with_held}
use Rattle.board.specs.Faults.{good_board}
use Rattle.board.specs.Ranking.{rows_on, derived_on}
use Rattle.board.specs.Settling.{over}
use Rattle.board.specs.Grounds.{byte_of, blame_faults, blame_outcome, blame_marks}
use Rattle.board.specs.declared.Board.{Board}
use Rattle.board.specs.Faults.{Outcome}
use Rattle.std.specs.Prelude.{Ok, Err}
use Rattle.board.proofs.Goodness.{good_is}
use Rattle.board.proofs.Grounded.{mark_at_lem}
use Rattle.board.proofs.Answered.{refused_not_done}
use Rattle.candidates.specs.Given.{most_candidates}
use Rattle.least.specs.Withdrawing.{leaves_conflict}
use Rattle.least.specs.Effects.{struck_on, marked_set, core_of, effect_of}
use Rattle.std.specs.Prelude.{Some, None}
use Rattle.least.proofs.Striking.{struck_good, struck_held}

-- a flag's byte is 1 just if it is set
one_byte : (b : Bool) → eqb (byte_of b) 1 ≡ b
one_byte true = refl
one_byte false = refl

-- blame is done just where a conflict is left
abbrev blamed_if : Bool → Outcome
blamed_if c = cond c (Ok tt) (Err NothingToShow)

done_leaves : (c : Bool) → blamed_if c ≡ Ok tt → c ≡ true
done_leaves true e = refl
done_leaves false e = refused_not_done e

refused_ends : (c : Bool) {why : Refusal} → blamed_if c ≡ Err why → c ≡ false
refused_ends true e = refused_not_done (sym e)
refused_ends false e = refl

module _ (table : List ℤ) (b : Board) (furnace : ℕ) (places : List ℕ) (m : ℕ) (good : good_board table b ≡ true) where
  -- what is left in place of the premises
  abbrev held : List Bool
  held = struck_off (held_by b furnace) (chosen places m)

  -- a set that has no candidate of a conflict's core leaves it
  pub core_missed : leaves_conflict table b furnace (chosen places m) ≡ true → (a : ℕ) → bit_and (core_of table b furnace places m) a ≡ 0
      → ends (2 * b.symbols) (rows_on table b) (held_by b furnace) places a ≡ false
  unfolding core_of
  core_missed c a apart =
      let g = (good_is table b good).sound in
      leaves_it b.symbols (rows_on table b) (held_by b furnace) places m a (omega (arith, g.symbols))
      (omega (arith, g.rows, length_rows b.rows table)) c (and_apart _ a apart)

  module _ (named : is_furnace furnace ≡ true) (low : all (λ p. ltb p (2 * b.symbols)) places ≡ true) where
    -- whether the board is in conflict
    same : conflict (derived_on table (struck_on b furnace places m) furnace) ≡ leaves_conflict table b furnace (chosen places m)
    unfolding struck_on with_held
    same = ap (λ (h : List Bool). conflict (derived (2 * b.symbols) (rows_on table b) h)) (struck_held table b furnace places m named)

    module _ (marks : List ℕ) (long : length marks ≡ 400) where
      room : leb (2 * (struck_on b furnace places m).symbols) (length marks) ≡ true
      unfolding struck_on with_held
      room = le-leb (2 * b.symbols) (length marks) (omega (arith, (good_is table b good).sound.symbols, long))

      -- blame is refused just where no conflict is left
      pub blamed_left : blame_outcome table (struck_on b furnace places m) furnace marks
          ≡ blamed_if (leaves_conflict table b furnace (chosen places m))
      unfolding blame_outcome blame_faults
      blamed_left =
          rw (struck_good table b furnace places m low, good, named, room, same) (go (leaves_conflict table b furnace (chosen places m)))
        where
          go : (c : Bool) → cond (not c) (Err NothingToShow) (Ok tt) ≡ blamed_if c
          go true = refl
          go false = refl

      abbrev flags : List Bool
      flags = blame b.symbols (rows_on table b) held

      written : leaves_conflict table b furnace (chosen places m) ≡ true
          → blame_marks table (struck_on b furnace places m) furnace marks ≡ map byte_of flags ++ drop (length (map byte_of flags)) marks
      unfolding blame_marks struck_on with_held
      written c =
          ap (λ (o : Outcome). over o (map byte_of (blame b.symbols (rows_on table b) (held_by (struck_on b furnace places m) furnace))) marks)
          (blamed_left ∙ ap blamed_if c)
          ∙ ap (λ (h : List Bool). over (Ok tt) (map byte_of (blame b.symbols (rows_on table b) h)) marks) (struck_held table b furnace places m named)

      -- and the candidates that it marks are the core
      pub core_is : leaves_conflict table b furnace (chosen places m) ≡ true
          → marked_set (blame_marks table (struck_on b furnace places m) furnace marks) places ≡ core_of table b furnace places m
      unfolding core_of
      core_is c =
          ap (λ (ms : List ℕ). marked_set ms places) (written c)
          ∙ passing_same (λ p. eqb (get_or (map byte_of flags ++ drop (length (map byte_of flags)) marks) p 0) 1) (has flags) places
          (λ p i. ap (λ (x : ℕ). eqb x 1)
          (mark_at_lem flags (drop (length (map byte_of flags)) marks) p
          (omega (arith, length_blame b.symbols (rows_on table b) held, ltb-true p (2 * b.symbols) (all_at (λ q. ltb q (2 * b.symbols)) low i))))
          ∙ one_byte (has flags p))

      -- so what blame answers on the board with the set struck off tells the effect
      module _ {struck : Board} (is : struck ≡ struck_on b furnace places m) {o : Outcome}
          (answered : o ≡ blame_outcome table struck furnace marks) where
        told : o ≡ blamed_if (leaves_conflict table b furnace (chosen places m))
        told = answered ∙ ap (λ (c : Board). blame_outcome table c furnace marks) is ∙ blamed_left

        pub leaves_told : o ≡ Ok tt → {now : List ℕ} → now ≡ blame_marks table struck furnace marks → {core : ℕ} → core ≡ marked_set now places
            → Some core ≡ effect_of table b furnace places m
        unfolding effect_of
        leaves_told e {now} w {core} k =
            let c = done_leaves (leaves_conflict table b furnace (chosen places m)) (sym told ∙ e) in
            let over-struck = w ∙ ap (λ (c : Board). blame_marks table c furnace marks) is in
            rw (c, k ∙ ap (λ (ms : List ℕ). marked_set ms places) over-struck ∙ core_is c)

        pub ends_told : {why : Refusal} → o ≡ Err why → None ≡ effect_of table b furnace places m
        unfolding effect_of
        ends_told e = rw (refused_ends (leaves_conflict table b furnace (chosen places m)) (sym told ∙ e))

-- ---- what an effect tells

module _ (table : List ℤ) (b : Board) (furnace : ℕ) (places : List ℕ) (m : ℕ) where
  pub ends_by : ends (2 * b.symbols) (rows_on table b) (held_by b furnace) places m ≡ not (leaves_conflict table b furnace (chosen places m))
  unfolding ends
  ends_by = refl

  pub effect_ends : None ≡ effect_of table b furnace places m → leaves_conflict table b furnace (chosen places m) ≡ false
  unfolding effect_of
  effect_ends e = go (leaves_conflict table b furnace (chosen places m)) e
    where
      go : (c : Bool) → None ≡ cond c (Some (core_of table b furnace places m)) None → c ≡ false
      go true e = cc
      go false e = refl

  pub effect_leaves : {core : ℕ} → Some core ≡ effect_of table b furnace places m
      → (leaves_conflict table b furnace (chosen places m) ≡ true) × (core ≡ core_of table b furnace places m)
  unfolding effect_of
  effect_leaves {core} e = go (leaves_conflict table b furnace (chosen places m)) e
    where
      go : (c : Bool) → Some core ≡ cond c (Some (core_of table b furnace places m)) None → (c ≡ true) × (core ≡ core_of table b furnace places m)
      go true e = let same : core ≡ core_of table b furnace places m = cc in (refl, same)
      go false e = cc

  -- a core is a set of the candidates
  pub core_few : length places ≤ most_candidates → core_of table b furnace places m < 4096
  unfolding core_of
  core_few l =
      let most : 2 ^ length places ≤ 4096 = pow_mono l in
      omega (arith, passing_below (has (blame b.symbols (rows_on table b) (struck_off (held_by b furnace) (chosen places m)))) places)
