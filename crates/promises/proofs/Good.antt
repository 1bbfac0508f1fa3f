-- Demand 1, refusal 1: after a good open and any calls but an open, the board is good for the whole table.
use Rattle.meaning.proofs.Kit.{◌≡◌, ◌∙◌, sym, ap, refl, ⊎_elim, true, ◌&&◌, List, [], ◌∷◌, ◌++◌, In, here, there, ◌≤◌, ℕ, ◌<◌, ◌-◌, ◌+◌, suc, ◌*◌}
use Rattle.meaning.proofs.Kit.{zero, arith, leb, ℤ, length, get_or, drop, length-append, length-map, list_get_or_append, drop-drop, drop_at}
use Rattle.meaning.proofs.Kit.{get_or-append-add}
use Rattle.meaning.specs.Tests.{all, from}
use Rattle.meaning.specs.Formulae.{Formula, Rule, rule_of}
use Rattle.meaning.specs.SecondWay.{rules_of}
use Rattle.meaning.proofs.Tests.{both_true, clash, all_of, from_in, in_at}
use Rattle.meaning.proofs.Tables.{le_or_lt}
use Rattle.literals.specs.Row.{width, rows_lent, numbers_at, rule_at, rule_before, row_sound, rule_sound, rows_sound, encode, Ruled, ruled_in, of_rules}
use Rattle.literals.specs.Row.{numbered, Sound}
use Rattle.literals.proofs.Encoding.{encode_sound}
use Rattle.literals.proofs.RuleNumbers.{rule_sound_lem, rule_facts}
use Rattle.literals.proofs.RuledRows.{length_ruled, ruled_at_lem, of_rules_range, numbers_climb}
use Rattle.implicates.specs.Appending.{encode_all, appended}
use Rattle.implicates.proofs.Appending.{length_appended}
use Rattle.board.specs.Faults.{premises_fit, good_board}
use Rattle.board.specs.Changes.{open_faults, opened}
use Rattle.board.specs.Rules.{with_rules}
use Rattle.board.proofs.Goodness.{by_rows_lem, empty_good, flag_good}
use Rattle.stack.specs.Steps.{opened_with}
use Rattle.promises.specs.Calls.{Call, opens, World, front, after, run, not_open}
use Rattle.promises.specs.Demands.{StaysGood}
use Rattle.promises.proofs.Tested.{ruled_for, Added}
use Rattle.promises.proofs.Moves.{Moves, opening, unmoved, one_flag, more_rules, moves}
use Rattle.promises.proofs.Lent.{numbers_front, numbers_lent}
use Rattle.promises.proofs.Stored.{its_places, after_it, kept, after_them, whole, kept_long, rows_appended, new_room, new_row}

-- ---- the literals of rows appended to a table of sound rows

module _ (S : ℕ) where
  -- rows as they are written, one after the other
  written_sound : (rows : List Ruled) (rest : List ℤ) → ((x : Ruled) → In x rows → row_sound S (encode x.row) ≡ true)
      → (i : ℕ) → i < length rows → row_sound S (numbers_at (encode_all rows ++ rest) i) ≡ true
  unfolding numbers_at
  written_sound [] rest fine i h = absurd (omega arith)
  written_sound (x ∷ rows) rest fine zero h = rw (its_places x rows rest) (fine x (here refl))
  written_sound (x ∷ rows) rest fine (suc i) h =
      let e : width * suc i ≡ width + width * i = omega arith in
      rw (e, ← drop-drop (width * i) width ((numbered x ++ encode_all rows) ++ rest), after_it x rows rest)
      (written_sound rows rest (λ r m. fine r (there m)) i (omega arith))

  module _ (table rest : List ℤ) (used : ℕ) (rows : List Ruled) (room : width * (used + length rows) ≤ length table)
      (fine : (x : Ruled) → In x rows → row_sound S (encode x.row) ≡ true) (s : Sound S used table) where
    abbrev front_rows : List ℤ
    front_rows = kept table rest used rows room

    abbrev new_rows : List ℤ
    new_rows = encode_all rows ++ after_them table rest used rows room

    old_sound : (r : ℕ) → r < used → row_sound S (numbers_at (front_rows ++ new_rows) r) ≡ true
    old_sound r h =
        let long = kept_long table rest used rows room in
        rw (numbers_front front_rows new_rows r (omega arith), numbers_lent (width * used) used table (omega arith) r h) (s.sound r h)

    new_sound : (r : ℕ) → used ≤ r → r < used + length rows → row_sound S (numbers_at (front_rows ++ new_rows) r) ≡ true
    unfolding numbers_at
    new_sound r low high =
        let e : width * r ≡ width * used + width * (r - used) = omega arith in
        let first = drop_at front_rows new_rows (width * used) (kept_long table rest used rows room) in
        rw (e, ← drop-drop (width * (r - used)) (width * used) (front_rows ++ new_rows), first)
        (written_sound rows (after_them table rest used rows room) fine (r - used) (omega arith))

    literals_sound : (r : ℕ) → r < used + length rows → row_sound S (numbers_at (appended table used rows ++ rest) r) ≡ true
    literals_sound r h = rw (whole table rest used rows room) (⊎_elim (λ l. new_sound r l h) (λ l. old_sound r l) (le_or_lt used r))

-- ---- and the numbers of their rules: those before are at most the count of rules, and the new ones go on above it

module _ (rules : ℕ) (new : List Rule) (used : ℕ) (table after : List ℤ) (old : (r : ℕ) → r < used → rule_sound rules table r ≡ true)
    (is : ruled_in (used + length (of_rules (suc rules) new)) after ≡ ruled_in used table ++ of_rules (suc rules) new) where
  abbrev added : List Ruled
  added = of_rules (suc rules) new

  abbrev nothing : Ruled
  nothing = record { rule = 0; row = [] }

  -- the number at r, of those before or of the new ones
  number_is : (r : ℕ) → r < used + length added → rule_at after r ≡ (get_or (ruled_in used table ++ added) r nothing).rule
  number_is r h =
      ap (λ (x : Ruled). x.rule) (sym (ruled_at_lem (used + length added) after nothing r h) ∙ ap (λ (xs : List Ruled). get_or xs r nothing) is)

  old_number : (r : ℕ) → r < used → rule_at after r ≡ rule_at table r
  old_number r h =
      let long = length_ruled used table in
      rw (number_is r (omega arith), list_get_or_append (ruled_in used table) added nothing r (omega arith), ruled_at_lem used table nothing r h)

  new_number : (r : ℕ) → used ≤ r → r < used + length added → rule_at after r ≡ (get_or added (r - used) nothing).rule
  new_number r low high =
      let e : r ≡ length (ruled_in used table) + (r - used) = omega (arith, length_ruled used table) in
      number_is r high
      ∙ ap (λ (x : Ruled). x.rule) (ap (λ (k : ℕ). get_or (ruled_in used table ++ added) k nothing) e
      ∙ get_or-append-add (ruled_in used table) added (r - used) nothing)

  new_range : (r : ℕ) → used ≤ r → r < used + length added → (suc rules ≤ rule_at after r) × (rule_at after r ≤ rules + length new)
  new_range r low high =
      let f = of_rules_range (suc rules) new (in_at added (r - used) nothing (omega arith)) in
      (omega (arith, new_number r low high, f.0), omega (arith, new_number r low high, f.1))

  old_before : (r : ℕ) → r < used → rule_before after r ≡ rule_before table r
  unfolding rule_before
  old_before zero h = refl
  old_before (suc r) h = old_number r (omega arith)

  new_before : (r : ℕ) → used ≤ r → r < used + length added → rule_before after r ≤ rule_at after r
  unfolding rule_before
  new_before zero low high = omega (arith, (new_range zero low high).0)
  new_before (suc r) low high =
      ⊎_elim
      (λ l. rw (new_number r l (omega arith), new_number (suc r) low high)
      (numbers_climb (suc rules) new nothing (r - used) (suc r - used) (omega arith) (omega arith)))
      (λ l. omega (arith, old_number r l, (rule_facts rules table r (old r l)).1, (new_range (suc r) low high).0))
      (le_or_lt used r)

  numbers_sound : (r : ℕ) → r < used + length added → rule_sound (rules + length new) after r ≡ true
  numbers_sound r h =
      ⊎_elim
      (λ l. (let range = new_range r l h in
      rule_sound_lem (rules + length new) after r (omega (arith, range.0)) range.1 (new_before r l h)))
      (λ l. (let facts = rule_facts rules table r (old r l) in
      let same = old_number r l in
      rule_sound_lem (rules + length new) after r (omega (arith, same, facts.0)) (omega (arith, same, facts.1))
      (omega (arith, same, old_before r l, facts.2))))
      (le_or_lt used r)

-- ---- a call

-- the board is good for the whole table
abbrev Whole : World → Type 0
Whole w = good_board w.table w.board ≡ true

opened_good : (w : World) (S : ℕ) → leb 1 S && leb S 200 ≡ true → Whole (after w (opens S))
unfolding after opened_with opened open_faults
opened_good w S e = rw e (empty_good w.table S e)

module _ (w : World) (g : Whole w) where
  -- the rows of accepted rules are sound, and lie in the part that the call was lent; their numbers go on from those before
  added_good : {next : World} {lent : ℕ} {fs : List Formula} {count : ℕ} → Added w next lent fs count → Whole next
  unfolding premises_fit rows_sound
  added_good {lent = lent} {fs = fs} a =
      let b = w.board in
      let S = b.symbols in
      let rows = ruled_for w fs in
      let part = front w lent in
      let rest = drop lent w.table in
      let room = new_room a in
      let rules = b.rules + length fs in
      let table = appended part b.rows rows ++ rest in
      let fine : (x : Ruled) → In x rows → row_sound S (encode x.row) ≡ true =
      λ x m. let sound = new_row a x m in encode_sound S x.row sound.some sound.rising sound.below in
      let same = rows_appended part rest b.rows rows room (λ x m. (new_row a x m).most) in
      let counted : length (rules_of S fs) ≡ length fs = length-map fs (rule_of S) in
      let each : (r : ℕ) → r < b.rows + length rows → row_sound S (numbers_at table r) && rule_sound rules table r ≡ true =
      λ r h. rw (literals_sound S part rest b.rows rows room fine a.good.sound r h)
      (rw counted at (numbers_sound b.rules (rules_of S fs) b.rows part table a.good.numbers same r h)) in
      let fits : b.rows + length rows ≤ rows_lent table = omega
      (arith, a.fits, length-append (appended part b.rows rows) rest, length_appended part b.rows rows room) in
      let sound : rows_sound S rules (b.rows + length rows) table ≡ true =
      all_of (λ r. row_sound S (numbers_at table r) && rule_sound rules table r) (from 0 (b.rows + length rows))
      (λ r m. each r (omega (arith, (from_in 0 (b.rows + length rows) r m).1))) in
      rw (a.board, a.table)
      (by_rows_lem table (with_rules b (length rows) (length fs)) a.good.some a.good.sound.symbols a.counted fits ∙ rw sound a.good.fit)

  step : {c : Call} → Moves w c → not_open c ≡ true → Whole (after w c)
  step (opening S) n = clash n refl
  step (unmoved same rules) n = rw same g
  -- a premise more or less is of a literal in range
  step (one_flag d x) n = let f = x.done w d in rw (f.next_is, flag_good w.board _ _ _ f.low w.table) g
  step (more_rules d x) n = added_good (x.done w d)

-- ---- any calls but an open

steps : (w : World) (calls : List Call) → Whole w → all not_open calls ≡ true → Whole (run w calls)
steps w [] g n = g
steps w (c ∷ calls) g n = let both = both_true (not_open c) (all not_open calls) n in steps (after w c) calls (step w g (moves w c) both.0) both.1

pub stays_good : StaysGood
stays_good w₀ S calls e n = steps (after w₀ (opens S)) calls (opened_good w₀ S e) n
