-- Demand 2, the rows stored for rules: after a good call that adds them the rows in use are those before it, and then the rules'; nothing else
-- changes.
use Rattle.meaning.proofs.Kit.{◌≡◌, ◌∙◌, sym, ap, refl, subst, ap₂, List, [], ◌∷◌, ◌++◌, map, In, here, there, append_assoc, in_map, map-append}
use Rattle.meaning.proofs.Kit.{◌≤◌, ℕ, ◌+◌, suc, ◌*◌, zero, zero-add, arith, ℤ, pos, length, get_or, drop, take, length-append, take-append-drop}
use Rattle.meaning.proofs.Kit.{length-take-le, take_at, get_or-drop, drop-drop, drop_at}
use native.Mathlib.Nat.{suc-add}
use lib.Seq.{get_or_at, take-append-le, drop-append-le}
use Rattle.meaning.specs.Formulae.{Formula, rule_of}
use Rattle.meaning.specs.Clauses.{rows_of}
use Rattle.meaning.specs.SecondWay.{rules_of}
use Rattle.meaning.proofs.Tables.{tabulate_same}
use Rattle.meaning.proofs.SoundRows.{SoundRow}
use Rattle.literals.specs.Row.{width, most_literals, numbers_at, rule_number, rule_at, decode, encode, Ruled, ruled_in, of_rule, numbered}
use Rattle.literals.proofs.Encoding.{length_encode, length_numbered, decode_encode}
use Rattle.literals.proofs.RuledRows.{rows_of_table, rows_of_rules, of_one_rule}
use Rattle.implicates.specs.Appending.{encode_all, appended}
use Rattle.implicates.proofs.Appending.{length_encode_all}
use Rattle.board.specs.Furnaces.{held_by}
use Rattle.promises.specs.Calls.{World, front}
use Rattle.promises.specs.Demands.{rows_of_world, Appends, RuleAppends, ReadAppends, EnterAppends, TextAppends}
use Rattle.promises.proofs.Tested.{ruled_for, Added, sound_rows, rule_added, entry_added, rule_text_added, text_added}
use Rattle.promises.proofs.Lent.{ruled_front, ruled_lent}

-- ---- the rows of a table, from the front

ruled_cons : (n : ℕ) (t : List ℤ) → ruled_in (suc n) t ≡ record { rule = rule_at t 0; row = decode (take most_literals t) } ∷ ruled_in n (drop width t)
unfolding ruled_in numbers_at rule_at
ruled_cons n t =
    ap (λ (rows : List Ruled). record { rule = rule_at t 0; row = decode (take most_literals t) } ∷ rows)
    (tabulate_same (record { rule = 0; row = [] }) n n _ _ refl
    (λ r b. (let next : width * suc r ≡ width + width * r = omega arith in
    let ninth : width * suc r + most_literals ≡ width + (width * r + most_literals) = omega arith in
    ap₂ (λ (l : ℤ) (row : List ℤ). record { rule = rule_number l; row = decode (take most_literals row) })
    (ap (λ (k : ℕ). get_or t k (pos 0)) ninth ∙ sym (get_or-drop width t (width * r + most_literals) (pos 0)))
    (ap (λ (k : ℕ). drop k t) next ∙ sym (drop-drop (width * r) width t)))))

-- the first n rows, and those after them
ruled_add : (n m : ℕ) (t : List ℤ) → ruled_in (n + m) t ≡ ruled_in n t ++ ruled_in m (drop (width * n) t)
ruled_add zero m t = unfold ruled_in in rw zero-add
ruled_add (suc n) m t =
    let e : width + width * n ≡ width * suc n = omega arith in
    let rest : drop (width * n) (drop width t) ≡ drop (width * suc n) t = drop-drop (width * n) width t ∙ ap (λ (k : ℕ). drop k t) e in
    rw (suc-add, ruled_cons (n + m) t, ruled_cons n t, ruled_add n m (drop width t), rest)

-- of rows as they are written: the places of the first, its number, and what stands after it
module _ (x : Ruled) (rows : List Ruled) (rest : List ℤ) where
  first_whole : (numbered x ++ encode_all rows) ++ rest ≡ numbered x ++ (encode_all rows ++ rest)
  first_whole = append_assoc (numbered x) (encode_all rows) rest

  first_split : (numbered x ++ encode_all rows) ++ rest ≡ encode x.row ++ (pos x.rule ∷ (encode_all rows ++ rest))
  first_split = first_whole ∙ append_assoc (encode x.row) (pos x.rule ∷ []) (encode_all rows ++ rest)

  pub its_places : take most_literals ((numbered x ++ encode_all rows) ++ rest) ≡ encode x.row
  its_places = rw (first_split, take_at (encode x.row) (pos x.rule ∷ (encode_all rows ++ rest)) most_literals (length_encode x.row))

  its_number : rule_at ((numbered x ++ encode_all rows) ++ rest) 0 ≡ x.rule
  unfolding rule_at
  its_number = rw (first_split, get_or_at (encode x.row) (pos x.rule) (encode_all rows ++ rest) (pos 0) most_literals (length_encode x.row))

  pub after_it : drop width ((numbered x ++ encode_all rows) ++ rest) ≡ encode_all rows ++ rest
  after_it = ap (drop width) first_whole ∙ drop_at (numbered x) (encode_all rows ++ rest) width (length_numbered x)

-- rows as they are written are read back, and so are the numbers of their rules
ruled_written : (rows : List Ruled) (rest : List ℤ) → ((x : Ruled) → In x rows → length x.row ≤ most_literals)
    → ruled_in (length rows) (encode_all rows ++ rest) ≡ rows
ruled_written [] rest few = unfold ruled_in in refl
ruled_written (x ∷ rows) rest few =
    rw (ruled_cons (length rows), its_number x rows rest, its_places x rows rest, after_it x rows rest)
    (rw (decode_encode x.row (few x (here refl)), ruled_written rows rest (λ r m. few r (there m))))

-- rows appended to a table stand after those that it had
module _ (table rest : List ℤ) (used : ℕ) (rows : List Ruled) (room : width * (used + length rows) ≤ length table) where
  abbrev pub kept : List ℤ
  kept = take (width * used) table

  abbrev pub after_them : List ℤ
  after_them = drop (width * used + length (encode_all rows)) table ++ rest

  pub whole : appended table used rows ++ rest ≡ kept ++ (encode_all rows ++ after_them)
  unfolding appended
  whole = simp append_assoc

  pub kept_long : length kept ≡ width * used
  kept_long = length-take-le (width * used) table (omega arith)

  before : ruled_in used (kept ++ (encode_all rows ++ after_them)) ≡ ruled_in used table
  before =
      let long = kept_long in
      rw (ruled_front kept (encode_all rows ++ after_them) used (omega arith), ruled_lent (width * used) used table (omega arith))

  pub rows_appended : ((x : Ruled) → In x rows → length x.row ≤ most_literals)
      → ruled_in (used + length rows) (appended table used rows ++ rest) ≡ ruled_in used table ++ rows
  rows_appended few =
      rw (whole, ruled_add used (length rows) (kept ++ (encode_all rows ++ after_them)), before)
      (rw (drop_at kept (encode_all rows ++ after_them) (width * used) kept_long, ruled_written rows after_them few))

  -- and the places before and beyond them stay as they were
  front_kept : take (width * used) (appended table used rows ++ rest) ≡ take (width * used) (table ++ rest)
  front_kept =
      rw (whole, take_at kept (encode_all rows ++ after_them) (width * used) kept_long, take-append-le (width * used) table rest (omega arith))

  rest_kept : drop (width * (used + length rows)) (appended table used rows ++ rest) ≡ drop (width * (used + length rows)) (table ++ rest)
  rest_kept =
      let n : width * (used + length rows) ≡ width * used + length (encode_all rows) = omega (arith, length_encode_all rows) in
      let long : length (kept ++ encode_all rows) ≡ width * (used + length rows) = omega (arith, n, length-append kept (encode_all rows), kept_long) in
      ap (drop (width * (used + length rows))) (whole ∙ sym (append_assoc kept (encode_all rows) after_them))
      ∙ drop_at (kept ++ encode_all rows) after_them (width * (used + length rows)) long
      ∙ ap (λ (k : ℕ). drop k table ++ rest) (sym n)
      ∙ sym (drop-append-le (width * (used + length rows)) table rest (omega (arith, n)))

-- ---- a good call that adds rules

module _ {w next : World} {lent : ℕ} {fs : List Formula} {count : ℕ} (a : Added w next lent fs count) where
  abbrev new : List Ruled
  new = ruled_for w fs

  pub new_room : width * (w.board.rows + length (ruled_for w fs)) ≤ length (front w lent)
  new_room = omega (arith, a.fits)

  -- a new row is one of the rules'
  pub new_row : (x : Ruled) → In x (ruled_for w fs) → SoundRow w.board.symbols most_literals x.row
  new_row x m =
      let rows = rows_of_rules (suc w.board.rules) (rules_of w.board.symbols fs) in
      sound_rows w.board.symbols fs a.accepted x.row (subst (In x.row) rows (in_map (λ (r : Ruled). r.row) m))

  pub appends : Appends w next (length fs) (ruled_for w fs) count
  unfolding held_by
  appends =
      record {
        rows =
            rw (a.board, a.table)
            (rows_appended (front w lent) (drop lent w.table) w.board.rows new new_room (λ x m. (new_row x m).most)
            ∙ ap (λ (rows : List Ruled). rows ++ new) (ruled_lent lent w.board.rows w.table a.good.sound.room));
        told = a.told;
        used = rw a.board;
        counted = rw a.board;
        symbols = rw a.board;
        premises = λ furnace. rw a.board;
        stacks = a.stacks;
        before = rw (a.table, front_kept (front w lent) (drop lent w.table) w.board.rows new new_room, take-append-drop);
        beyond = rw (a.table, rest_kept (front w lent) (drop lent w.table) w.board.rows new new_room, take-append-drop);
      }

-- the rows alone
pub rows_grown : {w next : World} {rules : ℕ} {new : List Ruled} {added : ℕ} → Appends w next rules new added
    → rows_of_world next ≡ rows_of_world w ++ map (λ r. r.row) new
rows_grown {w = w} {next = next} {new = new} a =
    rw (← rows_of_table next.board.rows next.table, a.rows, map-append, rows_of_table w.board.rows w.table)

-- one rule
appends_one : {w next : World} {lent : ℕ} {f : Formula} {count : ℕ} → Added w next lent (f ∷ []) count
    → Appends w next 1 (of_rule (suc w.board.rules) (rows_of (rule_of w.board.symbols f))) count
appends_one {w = w} {next = next} {f = f} {count = count} a =
    subst (λ (new : List Ruled). Appends w next 1 new count) (of_one_rule (suc w.board.rules) (rule_of w.board.symbols f)) (appends a)

pub rule_appends : RuleAppends
rule_appends w lent bytes e = appends_one (rule_added w lent bytes e)

pub text_appends : TextAppends
text_appends w lent text e = appends_one (rule_text_added w lent text e)

pub read_appends : ReadAppends
read_appends w lent text e = appends (text_added w lent text e)

pub enter_appends : EnterAppends
enter_appends w lent entry e = appends (entry_added w lent entry e)
