-- The last pass over a text whose clauses are not at fault: each clause in turn, its row with its number as a rule, and what is left.
use Rattle.meaning.proofs.Kit.{◌≡◌, ◌∙◌, sym, ap, refl, ap₂, ◌≢◌, true, false, Bool, cond, List, [], ◌∷◌, ◌++◌, ◌≤◌, ℕ, ◌+◌, suc, ◌*◌, add-one, arith}
use Rattle.meaning.proofs.Kit.{ltb, ℤ, length, drop, take, le-ltb}
use Rattle.meaning.specs.Tests.{all}
use Rattle.meaning.specs.SecondWay.{rules_of}
use Rattle.meaning.proofs.Tests.{clash}
use Rattle.literals.specs.Row.{Ruled, most_literals, most_rules, of_rule, of_rules, width}
use Rattle.literals.proofs.RuledRows.{length_of_rule}
use Rattle.implicates.specs.Appending.{appended}
use Rattle.implicates.proofs.Appending.{appended_more, appended_none, length_appended}
use Rattle.board.specs.Faults.{first_fault}
use Rattle.std.specs.Prelude.{Ok}
use Rattle.board.proofs.Answered.{refused_not_done}
use Rattle.dimacs.specs.Words.{words}
use Rattle.dimacs.specs.Form.{Parsed, good, broken, is_good, clauses_in, clauses_of, clause_then}
use Rattle.dimacs.specs.Clauses.{clauses_faults, rows_of_clause}
use Rattle.dimacs.specs.Reading.{formulae_in, text_faults}
use Rattle.dimacs.specs.declared.gathering.Kept.{Kept}
use Rattle.dimacs.specs.Gathering.{KeptOf, gathered_rows, gathered, keeps_form, next_clause, past_clause, rows_kept}
use Rattle.dimacs.proofs.FirstFaults.{both_done}
use Rattle.dimacs.proofs.ClauseRules.{clause_rows}
use Rattle.dimacs.proofs.FoundFaults.{clause_fault}
use Rattle.dimacs.proofs.Clauses.{first_clause, no_clause}
use Rattle.dimacs.proofs.Judging.{faultless}
use Rattle.dimacs.proofs.SmallPlaces.{places_small}

-- the rows of a text's clauses with their numbers, where `rules` come before them
abbrev pub numbered_rows : (S rules : ℕ) → Parsed → List Ruled
numbered_rows S rules p = of_rules (suc rules) (rules_of S (formulae_in p))

-- ---- a text without a fault keeps the form, and its clauses are without one

module _ (S used rules lent : ℕ) where
  pub text_done : (p : Parsed) → first_fault (text_faults S used rules lent p) ≡ Ok tt
      → (is_good p ≡ true) × (first_fault (clauses_faults S used rules lent (clauses_of p)) ≡ Ok tt)
  unfolding text_faults
  text_done (good v cs) e = (refl, e)
  text_done broken e = refused_not_done e

  done_text : (p : Parsed) → is_good p ≡ true → first_fault (clauses_faults S used rules lent (clauses_of p)) ≡ Ok tt
      → first_fault (text_faults S used rules lent p) ≡ Ok tt
  unfolding text_faults
  done_text p g e = rw g e

-- ---- one clause of the text: it keeps the form, there is a number for it, and room for its row if it has one, and what follows it is without a
-- fault

pub record Next (S lent v row rules : ℕ) (ws : List (List ℕ)) : Type 0 where
  pub keeps : keeps_form v ws ≡ true
  pub few : length (gathered [] (next_clause ws)) ≤ most_literals
  pub small : all (λ p. ltb p 400) (gathered [] (next_clause ws)) ≡ true
  pub room : row + length (gathered_rows (next_clause ws)) ≤ lent
  pub number : rules ≢ most_rules
  pub rows : numbered_rows S rules (clauses_in v [] ws)
      ≡ of_rule (suc rules) (gathered_rows (next_clause ws)) ++ numbered_rows S (suc rules) (clauses_in v [] (past_clause ws))
  pub rest : first_fault (text_faults S (row + length (gathered_rows (next_clause ws))) (suc rules) lent (clauses_in v [] (past_clause ws))) ≡ Ok tt

-- the first clause and what follows it, where both keep the form
first_good : (b : Bool) (c : List ℤ) (p : Parsed) → is_good (cond b (clause_then c p) broken) ≡ true
    → (b ≡ true) × (is_good p ≡ true) × (clauses_of (cond b (clause_then c p) broken) ≡ c ∷ clauses_of p)
first_good true c (good v cs) e = (refl, refl, refl)
first_good true c broken e = clash e refl
first_good false c p e = clash e refl

pub next : (S lent v row rules : ℕ) (ws : List (List ℕ)) → 1 ≤ S → S ≤ 200 → 1 ≤ length ws
    → first_fault (text_faults S row rules lent (clauses_in v [] ws)) ≡ Ok tt → Next S lent v row rules ws
next S lent v row rules ws one most some e =
    let c = next_clause ws in
    let p = clauses_in v [] (past_clause ws) in
    let first = first_clause v ws some in
    let d = text_done S row rules lent (clauses_in v [] ws) e in
    let g = first_good (keeps_form v ws) c p (ap is_good (sym first) ∙ d.0) in
    let split : clauses_of (clauses_in v [] ws) ≡ c ∷ clauses_of p = ap clauses_of first ∙ g.2 in
    let b = both_done S row rules lent c (clauses_of p) (rw split at d.1) in
    let f = faultless S row rules lent c (sym (clause_fault S row rules lent c one) ∙ b.0) in
    let its : rows_of_clause S c ≡ gathered_rows c = clause_rows S c f.range f.some in
    record {
      keeps = g.0;
      few = f.few;
      small = places_small S c most f.range;
      room = f.room;
      number = f.number;
      rows = rw split (ap (λ (rs : List (List ℕ)). of_rule (suc rules) rs ++ numbered_rows S (suc rules) p) its);
      rest = done_text S (row + length (gathered_rows c)) (suc rules) lent p g.1 (rw its at b.1);
    }

-- ---- what is kept of it

module _ {S lent v row rules : ℕ} {ws : List (List ℕ)} (n : Next S lent v row rules ws) {places : List ℕ} {k : Kept}
    (h : KeptOf S (next_clause ws) places k) where
  not_many : k.many ≡ false
  not_many = h.is_many ∙ le-ltb most_literals (length (gathered [] (next_clause ws))) n.few

  pub kept_count : k.count ≤ most_literals
  kept_count = omega (arith, h.is_count not_many, n.few)

  pub kept_small : all (λ p. ltb p 400) (take k.count places) ≡ true
  kept_small = rw (h.is_row not_many) n.small

  pub kept_rows : rows_kept k.always (take k.count places) ≡ gathered_rows (next_clause ws)
  kept_rows = rw (h.is_row not_many, h.is_always not_many)

-- ---- what is left from place i on, with `row` rows in use and `rules` counted, comes to the table that the whole comes to

pub record Left (S lent v : ℕ) (text : List ℕ) (whole : List ℤ) (long i row rules : ℕ) (table : List ℤ) : Type 0 where
  pub within : i ≤ length text
  pub used : row ≤ lent
  pub few : rules ≤ most_rules
  pub same_length : length table ≡ long
  pub done : first_fault (text_faults S row rules lent (clauses_in v [] (words (drop i text)))) ≡ Ok tt
  pub same : appended table row (numbered_rows S rules (clauses_in v [] (words (drop i text)))) ≡ whole

module _ {S lent v : ℕ} {text : List ℕ} where
  pub left_start : (at used rules : ℕ) (table : List ℤ) → at ≤ length text → used ≤ lent → rules ≤ most_rules
      → first_fault (text_faults S used rules lent (clauses_in v [] (words (drop at text)))) ≡ Ok tt
      → Left S lent v text (appended table used (numbered_rows S rules (clauses_in v [] (words (drop at text))))) (length table) at used rules table
  left_start at used rules table h k f e = record { within = h; used = k; few = f; same_length = refl; done = e; same = refl }

  module _ {whole : List ℤ} {long i row rules : ℕ} {table : List ℤ} (l : Left S lent v text whole long i row rules table) where
    -- nothing is left
    pub left_end : words (drop i text) ≡ [] → table ≡ whole
    left_end e =
        sym (appended_none table row)
        ∙ ap (λ (p : Parsed). appended table row (numbered_rows S rules p)) (sym (no_clause v (words (drop i text)) e))
        ∙ l.same

    -- the clause at i has a number
    pub left_number : {ws : List (List ℕ)} → Next S lent v row rules ws → rules + 1 ≤ most_rules
    left_number n = omega (arith, l.few, n.number)

    -- it is appended, and `end` is the place after it
    module _ {ws : List (List ℕ)} (is : words (drop i text) ≡ ws) (n : Next S lent v row rules ws) (room : width * lent ≤ long) where
      abbrev its : List (List ℕ)
      its = gathered_rows (next_clause ws)

      pub left_room : {rows : List (List ℕ)} → rows ≡ its → width * (row + length rows) ≤ length table
      left_room e = omega (arith, ap length e, n.room, l.same_length)

      pub left_next : {rows : List (List ℕ)} {after : List ℤ} {next end : ℕ} → rows ≡ its → after ≡ appended table row (of_rule (rules + 1) rows)
          → next ≡ row + length rows → end ≤ length text → words (drop end text) ≡ past_clause ws
          → Left S lent v text whole long end next (rules + 1) after
      left_next {rows} {after} {next} {end} e a r within rest =
          let own = of_rule (suc rules) its in
          let size : length own ≡ length its = length_of_rule (suc rules) its in
          let fit : width * (row + length own) ≤ length table = omega (arith, size, left_room refl) in
          let next_is : next ≡ row + length own = r ∙ ap (λ (rs : List (List ℕ)). row + length rs) e ∙ ap (λ (n : ℕ). row + n) (sym size) in
          let after_is : after ≡ appended table row own =
          a ∙ ap₂ (λ (n : ℕ) (rs : List (List ℕ)). appended table row (of_rule n rs)) (add-one rules) e in
          record {
            within = within;
            used = omega (arith, next_is, size, n.room);
            few = left_number n;
            same_length = ap length after_is ∙ length_appended table row own fit ∙ l.same_length;
            done = rw (next_is, size, add-one rules, rest) n.rest;
            same =
                rw (after_is, next_is, add-one rules, rest)
                (appended_more table row own (numbered_rows S (suc rules) (clauses_in v [] (past_clause ws))) fit
                ∙ ap (appended table row) (sym n.rows ∙ ap (λ (us : List (List ℕ)). numbered_rows S rules (clauses_in v [] us)) (sym is))
                ∙ l.same);
          }
