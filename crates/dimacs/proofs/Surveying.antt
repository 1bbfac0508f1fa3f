-- The survey of a text, a clause at a time.
use Rattle.meaning.proofs.Kit.{◌≡◌, ◌∙◌, sym, ap, refl, ap₂, cond, List, [], ◌∷◌, ◌++◌, map, ◌≤◌, ℕ, ◌+◌, suc, add-zero, zero-add, arith, eqb, ℤ}
use Rattle.meaning.proofs.Kit.{length, length-append, ne_eqb, eq-eqb}
use Rattle.meaning.specs.Clauses.{all_rows}
use Rattle.meaning.specs.SecondWay.{rules_of}
use Rattle.literals.specs.Row.{most_rules}
use Rattle.literals.specs.declared.refusal.Refusal.{Refusal}
use Rattle.board.specs.Faults.{first_fault, if_done}
use Rattle.board.specs.Faults.{Outcome}
use Rattle.std.specs.Prelude.{Ok, Err}
use Rattle.board.proofs.Answered.{first_append}
use Rattle.dimacs.specs.Form.{Parsed, good, broken, clause_then, counted}
use Rattle.dimacs.specs.Clauses.{one_of, rows_of_clause, clause_faults, clauses_faults, passed}
use Rattle.dimacs.specs.Reading.{surveyed, text_faults}
use Rattle.dimacs.specs.Gathering.{gathered_rows, found_fault}
use Rattle.dimacs.specs.Surveying.{broken_form, with_clause}
use Rattle.dimacs.specs.declared.survey.Survey.{Survey}
use Rattle.dimacs.proofs.ClauseRules.{clause_rows}
use Rattle.dimacs.proofs.FoundFaults.{clause_fault}
use Rattle.dimacs.proofs.Judging.{faultless}
use Rattle.dimacs.proofs.Tested.{by_test}

-- before any clause
abbrev pub nothing : Survey
nothing = record { outcome = Ok tt; clauses = 0; added = 0 }

module _ (S used rules lent : ℕ) where
  -- with clauses more, one after the other
  unfoldable pub with_clauses : Survey → List (List ℤ) → Survey
  with_clauses found [] = found
  with_clauses found (c ∷ cs) = with_clauses (with_clause S used rules lent found c) cs

  -- after the first at fault no other counts
  abbrev stopped : (why : Refusal) (k : ℕ) → Survey
  stopped why k = record { outcome = Err why; clauses = k; added = 0 }

  stays_stopped : (why : Refusal) (k : ℕ) (cs : List (List ℤ)) → with_clauses (stopped why k) cs ≡ stopped why k
  unfolding with_clauses
  stays_stopped why k [] = refl
  stays_stopped why k (c ∷ cs) = stays_stopped why k cs

  -- the survey of clauses, before which u rows are in use and k clauses with `added` rows are passed
  abbrev comes_to : (u k added : ℕ) → List (List ℤ) → Survey
  comes_to u k added cs =
      let outcome = first_fault (clauses_faults S u (rules + k) lent cs) in
      record {
        outcome = outcome;
        clauses = k + passed S u (rules + k) lent cs;
        added = if_done outcome (added + length (all_rows (rules_of S (map one_of cs)))) (λ _. 0);
      }

  module _ (u k added : ℕ) (c : List ℤ) (cs : List (List ℤ)) where
    -- one rule more
    next : suc (rules + k) ≡ rules + (k + 1)
    next = omega arith

    first_of : first_fault (clauses_faults S u (rules + k) lent (c ∷ cs))
        ≡ if_done (first_fault (clause_faults S u (rules + k) lent c))
        (first_fault (clauses_faults S (u + length (rows_of_clause S c)) (rules + (k + 1)) lent cs)) (λ why. Err why)
    unfolding clauses_faults
    first_of =
        rw (← next) (first_append (clause_faults S u (rules + k) lent c) (clauses_faults S (u + length (rows_of_clause S c)) (suc (rules + k)) lent cs))

    comes_refused : {why : Refusal} → first_fault (clause_faults S u (rules + k) lent c) ≡ Err why → comes_to u k added (c ∷ cs) ≡ stopped why k
    unfolding passed
    comes_refused {why} e =
        let f : first_fault (clauses_faults S u (rules + k) lent (c ∷ cs)) ≡ Err why = first_of ∙ rw e in
        rw (f, e, add-zero k)

    comes_more : first_fault (clause_faults S u (rules + k) lent c) ≡ Ok tt
        → let n = length (rows_of_clause S c) in comes_to u k added (c ∷ cs) ≡ comes_to (u + n) (k + 1) (added + n) cs
    unfolding passed
    comes_more e =
        let n = length (rows_of_clause S c) in
        let rows = all_rows (rules_of S (map one_of cs)) in
        let rest = first_fault (clauses_faults S (u + n) (rules + (k + 1)) lent cs) in
        let f : first_fault (clauses_faults S u (rules + k) lent (c ∷ cs)) ≡ rest = first_of ∙ rw e in
        let more = passed S (u + n) (rules + (k + 1)) lent cs in
        let clauses : k + suc more ≡ k + 1 + more = omega arith in
        let sum : added + length (rows_of_clause S c ++ rows) ≡ added + n + length rows = omega (arith, length-append (rows_of_clause S c) rows) in
        rw (f, e, next) (ap₂ (λ (a b : ℕ). record { outcome = rest; clauses = a; added = if_done rest b (λ _. 0) }) clauses sum)

  module _ (one : 1 ≤ S) where
    -- what is found clause by clause is what is meant
    found_by : (k added : ℕ) (cs : List (List ℤ))
        → with_clauses (record { outcome = Ok tt; clauses = k; added = added }) cs ≡ comes_to (used + added) k added cs
    unfolding with_clauses clauses_faults passed
    found_by k added [] = rw (add-zero k, add-zero added)
    found_by k added (c ∷ cs) = go (found_fault S (used + added) (rules + k) lent c) refl (λ m a. found_by m a cs)
      where
        go : (o : Outcome) → found_fault S (used + added) (rules + k) lent c ≡ o
            → ((m a : ℕ) → with_clauses (record { outcome = Ok tt; clauses = m; added = a }) cs ≡ comes_to (used + a) m a cs)
            → with_clauses
            (if_done o (record { outcome = Ok tt; clauses = k + 1; added = added + length (gathered_rows c) })
            (λ why. stopped why k))
            cs
            ≡ comes_to (used + added) k added (c ∷ cs)
        go (Ok _) e ih =
            let n = length (gathered_rows c) in
            let s = faultless S (used + added) (rules + k) lent c e in
            let rows = ap length (clause_rows S c s.range s.some) in
            let there : used + added + length (rows_of_clause S c) ≡ used + (added + n) = omega (arith, rows) in
            ih (k + 1) (added + n)
            ∙ ap₂ (λ (u a : ℕ). comes_to u (k + 1) a cs) (sym there) (ap (λ (m : ℕ). added + m) (sym rows))
            ∙ sym (comes_more (used + added) k added c cs (clause_fault S (used + added) (rules + k) lent c one ∙ e))
        go (Err why) e ih =
            stays_stopped why k cs ∙ sym (comes_refused (used + added) k added c cs (clause_fault S (used + added) (rules + k) lent c one ∙ e))

    surveyed_good : (v : ℕ) (cs : List (List ℤ)) → surveyed S used rules lent (good v cs) ≡ with_clauses nothing cs
    unfolding surveyed text_faults
    surveyed_good v cs =
        let rows = length (all_rows (rules_of S (map one_of cs))) in
        sym (found_by 0 0 cs ∙ rw (add-zero used, add-zero rules, zero-add (passed S used rules lent cs), zero-add rows))

  surveyed_broken : surveyed S used rules lent broken ≡ broken_form
  unfolding surveyed text_faults passed
  surveyed_broken = refl

  -- ---- the clauses that are left, behind `count` of which this was found; the header counts n

  abbrev pub concluded : (n count : ℕ) → Survey → Parsed → Survey
  concluded n count found (good v cs) = cond (eqb (count + length cs) n) (with_clauses found cs) broken_form
  concluded n count found broken = broken_form

  concluded_start : 1 ≤ S → (n : ℕ) (p : Parsed) → surveyed S used rules lent (counted n p) ≡ concluded n 0 nothing p
  concluded_start one n (good v cs) =
      rw (zero-add (length cs)) (by_test (eqb (length cs) n) (λ t. rw t (surveyed_good one v cs)) (λ f. rw f surveyed_broken))
  concluded_start one n broken = surveyed_broken

  concluded_then : (n count : ℕ) (found : Survey) (c : List ℤ) (p : Parsed)
      → concluded n count found (clause_then c p) ≡ concluded n (count + 1) (with_clause S used rules lent found c) p
  unfolding with_clauses
  concluded_then n count found c (good v cs) = let e : count + suc (length cs) ≡ count + 1 + length cs = omega arith in rw e
  concluded_then n count found c broken = refl

  -- there is room for the rows that are found, and a number for each clause that is passed; and so there is with a clause more
  abbrev Fits : Survey → Type 0
  Fits found = (used + found.added ≤ lent) × (rules + found.clauses ≤ most_rules)

  fits_more : (found : Survey) (c : List ℤ) → Fits found → Fits (with_clause S used rules lent found c)
  fits_more found c h = go found.outcome (found_fault S (used + found.added) (rules + found.clauses) lent c) refl
    where
      more : Survey
      more = record { outcome = Ok tt; clauses = found.clauses + 1; added = found.added + length (gathered_rows c) }

      go : (o p : Outcome) → found_fault S (used + found.added) (rules + found.clauses) lent c ≡ p
          → Fits (if_done o (if_done p more (λ why. stopped why found.clauses)) (λ why. found))
      go (Ok _) (Ok _) e =
          let f = faultless S (used + found.added) (rules + found.clauses) lent c e in
          (omega (arith, f.room), omega (arith, h.1, f.number))
      go (Ok _) (Err why) e = (omega (arith, h.0), h.1)
      go (Err why) p e = h

-- ---- so far

-- the text `whole` comes to what the clauses that are left do, behind `count` of which this was found
pub record Sofar (S used rules lent n : ℕ) (whole left : Parsed) (count : ℕ) (found : Survey) : Type 0 where
  pub same : surveyed S used rules lent (counted n whole) ≡ concluded S used rules lent n count found left
  pub fits : Fits S used rules lent found

pub sofar_none : (S used rules lent n : ℕ) (whole : Parsed) → 1 ≤ S → used ≤ lent → rules ≤ most_rules
    → Sofar S used rules lent n whole whole 0 nothing
sofar_none S used rules lent n whole one h few =
    record { same = concluded_start S used rules lent one n whole; fits = (omega arith, omega (arith, few)) }

module _ {S used rules lent n : ℕ} {whole left : Parsed} {count : ℕ} {found : Survey} (s : Sofar S used rules lent n whole left count found) where
  abbrev Answer : Survey → Type 0
  Answer r = r ≡ surveyed S used rules lent (counted n whole)

  pub sofar_broken : left ≡ broken → Answer broken_form
  sofar_broken e = sym (s.same ∙ rw e)

  module _ {v : ℕ} (e : left ≡ good v []) where
    pub sofar_end : count ≡ n → Answer found
    unfolding with_clauses
    sofar_end c = sym (s.same ∙ rw (e, add-zero count, eq-eqb count n c))

    pub sofar_other : (count ≡ n → ⊥) → Answer broken_form
    sofar_other c = sym (s.same ∙ rw (e, add-zero count, ne_eqb count n c))

  pub sofar_more : (c : List ℤ) {rest : Parsed} {next : Survey} → left ≡ clause_then c rest → next ≡ with_clause S used rules lent found c
      → Sofar S used rules lent n whole rest (count + 1) next
  sofar_more c {rest} e is = record {
    same = s.same ∙ rw (e, is) (concluded_then S used rules lent n count found c rest);
    fits = rw is (fits_more S used rules lent found c s.fits);
  }
