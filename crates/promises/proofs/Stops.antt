-- 02, Ticket 2: a text that is refused for a clause is told how many clauses come before it; where it is read, they are all.
use Rattle.meaning.proofs.Kit.{◌≡◌, ◌∙◌, sym, ap, refl, ⊎_elim, inl, inr, ◌⊎◌, ◌≢◌, true, false, Bool, cond, List, [], ◌∷◌, ◌++◌, map, ℕ, ◌+◌, suc}
use Rattle.meaning.proofs.Kit.{add-zero, arith, ℤ, length, take, length-append}
use Rattle.meaning.specs.Clauses.{all_rows}
use Rattle.meaning.specs.SecondWay.{rules_of}
use Rattle.meaning.proofs.Tests.{clash}
use Rattle.literals.specs.Row.{rows_lent}
use Rattle.literals.specs.Refusals.{number_of}
use Rattle.literals.specs.declared.refusal.Refusal.{Refusal}
use Rattle.board.specs.Faults.{Fault, first_fault, number_in, good_board}
use Rattle.std.specs.Prelude.{Ok, Err}
use Rattle.dimacs.specs.Form.{Parsed, good, broken, is_good, clauses_of, parse_text}
use Rattle.dimacs.specs.Clauses.{one_of, rows_of_clause, clause_faults, clauses_faults, passed}
use Rattle.dimacs.specs.Reading.{text_faults, read_faults, read_answer}
use Rattle.board.proofs.Answered.{first_append}
use Rattle.dimacs.proofs.FirstFaults.{clauses_passed}
use Rattle.dimacs.proofs.ClauseCount.{clauses_told, read_clauses, read_good}
use Rattle.promises.specs.Calls.{reads, World, front, faults, outcome}
use Rattle.promises.specs.Demands.{StopsAt, ReadStops, ReadCounts, ReadTellsNone}
use Rattle.promises.proofs.Refusals.{cases, done_or_refused}
use Rattle.promises.proofs.Tested.{text_done}

-- ---- of clauses one after the other

module _ (S lent : ℕ) (why : Refusal) where
  -- the rows in use behind a clause, and the faults of the clauses there
  abbrev behind : ℕ → List ℤ → ℕ
  behind used c = used + length (rows_of_clause S c)

  abbrev others : (used rules : ℕ) → List ℤ → List (List ℤ) → List Fault
  others used rules c cs = clauses_faults S (behind used c) (suc rules) lent cs

  module _ (used rules : ℕ) (c : List ℤ) (cs : List (List ℤ)) where
    -- the first clause is at fault
    stops_here : first_fault (clause_faults S used rules lent c) ≡ Err why
        → StopsAt S used rules lent (c ∷ cs) why (passed S used rules lent (c ∷ cs))
    unfolding clauses_faults passed
    stops_here e = rw e (record { stands = omega arith; before = refl; at = rw (add-zero, add-zero) e })

    -- it is not, and with its rows in use another is
    stops_later : first_fault (clause_faults S used rules lent c) ≡ Ok tt
        → StopsAt S (behind used c) (suc rules) lent cs why (passed S (behind used c) (suc rules) lent cs)
        → StopsAt S used rules lent (c ∷ cs) why (passed S used rules lent (c ∷ cs))
    unfolding clauses_faults passed
    stops_later e s =
        let k = passed S (behind used c) (suc rules) lent cs in
        let rows = all_rows (rules_of S (map one_of (take k cs))) in
        let sum : used + length (rows_of_clause S c ++ rows) ≡ behind used c + length rows = omega (arith, length-append (rows_of_clause S c) rows) in
        let count : rules + suc k ≡ suc rules + k = omega arith in
        rw e
        (record {
          stands = omega (arith, s.stands);
          before = first_append (clause_faults S used rules lent c) (others used rules c (take k cs)) ∙ rw e s.before;
          at = rw (sum, count) s.at;
        })

  stops : (used rules : ℕ) (cs : List (List ℤ)) → first_fault (clauses_faults S used rules lent cs) ≡ Err why
      → StopsAt S used rules lent cs why (passed S used rules lent cs)
  unfolding clauses_faults
  stops used rules [] e = let z : ◌≡◌ {A = ℕ} 0 1 = cc in absurd (omega arith)
  stops used rules (c ∷ cs) e =
      let parts = sym (first_append (clause_faults S used rules lent c) (others used rules c cs)) ∙ e in
      ⊎_elim
      (λ (o : first_fault (clause_faults S used rules lent c) ≡ Ok tt).
      stops_later used rules c cs o (stops (behind used c) (suc rules) cs (rw o at parts)))
      (λ r. stops_here used rules c cs (r.1 ∙ rw r.1 at parts))
      (done_or_refused (first_fault (clause_faults S used rules lent c)))

-- ---- of a text

module _ (w : World) (lent : ℕ) (text : List ℕ) (why : Refusal) (e : outcome w (reads lent text) ≡ Err why)
    (board : number_of why ≢ 1) (form : number_of why ≢ 15) where
  abbrev Stops : Type 0
  Stops =
      StopsAt w.board.symbols w.board.rows w.board.rules (rows_lent (front w lent)) (clauses_of (parse_text text)) why
      (read_answer (front w lent) w.board text).clauses

  first : first_fault (read_faults (front w lent) w.board text) ≡ Err why
  unfolding faults
  first = cases w (reads lent text) e

  at_clause : Stops
  unfolding read_faults text_faults read_answer
  at_clause = go (good_board (front w lent) w.board) (is_good (parse_text text)) refl refl
    where
      go : (g k : Bool) → good_board (front w lent) w.board ≡ g → is_good (parse_text text) ≡ k → Stops
      go false k is kept = absurd (board (sym (ap number_in (rw is at first))))
      go true false is kept = absurd (form (sym (ap number_in (rw (is, kept) at first))))
      go true true is kept =
          let clauses = clauses_of (parse_text text) in
          rw (first, is) (stops w.board.symbols (rows_lent (front w lent)) why w.board.rows w.board.rules clauses (rw (is, kept) at first))

pub read_stops : ReadStops
read_stops w lent text why e board form = at_clause w lent text why e board form

pub read_counts : ReadCounts
unfolding read_answer
read_counts w lent text e =
    let part = front w lent in
    let done = text_done w lent text e in
    let clauses = read_clauses part w.board text done in
    rw (done, read_good part w.board text done)
    (clauses_passed w.board.symbols w.board.rows w.board.rules (rows_lent part) (clauses_of (parse_text text)) clauses)

-- where the board or the form is at fault, none
pub read_tells_none : ReadTellsNone
unfolding passed
read_tells_none w lent text h =
    let table = front w lent in
    let b = w.board in
    clauses_told table b text ∙ go (good_board table b) (parse_text text) h
  where
    go : (g : Bool) (p : Parsed) → (g ≡ false) ⊎ (is_good p ≡ false)
        → cond g (passed w.board.symbols w.board.rows w.board.rules (rows_lent (front w lent)) (clauses_of p)) 0 ≡ 0
    go false p h = refl
    go true broken h = refl
    go true (good variables clauses) (inl e) = clash refl e
    go true (good variables clauses) (inr e) = clash refl e
