-- How the code surveys the clauses of a text, one at a time. Contracts of internal functions name these.
use Rattle.std.specs.Prelude.{ℕ, ◌+◌, ◌≡◌, List, ℤ, length}
use Rattle.literals.specs.declared.refusal.Refusal.TheVariants.{BadText}
use Rattle.board.specs.Faults.{if_done}
use Rattle.board.specs.Faults.{Outcome}
use Rattle.std.specs.Prelude.{Ok, Err}
use Rattle.dimacs.specs.Gathering.{KeptOf, gathered_rows, found_fault}
use Rattle.dimacs.specs.declared.gathering.Kept.{Kept}
use Rattle.dimacs.specs.declared.survey.Survey.{Survey}

-- the survey of a text that breaks the form
abbrev pub broken_form : Survey
broken_form = record { outcome = Err BadText; clauses = 0; added = 0 }

-- with a clause more; after the first at fault no other counts
abbrev pub with_clause : (S used rules lent : ℕ) → Survey → List ℤ → Survey
with_clause S used rules lent found c =
    if_done found.outcome
    (if_done (found_fault S (used + found.added) (rules + found.clauses) lent c)
    (record { outcome = Ok tt; clauses = found.clauses + 1; added = found.added + length (gathered_rows c) })
    (λ why. record { outcome = Err why; clauses = found.clauses; added = 0 }))
    (λ why. found)

-- ---- contracts, by what is kept of a clause's literals

-- the first fault of the clause
pub record Judges (k : Kept) (used rules lent : ℕ) (outcome : Outcome) : Type 0 where
  pub first_fault_lem : (S : ℕ) (o : List ℤ) (row : List ℕ) → KeptOf S o row k → outcome ≡ found_fault S used rules lent o

-- the survey with the clause
pub record Surveys (found : Survey) (k : Kept) (used rules lent : ℕ) (next : Survey) : Type 0 where
  pub with_clause : (S : ℕ) (o : List ℤ) (row : List ℕ) → KeptOf S o row k → next ≡ with_clause S used rules lent found o
