-- What a call answers, and the first of its cases that is given.
use Rattle.meaning.proofs.Kit.{◌≡◌, refl, ◌≢◌, true, false, Bool, cond, not, false≢true, List, [], ◌∷◌, ◌++◌, map, ℕ, ◌<◌, suc, zero, arith, ℤ, get_or}
use Rattle.literals.specs.Refusals.{number_of}
use Rattle.literals.specs.declared.refusal.Refusal.{Refusal}
use Rattle.literals.proofs.Refusals.{number_some}
use Rattle.formula.specs.Parse.{Parsed, good, bad, whole_of}
use Rattle.formula.specs.Answers.{is_good}
use Rattle.formula.proofs.Faults.{UpTo}
use Rattle.board.specs.Faults.{Fault, first_fault, if_done, number_in}
use Rattle.board.specs.Rules.{why_of, place_told, rule_faults, ruled}
use Rattle.board.specs.declared.Board.{Board}
use Rattle.board.specs.Faults.{Outcome}
use Rattle.std.specs.Prelude.{Ok, Err}
use Rattle.board.specs.declared.rules.Addition.{Addition}

pub refused_not_done : {X : Type 0} {why : Refusal} → ◌≡◌ {A = Outcome} (Err why) (Ok tt) → X
refused_not_done e = let z : ◌≡◌ {A = ℕ} 0 1 = cc in absurd (omega arith)

-- the faults of two lists: the first of the first, and only where there is none the first of the second
pub first_append : (fs gs : List Fault) → first_fault (fs ++ gs) ≡ if_done (first_fault fs) (first_fault gs) (λ why. Err why)
first_append [] gs = refl
first_append (f ∷ fs) gs = go f.given (first_append fs gs)
  where
    go : (b : Bool) → first_fault (fs ++ gs) ≡ if_done (first_fault fs) (first_fault gs) (λ why. Err why)
        → cond b (Err f.refusal) (first_fault (fs ++ gs))
        ≡ if_done (cond b (Err f.refusal) (first_fault fs)) (first_fault gs) (λ why. Err why)
    go true e = refl
    go false e = e

-- an answer made by `if_done` tells the outcome it was made by, if both its parts do
pub told_by_lem : {A : Type 0} (tell : A → Outcome) (done : A) (refused : Refusal → A) (o : Outcome) → (o ≡ Ok tt → tell done ≡ o)
    → ((why : Refusal) → o ≡ Err why → tell (refused why) ≡ o) → tell (if_done o done refused) ≡ o
told_by_lem tell done refused (Ok _) d r = d refl
told_by_lem tell done refused (Err why) d r = r why refl

pub rule_told : (table : List ℤ) (b : Board) (bytes : List ℕ) → (ruled table b bytes).outcome ≡ first_fault (rule_faults table b bytes)
unfolding ruled
rule_told table b bytes = told_by_lem (λ (a : Addition). a.outcome) _ _ (first_fault (rule_faults table b bytes)) (λ e. refl) (λ why e. refl)

-- and the place that it tells is by its outcome
pub rule_place : (table : List ℤ) (b : Board) (bytes : List ℕ)
    → (ruled table b bytes).place ≡ place_told (ruled table b bytes).outcome (whole_of b.symbols bytes)
unfolding ruled
rule_place table b bytes = go (first_fault (rule_faults table b bytes)) refl
  where
    go : (o : Outcome) → first_fault (rule_faults table b bytes) ≡ o
        → (ruled table b bytes).place ≡ place_told (ruled table b bytes).outcome (whole_of b.symbols bytes)
    go (Ok _) e = rw e
    go (Err why) e = rw e

-- 0 is the number of a call that is done and of no other
pub done_alone : (o : Outcome) → number_in o ≡ 0 → o ≡ Ok tt
done_alone (Ok _) e = refl
done_alone (Err why) e = let some = number_some why in absurd (omega arith)

-- where a call is done, no fault is given
pub none_given : (faults : List Fault) → first_fault faults ≡ Ok tt → (i : ℕ) → get_or (map (λ f. f.given) faults) i false ≡ false
none_given [] e i = refl
none_given (f ∷ faults) e i = go f.given refl e i (λ h j. none_given faults h j)
  where
    go : (t : Bool) → f.given ≡ t → cond t (Err f.refusal) (first_fault faults) ≡ Ok tt → (i : ℕ)
        → (first_fault faults ≡ Ok tt → (j : ℕ) → get_or (map (λ f. f.given) faults) j false ≡ false)
        → get_or (map (λ f. f.given) (f ∷ faults)) i false ≡ false
    go true g e i rest = refused_not_done e
    go false g e zero rest = g
    go false g e (suc i) rest = rest e i

-- a formula that is not read has a fault of the numbers that it is known to be of
pub fault_not : (last number : ℕ) (p : Parsed) → UpTo last p → last < number → not (is_good p) ≡ true → number_of (why_of p) ≢ number
fault_not last number (good f used) most more g = absurd (false≢true g)
fault_not last number (bad why at) most more g = λ e. omega arith

-- of some cases, none that is given has this number: so it is not answered
abbrev pub Without : ℕ → List Fault → Type 0
Without number [] = Unit {0}
Without number (f ∷ fs) = (f.given ≡ true → number_of f.refusal ≢ number) × Without number fs

pub never_answered : (number : ℕ) (fs : List Fault) → 0 < number → Without number fs → number_in (first_fault fs) ≢ number
never_answered number [] some w e = omega arith
never_answered number (f ∷ fs) some w e = go f.given w.0 (never_answered number fs some w.1) e
  where
    go : (g : Bool) → (g ≡ true → number_of f.refusal ≢ number) → number_in (first_fault fs) ≢ number
        → number_in (cond g (Err f.refusal) (first_fault fs)) ≡ number → ⊥
    go true here later e = here refl e
    go false here later e = later e
