-- 02, Ticket 12, "What is the least we must withdraw?": what is promised of the set, each as a type. The proofs are in `proofs/`, under the same
-- names in small letters.
use Rattle.std.specs.Prelude.{◌≡◌, ◌↔◌, Bool, true, false, List, ℕ, ◌^◌, ◌≤◌, ◌<◌, length}
use Rattle.meaning.specs.Tests.{none}
use Rattle.meaning.specs.Literals.{conflict}
use Rattle.meaning.specs.Rounds.{derived}
use Rattle.meaning.specs.Ground.{struck_off}
use Rattle.meaning.specs.Promises.{Derived, Conflict}
use Rattle.candidates.specs.Sets.{chosen, size}
use Rattle.candidates.specs.Promises.{Inside}
use Rattle.least.specs.Least.{ends, least}

-- the set is one "whose withdrawal ends the conflict"
abbrev pub Ends : ℕ → List (List ℕ) → List Bool → List ℕ → ℕ → Type 0
Ends places rows held cands m = ¬ Conflict (Derived places rows (struck_off held (chosen cands m)))

-- "the smallest set of them" that is such; "of equal size, the one with the smallest number"
pub record Least (places : ℕ) (rows : List (List ℕ)) (held : List Bool) (cands : List ℕ) (m : ℕ) : Type 0 where
  pub of_them : m < 2 ^ length cands
  pub ends_it : Ends places rows held cands m
  pub smallest : (a : ℕ) → a < 2 ^ length cands → Ends places rows held cands a → size (length cands) m ≤ size (length cands) a
  pub lowest : (a : ℕ) → a < 2 ^ length cands → Ends places rows held cands a → size (length cands) a ≡ size (length cands) m → m ≤ a

-- it is the answer, and there is no other such (a set of up to 15 candidates is below none; the call takes 12)
abbrev pub LeastIs : Type 0
LeastIs =
    (places : ℕ) (rows : List (List ℕ)) (held : List Bool) (cands : List ℕ) (m : ℕ) → m < none
    → (least places rows held cands ≡ m) ↔ Least places rows held cands m

-- "the empty set if there is no conflict", and then alone
abbrev pub EmptyExactly : Type 0
EmptyExactly =
    (places : ℕ) (rows : List (List ℕ)) (held : List Bool) (cands : List ℕ)
    → (least places rows held cands ≡ 0) ↔ (conflict (derived places rows held) ≡ false)

-- withdrawing more never brings a conflict back,
abbrev pub EndsMore : Type 0
EndsMore =
    (places : ℕ) (rows : List (List ℕ)) (held : List Bool) (cands : List ℕ) (a b : ℕ) → Inside a b → ends places rows held cands a ≡ true
    → ends places rows held cands b ≡ true

-- so there is no set "exactly when withdrawing all of them leaves the conflict"
abbrev pub NoneExactly : Type 0
NoneExactly =
    (places : ℕ) (rows : List (List ℕ)) (held : List Bool) (cands : List ℕ) → 2 ^ length cands ≤ none
    → (least places rows held cands ≡ none) ↔ (conflict (derived places rows (struck_off held cands)) ≡ true)
