-- 02, Ticket 10, "The shift desk's smallest sets": what is promised of the list, each as a type. The proofs are in `proofs/`, under the same names in
-- small letters.
use Rattle.std.specs.Prelude.{◌≡◌, ◌↔◌, ◌≢◌, Bool, true, false, ℕ, ◌^◌, ◌≤◌, ◌<◌, length}
use mathlib.Core.List.{List, Memᴰ as In}
use Rattle.meaning.specs.Tests.{none}
use Rattle.meaning.specs.BySize.{BySize, EachBefore}
use Rattle.meaning.specs.Literals.{has, Within, conflict}
use Rattle.meaning.specs.Rounds.{derived}
use Rattle.meaning.specs.Ground.{ground}
use Rattle.meaning.specs.Promises.{Derived, Conflict}
use Rattle.candidates.specs.Sets.{chosen, size}
use Rattle.candidates.specs.Promises.{Inside}
use Rattle.smallest.specs.Smallest.{alone, derives, clashes, smallest}

-- "held alone": a literal is held just if it is one of the set's candidates
abbrev pub AloneIs : Type 0
AloneIs = (places : ℕ) (cands : List ℕ) (m p : ℕ) → (has (alone places cands m) p ≡ true) ↔ ((p < places) × In p (chosen cands m))

-- a set that, "held alone under the table's rules, derives the literal without conflict, while no smaller set inside it derives the literal"
pub record Carries (places : ℕ) (rows : List (List ℕ)) (cands : List ℕ) (p m : ℕ) : Type 0 where
  pub derives_it : Derived places rows (alone places cands m) p
  pub no_conflict : ¬ Conflict (Derived places rows (alone places cands m))
  pub no_smaller : (a : ℕ) → Inside a m → a ≢ m → ¬ Derived places rows (alone places cands a) p

-- "it lists each set of candidates that" is such, and no other,
abbrev pub SmallestAre : Type 0
SmallestAre =
    (places : ℕ) (rows : List (List ℕ)) (cands : List ℕ) (p m : ℕ)
    → In m (smallest places rows cands p) ↔ ((m < 2 ^ length cands) × Carries places rows cands p m)

-- "order by size, then by number, each once": each stands so to every later one,
abbrev pub SmallestInOrder : Type 0
SmallestInOrder =
    (places : ℕ) (rows : List (List ℕ)) (cands : List ℕ) (p : ℕ)
    → EachBefore (BySize (size (length cands)) (λ a b. a < b)) (smallest places rows cands p)

-- no more of them than there are sets
abbrev pub SmallestBound : Type 0
SmallestBound = (places : ℕ) (rows : List (List ℕ)) (cands : List ℕ) (p : ℕ) → length (smallest places rows cands p) ≤ 2 ^ length cands

-- inside any set that derives the literal without conflict there is a listed one,
abbrev pub OneInside : Type 0
OneInside =
    (places : ℕ) (rows : List (List ℕ)) (cands : List ℕ) (p m : ℕ) → m < 2 ^ length cands → derives places rows cands p m ≡ true
    → clashes places rows cands m ≡ false → (a : ℕ) × In a (smallest places rows cands p) × Inside a m

-- and a literal that held premises derive without conflict, whose ground is of candidates alone, has a listed set inside its ground
abbrev pub OneInGround : Type 0
OneInGround =
    (places : ℕ) (rows : List (List ℕ)) (cands : List ℕ) (held : List Bool) (p : ℕ) → places < none → length rows < none
    → ((h : ℕ) → has (ground places rows held p) h ≡ true → In h cands) → has (derived places rows held) p ≡ true
    → conflict (derived places rows held) ≡ false
    → (m : ℕ) × In m (smallest places rows cands p) × Within (alone places cands m) (ground places rows held p)
