-- 02, Ticket 10, "The shift desk's smallest sets". The candidates are places, in the order in which they are given; m is a set of them.
use Rattle.std.specs.Prelude.{Bool, not, ◌&&◌, List, ℕ, eqb, length}
use Rattle.meaning.specs.Tests.{any, member, tabulate}
use Rattle.meaning.specs.Literals.{has, conflict}
use Rattle.meaning.specs.Rounds.{derived}
use Rattle.candidates.specs.Sets.{chosen, inside, sets_of, sets_by_size}

-- the set's candidates are held, and nothing else: "Premises held on the board don't count"
unfoldable pub alone : ℕ → List ℕ → ℕ → List Bool
alone places cands m = tabulate places (λ p. member p (chosen cands m))

-- what the set, "held alone under the table's rules", derives
abbrev pub by_alone : ℕ → List (List ℕ) → List ℕ → ℕ → List Bool
by_alone places rows cands m = derived places rows (alone places cands m)

-- it "derives the literal"
unfoldable pub derives : ℕ → List (List ℕ) → List ℕ → ℕ → ℕ → Bool
derives places rows cands p m = has (by_alone places rows cands m) p

-- and, held alone, it is in conflict
unfoldable pub clashes : ℕ → List (List ℕ) → List ℕ → ℕ → Bool
clashes places rows cands m = conflict (by_alone places rows cands m)

-- a "smaller set inside it", one that is inside it and is another, "derives the literal", in conflict or not
unfoldable pub smaller_derives : ℕ → List (List ℕ) → List ℕ → ℕ → ℕ → Bool
smaller_derives places rows cands p m =
    any (λ a. inside (length cands) a m && (not (eqb a m) && derives places rows cands p a)) (sets_of (length cands))

-- it "derives the literal without conflict, while no smaller set inside it derives the literal"
unfoldable pub carries : ℕ → List (List ℕ) → List ℕ → ℕ → ℕ → Bool
carries places rows cands p m =
    derives places rows cands p m && (not (clashes places rows cands m) && not (smaller_derives places rows cands p m))

-- "it lists each set of candidates that" carries the literal; "order by size, then by number, each once"
unfoldable pub smallest : ℕ → List (List ℕ) → List ℕ → ℕ → List ℕ
smallest places rows cands p = sets_by_size (length cands) (carries places rows cands p)
