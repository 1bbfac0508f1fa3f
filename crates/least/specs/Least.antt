-- 02, Ticket 12, "What is the least we must withdraw?" The candidates are places, in the order in which they are given; m is a set of them.
use Rattle.std.specs.Prelude.{Bool, not, List, ℕ, length, get_or}
use Rattle.meaning.specs.Tests.{none}
use Rattle.meaning.specs.Literals.{conflict}
use Rattle.meaning.specs.Rounds.{derived}
use Rattle.meaning.specs.Ground.{struck_off}
use Rattle.candidates.specs.Sets.{chosen, sets_by_size}

-- the set is one "whose withdrawal ends the conflict": once its candidates are struck off there is none
unfoldable pub ends : ℕ → List (List ℕ) → List Bool → List ℕ → ℕ → Bool
ends places rows held cands m = not (conflict (derived places rows (struck_off held (chosen cands m))))

-- "the smallest set of them whose withdrawal ends the conflict; of equal size, the one with the smallest number": of all that end it, in the order of
-- Ticket 10, the first; none, if no set ends it
unfoldable pub least : ℕ → List (List ℕ) → List Bool → List ℕ → ℕ
least places rows held cands = get_or (sets_by_size (length cands) (ends places rows held cands)) 0 none
