-- How the sets are searched, by number: a set that derives the literal, or is in conflict, stops the search, since no set that has it inside is
-- listed. What is noted of each set tells which are.
use Rattle.std.specs.Prelude.{Result, Ok, Err, ℕ, ◌-◌, ◌^◌, Bool, true, false, cond, ◌&&◌, ◌||◌, List, [], ◌∷◌, ℤ, length, get_or, set, replicate}
use Rattle.meaning.specs.Tests.{any, from, tabulate, bit}
use Rattle.meaning.specs.BySize.{of_size, below_size}
use Rattle.candidates.specs.Sets.{chosen, size, sets_of}
use Rattle.smallest.specs.Smallest.{derives, clashes, carries}
use Rattle.board.specs.Faults.{first_fault}
use Rattle.board.specs.Settling.{over}
use Rattle.board.specs.declared.Board.{Board}
use Rattle.board.specs.Faults.{Outcome}
use Rattle.board.specs.declared.asking.Standing.{Standing}
use Rattle.board.specs.declared.asking.Standing.TheVariants.{Conflict, Stands, RuledOut, Open}
use Rattle.literals.specs.declared.refusal.Refusal.{Refusal}
use Rattle.smallest.specs.Listing.{smallest_at, smallest_on, room_faults, candidate_faults, listed}
use Rattle.smallest.specs.declared.Listing.{Listing}
use Rattle.smallest.specs.declared.search.Note.{Note}
use Rattle.smallest.specs.declared.search.Note.TheVariants.{GoesOn, Stops, Listed}

-- ---- a set's candidates, held alone

-- flags with some more set
abbrev pub holding : List Bool → List ℕ → List Bool
holding held [] = held
holding held (p ∷ more) = holding (set held p true) more

-- the board with the set's candidates as furnace 1's premises, and no others
abbrev pub alone_on : Board → List ℕ → ℕ → Board
alone_on b cands m =
    record {
      symbols = b.symbols;
      rows = b.rows;
      rules = b.rules;
      first = holding (replicate 400 false) (chosen cands m);
      second = replicate 400 false;
    }

-- ---- what is noted of a set: the search goes on, or it stops, or it stops and the set is listed

abbrev pub stops_at : Note → Bool
stops_at GoesOn = false
stops_at Stops = true
stops_at Listed = true

abbrev pub lists : Note → Bool
lists GoesOn = false
lists Stops = false
lists Listed = true

abbrev pub stops : ℕ → List (List ℕ) → List ℕ → ℕ → ℕ → Bool
stops places rows cands p m = clashes places rows cands m || derives places rows cands p m

unfoldable pub note_of : ℕ → List (List ℕ) → List ℕ → ℕ → ℕ → Note
note_of places rows cands p m = cond (carries places rows cands p m) Listed (cond (stops places rows cands p m) Stops GoesOn)

-- of every set, by number
unfoldable pub notes_of : ℕ → List (List ℕ) → List ℕ → ℕ → List Note
notes_of places rows cands p = tabulate (2 ^ length cands) (note_of places rows cands p)

-- by the notes of the sets before it: a set with one candidate fewer stops
unfoldable pub stops_fewer : List Note → (n m : ℕ) → Bool
stops_fewer notes n m = any (λ i. bit i m && stops_at (get_or notes (m - 2 ^ i) GoesOn)) (from 0 n)

-- and by how the literal stands, of the whole board, with the set held alone
abbrev pub standing_note : Result Standing Refusal → Note
standing_note (Ok Conflict) = Stops
standing_note (Ok Stands) = Listed
standing_note (Ok RuledOut) = GoesOn
standing_note (Ok Open) = GoesOn
standing_note (Err why) = GoesOn

-- ---- the sets listed, by their notes

abbrev pub listed_in : List Note → ℕ → Bool
listed_in notes m = lists (get_or notes m GoesOn)

abbrev pub listed_of_size : List Note → (n k : ℕ) → List ℕ
listed_of_size notes n k = of_size (size n) (listed_in notes) (sets_of n) k

abbrev pub listed_below : List Note → (n k : ℕ) → List ℕ
listed_below notes n k = below_size (size n) (listed_in notes) (sets_of n) k

-- ---- the answer, once the tests before have passed

-- by the candidates' places: 13, or the list
abbrev pub placed_outcome : List ℤ → Board → (places : List ℕ) → ℤ → (sets : List ℕ) → Outcome
placed_outcome table b places l sets = first_fault (room_faults (smallest_at table b places l) (length sets))

abbrev pub placed_answer : List ℤ → Board → (places : List ℕ) → ℤ → (sets : List ℕ) → Listing
placed_answer table b places l sets = listed (placed_outcome table b places l sets) (smallest_at table b places l)

abbrev pub placed_sets : List ℤ → Board → (places : List ℕ) → ℤ → (sets : List ℕ) → List ℕ
placed_sets table b places l sets = over (placed_outcome table b places l sets) (smallest_at table b places l) sets

-- by the candidates: 17 before that
abbrev pub given_outcome : (many : Bool) → List ℤ → Board → (cands : List ℤ) → ℤ → (sets : List ℕ) → Outcome
given_outcome many table b cands l sets = first_fault (candidate_faults many table b cands l (length sets))

abbrev pub given_answer : (many : Bool) → List ℤ → Board → (cands : List ℤ) → ℤ → (sets : List ℕ) → Listing
given_answer many table b cands l sets = listed (given_outcome many table b cands l sets) (smallest_on table b cands l)

abbrev pub given_sets : (many : Bool) → List ℤ → Board → (cands : List ℤ) → ℤ → (sets : List ℕ) → List ℕ
given_sets many table b cands l sets = over (given_outcome many table b cands l sets) (smallest_on table b cands l) sets
