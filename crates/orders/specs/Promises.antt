-- The desk's request: "the desk's state is `run` of the calls its lines are". Each promise is a type; the proofs are in `proofs/`, under the same
-- names in small letters.
use Rattle.std.specs.Prelude.{ℕ, ◌≡◌, false, List, [], ◌∷◌, ◌++◌}
use Rattle.promises.specs.Calls.{Call, run}
use Rattle.orders.specs.States.{State, ordered, did, tells, is_made, calls_of}

-- the state after lines, and all the calls that they are, one line after the other
abbrev pub after_lines : State → (lines : List (List ℕ)) → State
after_lines s [] = s
after_lines s (line ∷ lines) = after_lines (did s (ordered s line)) lines

abbrev pub calls_along : State → (lines : List (List ℕ)) → List Call
calls_along s [] = []
calls_along s (line ∷ lines) = calls_of s (ordered s line) ++ calls_along (did s (ordered s line)) lines

abbrev pub IsRun : Type 0
IsRun = (s : State) (lines : List (List ℕ)) → (after_lines s lines).world ≡ run s.world (calls_along s lines)

-- "a wrong line loses nothing": one that does not come to its end, as it is refused or not taken, leaves all as it was; and so does one that asks
abbrev pub LosesNothing : Type 0
LosesNothing = (s : State) (line : List ℕ) → is_made (tells s (ordered s line)).reply ≡ false → did s (ordered s line) ≡ s
