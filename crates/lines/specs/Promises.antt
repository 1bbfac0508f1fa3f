-- 01, "The journal program": "Number 6 can't come up here." 02, Ticket 1: where a rule's formula breaks.
use Rattle.std.specs.Prelude.{◌≡◌, ◌≢◌, true, List, ◌∷◌, ◌++◌, ℕ, ℤ}
use Rattle.literals.specs.Refusals.{number_of}
use Rattle.literals.specs.declared.refusal.Refusal.{Refusal}
use Rattle.formula.specs.Parse.{bad, levels, parse}
use Rattle.board.specs.Faults.{number_in, good_board}
use Rattle.board.specs.Rules.{ruled}
use Rattle.board.specs.declared.Board.{Board}
use Rattle.spelling.specs.Text.{natural}
use Rattle.lines.specs.Words.{rule_word, no_word, at_word, line_end}
use Rattle.lines.specs.Commands.{formula_bytes, said}

-- a rule command adds the rule of the formula at the front of its body; whatever the body, that is never refused for bytes left over
abbrev pub NeverSix : Type 0
NeverSix = (table : List ℤ) (b : Board) (body : List ℕ) → number_in (ruled table b (formula_bytes b body)).outcome ≢ 6

-- "the journal line (`no 3 at 7`, places counted from the rule's first formula byte, which is 0)": what a rule command says, byte 02, where
-- the bytes after it break
abbrev pub BreakSaid : Type 0
BreakSaid =
    (ordinal : ℕ) (table : List ℤ) (b : Board) (body : List ℕ) (why : Refusal) (at : ℕ) → good_board table b ≡ true
    → parse b.symbols levels body ≡ bad why at
    → (said ordinal b table (0x02 ∷ body)).text
    ≡ natural ordinal ++ rule_word ++ ((no_word ++ natural (number_of why)) ++ (at_word ++ natural at)) ++ line_end
