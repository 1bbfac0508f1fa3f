-- The lines of a run, one command at a time.
use Rattle.meaning.proofs.Kit.{◌≡◌, ap, refl, cond, List, [], ◌∷◌, ◌++◌, ◌≤◌, ℕ, suc, zero, arith, ℤ, length, drop, length-drop}
use Rattle.board.specs.declared.Board.{Board}
use Rattle.lines.specs.Commands.{lines_of, said, said_table}
use Rattle.lines.proofs.Bodies.{said_used}

-- as many commands as the input has bytes, and any more, give the same lines
lines_more : (most ordinal : ℕ) (b : Board) (table : List ℤ) (input : List ℕ) → length input ≤ most
    → lines_of most ordinal b table input ≡ lines_of (suc most) ordinal b table input
unfolding lines_of
lines_more zero ordinal b table [] h = refl
lines_more zero ordinal b table (kind ∷ body) h = absurd (omega arith)
lines_more (suc most) ordinal b table [] h = refl
lines_more (suc most) ordinal b table (kind ∷ body) h =
    let input = kind ∷ body in
    let s = said ordinal b table input in
    ap (λ (rest : List ℕ). s.text ++ cond s.stops [] rest)
    (lines_more most (suc ordinal) s.board (said_table b table input) (drop s.used input)
    (omega (arith, (said_used ordinal b table input (omega arith)).0, length-drop s.used input)))

-- the first line, and then the others
pub lines_step : (most ordinal : ℕ) (b : Board) (table : List ℤ) (input : List ℕ) → 1 ≤ length input → length input ≤ most
    → let s = said ordinal b table input in lines_of most ordinal b table input
    ≡ s.text ++ cond s.stops [] (lines_of most (suc ordinal) s.board (said_table b table input) (drop s.used input))
unfolding lines_of
lines_step most ordinal b table [] some h = absurd (omega arith)
lines_step most ordinal b table (kind ∷ body) some h = lines_more most ordinal b table (kind ∷ body) h
