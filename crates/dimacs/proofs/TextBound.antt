-- How long a text can be: a sound row has at most eight literals, and each takes a sign, three digits and a blank at most.
use Rattle.meaning.proofs.Kit.{◌≡◌, ap, true, List, [], ◌∷◌, ◌≤◌, ℕ, ◌<◌, ◌+◌, suc, ◌*◌, zero, add-one, arith, ℤ, pos, nat_abs, negsuc, length}
use Rattle.meaning.proofs.Kit.{length-append}
use Rattle.meaning.specs.Tests.{all}
use Rattle.meaning.proofs.Tests.{both_true}
use Rattle.literals.specs.Literal.{in_range}
use Rattle.literals.proofs.Arguments.{range_facts}
use Rattle.literals.specs.Row.{Sound, numbers_at}
use Rattle.spelling.specs.Text.{literal}
use Rattle.spelling.proofs.Pieces.{natural_most}
use Rattle.board.specs.Faults.{good_board}
use Rattle.board.specs.declared.Board.{Board}
use Rattle.board.proofs.Goodness.{good_is}
use Rattle.dimacs.specs.Writing.{clause_at, clause_line, clause_lines, clauses_at, spaced, text_on}
use Rattle.dimacs.specs.Promises.{TextBound}
use Rattle.dimacs.proofs.Lines.{line_size}
use Rattle.dimacs.proofs.RowLiterals.{clause_few}
use Rattle.dimacs.proofs.SoundTables.{sound_range}
use Rattle.dimacs.proofs.TextLines.{counts_size, lines_none, lines_size, text_size}

literal_short : (l : ℤ) → nat_abs l ≤ 200 → length (literal l) ≤ 4
literal_short (pos n) h = omega (arith, natural_most 2 n (omega arith))
literal_short (negsuc k) h = omega (arith, natural_most 2 (suc k) (omega arith))

spaced_short : (S : ℕ) (ls : List ℤ) → S ≤ 200 → all (in_range S) ls ≡ true → length (spaced ls) ≤ 5 * length ls
unfolding spaced
spaced_short S [] h e = omega arith
spaced_short S (l ∷ ls) h e =
    let t = both_true (in_range S l) (all (in_range S) ls) e in
    let one = literal_short l (omega (arith, (range_facts S l t.0).1)) in
    omega (arith, length-append (literal l) (32 ∷ spaced ls), one, spaced_short S ls h t.1)

module _ (S used : ℕ) (t : List ℤ) (sound : Sound S used t) where
  line_short : (r : ℕ) → r < used → length (clause_line (clause_at t r)) ≤ 42
  line_short r h =
      let row = clause_at t r in
      let range = sound_range S (numbers_at t r) (sound.sound r h) in
      omega (arith, line_size row, clause_few t r, spaced_short S row sound.symbols range)

  lines_short : (r : ℕ) → r ≤ used → length (clause_lines (clauses_at r t)) ≤ 42 * r
  lines_short zero h = omega (arith, ap length (lines_none t))
  lines_short (suc r) h =
      let next : r + 1 ≡ suc r = add-one r in
      omega (arith, rw next at (lines_size t r), lines_short r (omega arith), line_short r (omega arith))

-- a header of 15 bytes, and 42 bytes a line
pub text_most : (table : List ℤ) (b : Board) → good_board table b ≡ true → length (text_on table b) ≤ 15 + 42 * b.rows
unfolding text_on
text_most table b good =
    let sound = (good_is table b good).sound in
    let S = b.symbols in
    let r = b.rows in
    omega (
      arith,
      text_size table S r,
      counts_size S r,
      natural_most 2 S (omega (arith, sound.symbols)),
      natural_most 3 r (omega (arith, sound.rows)),
      lines_short S r table sound r (omega arith),
    )

pub text_bound : TextBound
text_bound table b good = omega (arith, text_most table b good, (good_is table b good).sound.rows)
