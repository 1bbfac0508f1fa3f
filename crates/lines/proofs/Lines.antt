-- A line is its pieces one after the other: the ordinal, the command's word, its text and the line's end.
use Rattle.meaning.proofs.Kit.{◌≡◌, List, ℕ, ℤ}
use Rattle.formula.proofs.Parts.{onward, onward_drop}
use Rattle.board.specs.declared.Board.{Board}
use Rattle.spelling.specs.Text.{Put, natural}
use Rattle.lines.specs.Words.{line_end}
use Rattle.lines.specs.Commands.{command_at, command_said, command_table, Did, said, said_table, word_of}
use Rattle.lines.specs.declared.commands.Command.{Command}
use Rattle.lines.specs.declared.saying.Progress.{Progress}
use Rattle.spelling.proofs.Pieces.{put_put}

module _ (ordinal : ℕ) (b : Board) (table : List ℤ) (input : List ℕ) {command : Command} (is : command ≡ command_at input) where
  pub line_did : {before numbered named told after : List ℕ} {word text written : ℕ} {done : Progress}
      → Put before numbered 0 (natural ordinal) word → Put numbered named word (word_of command) text
      → Did (command_said b table (onward 1 input) command) done named told text → Put told after done.written line_end written
      → Did (said ordinal b table input) (record { board = done.board; used = done.used; written = written; stops = done.stops }) before after 0
  unfolding said
  line_did n w d e =
      let t = rw (is, onward_drop) at d in
      let m = rw is at w in
      record {
        board = t.board;
        used = t.used;
        stops = t.stops;
        put = put_put _ _ (put_put _ _ (put_put _ _ n m) t.put) e;
      }

  pub line_table : {after : List ℤ} → after ≡ command_table b table (onward 1 input) command → after ≡ said_table b table input
  unfolding said_table
  line_table e = rw (is, onward_drop) at e
