-- From an input's bytes to its lines, by computing the definition: the case that document 01 prints, with line 11 as 02's
-- Ticket 11 has it, and 02's Ticket 1, where a formula breaks.
use Rattle.meaning.proofs.Kit.{◌≡◌, refl, false, List, [], ◌∷◌, ◌++◌, map, ℕ, pos, length, replicate}
use Rattle.board.specs.declared.Board.{Board}
use Rattle.meaning.specs.BySize.{of_size}
use Rattle.meaning.specs.Clauses.{hit, implicate, prime}
use Rattle.meaning.specs.Formulae.{value, occurs, symbols_of}
use Rattle.meaning.specs.Literals.{opp}
use Rattle.meaning.specs.Rounds.{gives, next, reached, rank_by, first_giver, support_at, support_of}
use Rattle.literals.specs.Literal.{place_of, literal_at}
use Rattle.literals.specs.Row.{numbers_at, rule_at, zeros, rising, row_sound, rule_before, rule_sound, rows_sound, decode, rows_in, encode}
use Rattle.formula.specs.Parse.{symbol_at, second_of, body_of, parse, whole_of}
use Rattle.implicates.specs.Appending.{appended}
use Rattle.board.specs.Furnaces.{is_furnace, held_by, with_held}
use Rattle.board.specs.Faults.{premises_fit, good_board}
use Rattle.board.specs.Changes.{open_faults, opened, flag_faults, flag_changed}
use Rattle.board.specs.Rules.{rule_faults, ruled, ruled_table}
use Rattle.board.specs.Asking.{ask_faults, asked, explain_faults, explain_numbers, explain_part}
use Rattle.spelling.proofs.Ascii.{ascii}
use Rattle.spelling.specs.Text.{digits_of, literal_list}
use Rattle.lines.specs.Commands.{literal_in, formula_length, command_said, command_table, said, said_table, lines_of}

abbrev start : Board
start = record { symbols = 0; rows = 0; rules = 0; first = replicate 400 false; second = replicate 400 false }

record Case : Type 0 where
  input : List ℕ
  lines : List ℕ

abbrev document : List ℕ
document =
    0x01 ∷ 0x04 ∷
    0x02 ∷ 0x14 ∷ 0x10 ∷ 0x01 ∷ 0x10 ∷ 0x02 ∷
    0x02 ∷ 0x14 ∷ 0x12 ∷ 0x10 ∷ 0x02 ∷ 0x10 ∷ 0x03 ∷ 0x10 ∷ 0x04 ∷
    0x03 ∷ 0x01 ∷ 0x00 ∷ 0x03 ∷ 0x03 ∷ 0x00 ∷
    0x05 ∷ 0x04 ∷ 0x00 ∷ 0x06 ∷ 0x04 ∷ 0x00 ∷
    0x04 ∷ 0x01 ∷ 0x00 ∷ 0x05 ∷ 0x04 ∷ 0x00 ∷
    0x03 ∷ 0xfd ∷ 0xff ∷ 0x05 ∷ 0x04 ∷ 0x00 ∷ []

abbrev cases : List Case
cases =
    record {
      input = document;
      lines =
          ascii "1 open ok\n2 rule rows 0 1\n3 rule rows 1 1\n4 hold ok\n5 hold ok\n6 ask stands\n"
          ++ ascii "7 why rank 2 row 1: -2 -3 4\n8 drop ok\n9 ask open\n10 hold ok\n11 ask open\n";
    }
    ∷ record { input = 0x01 ∷ 0x04 ∷ 0x02 ∷ 0x13 ∷ 0x10 ∷ 0x04 ∷ 0x10 ∷ 0x05 ∷ []; lines = ascii "1 open ok\n2 rule no 2 at 4\n" }
    ∷ record { input = 0x01 ∷ 0x04 ∷ 0x02 ∷ []; lines = ascii "1 open ok\n2 rule no 3 at 0\n" }
    ∷ record { input = 0x01 ∷ 0x04 ∷ 0x02 ∷ 0x14 ∷ 0x10 ∷ 0x01 ∷ 0x10 ∷ []; lines = ascii "1 open ok\n2 rule no 3 at 4\n" }
    ∷ record { input = 0x01 ∷ 0x04 ∷ 0x02 ∷ replicate 16 0x11; lines = ascii "1 open ok\n2 rule no 5 at 16\n" }
    ∷ record { input = 0x01 ∷ 0x04 ∷ 0x02 ∷ 0x12 ∷ 0x10 ∷ 0x01 ∷ 0x99 ∷ []; lines = ascii "1 open ok\n2 rule no 4 at 3\n" }
    ∷ record { input = 0x01 ∷ 0x04 ∷ 0x02 ∷ 0x12 ∷ 0x10 ∷ 0x01 ∷ 0x11 ∷ 0x10 ∷ 0x01 ∷ []; lines = ascii "1 open ok\n2 rule no 8\n" }
    ∷ record { input = 0x01 ∷ 0x04 ∷ 0x03 ∷ 0x05 ∷ 0x00 ∷ []; lines = ascii "1 open ok\n2 hold no 2\n" }
    ∷ []

printed : map (λ (c : Case). lines_of (length c.input) 1 start (replicate 18432 (pos 0)) c.input) cases ≡ map (λ (c : Case). c.lines) cases
unfolding hit implicate prime of_size value occurs symbols_of opp gives next reached rank_by first_giver support_at support_of place_of literal_at
    numbers_at rule_at zeros rising row_sound rule_before rule_sound rows_sound decode rows_in encode symbol_at second_of body_of parse whole_of appended
    is_furnace held_by with_held premises_fit good_board open_faults opened flag_faults flag_changed rule_faults ruled ruled_table ask_faults asked
    explain_faults explain_numbers explain_part digits_of literal_list literal_in formula_length command_said command_table said said_table lines_of
printed = refl
