-- What a board worked out by computation unfolds, whichever of these it comes to: a proof by `refl` names them all by naming `the_definitions`.
use Rattle.meaning.specs.BySize.{of_size}
use Rattle.meaning.specs.Clauses.{hit, implicate, prime}
use Rattle.meaning.specs.Formulae.{occurs, symbols_of, value}
use Rattle.meaning.specs.Ground.{blame, blamed, ground, larger_rank, reaches, reaches_in}
use Rattle.meaning.specs.Literals.{opp}
use Rattle.meaning.specs.Rounds.{first_giver, gives, labels_of, next, rank_by, ranks_of, reached, support_at, support_of, supports_of}
use Rattle.literals.specs.Literal.{literal_at, place_of}
use Rattle.literals.specs.Row.{decode, encode, numbers_at, rising, row_sound, rows_in, rows_sound, rule_at, rule_before, rule_sound, ruled_in, zeros}
use Rattle.formula.specs.Bytes.{bytes_of}
use Rattle.formula.specs.Parse.{body_of, parse, second_of, symbol_at, whole_of}
use Rattle.implicates.specs.Appending.{appended}
use Rattle.board.specs.Asking.{ask_faults, asked, asked_whole, explain_faults, explain_part, explain_numbers}
use Rattle.board.specs.Changes.{flag_changed, flag_faults, open_faults, opened}
use Rattle.board.specs.Faults.{good_board, premises_fit}
use Rattle.board.specs.Furnaces.{held_by, is_furnace, with_held}
use Rattle.board.specs.Grounds.{blame_faults, blame_marks, blame_outcome, ground_faults, ground_marks, ground_outcome}
use Rattle.board.specs.Rules.{rule_faults, ruled, ruled_table}
use Rattle.board.specs.Settling.{settle_faults, settle_outcome, settled_labels, settled_ranks, settled_supports}
use Rattle.smallest.specs.Listing.{smallest_answer, smallest_at, smallest_faults, smallest_outcome, smallest_sets}
use Rattle.smallest.specs.Smallest.{alone, carries, clashes, derives, smaller_derives, smallest}
use Rattle.least.specs.Least.{ends, least}
use Rattle.least.specs.Withdrawing.{least_answer, least_faults, least_at}
use Rattle.positions.specs.Entering.{entered, entered_table, entry_faults}
use Rattle.positions.specs.Positions.{exactly_one, false_or, formulae_of, none_of, possible, symbols_fit, well_formed}
use Rattle.stack.specs.Stacking.{good_stack, good_stacks, stacked}
use Rattle.stack.specs.Steps.{opened_with, pop_faults, popped, push_faults, pushed, withdraw_faults_with, withdrawn_with}
use Rattle.spelling.specs.Text.{decimal, digits_of}
use Rattle.chains.specs.Form.{at_close, bracket_at, closed, from_mark, go_on, lead, more, unit_of, whole_text}
use Rattle.chains.specs.Spelling.{spelled, unit_text}
use Rattle.text.specs.Adding.{ruled_text, ruled_text_table}
use Rattle.text.specs.Reading.{read_text_answer, read_text_bytes, read_text_faults, read_text_outcome}
use Rattle.text.specs.Writing.{write_text_answer, write_text_bytes, write_text_faults, write_text_outcome}
use Rattle.dimacs.specs.Clauses.{clause_faults, clauses_faults, one_of, passed}
use Rattle.dimacs.specs.Form.{clauses_in, counts_in, header_in, parse_text, past_comments, starts_with}
use Rattle.dimacs.specs.Reading.{read_answer, read_faults, read_table, text_faults}
use Rattle.dimacs.specs.Words.{literal_of, number_of, since, up_to, words_in}
use Rattle.dimacs.specs.Writing.{clause_lines, clauses_at, literals_of, spaced, text_of, text_on, write_answer, write_bytes, write_faults, write_outcome}
use Rattle.promises.specs.Calls.{after, answer, outcome, rules_after}

unfoldable pub the_definitions : Unit {0}
unfolding of_size hit implicate prime occurs symbols_of value blame blamed ground larger_rank reaches reaches_in opp first_giver gives labels_of next rank_by
    ranks_of reached support_at support_of supports_of literal_at place_of decode encode numbers_at rising row_sound rows_in rows_sound rule_at rule_before
    rule_sound ruled_in zeros bytes_of body_of parse second_of symbol_at whole_of appended ask_faults asked asked_whole explain_faults explain_part
    explain_numbers flag_changed flag_faults open_faults opened good_board premises_fit held_by is_furnace with_held blame_faults blame_marks blame_outcome
    ground_faults
    ground_marks ground_outcome rule_faults ruled ruled_table settle_faults settle_outcome settled_labels settled_ranks settled_supports smallest_answer
    smallest_at smallest_faults smallest_outcome smallest_sets alone carries clashes derives smaller_derives smallest ends least least_answer least_faults
    least_at entered entered_table entry_faults exactly_one false_or formulae_of none_of possible symbols_fit well_formed good_stack good_stacks stacked
    opened_with pop_faults popped push_faults pushed withdraw_faults_with withdrawn_with decimal digits_of at_close bracket_at closed from_mark go_on lead more
    unit_of whole_text spelled unit_text ruled_text ruled_text_table read_text_answer read_text_bytes read_text_faults read_text_outcome write_text_answer
    write_text_bytes write_text_faults write_text_outcome clause_faults clauses_faults one_of passed clauses_in counts_in header_in parse_text past_comments
    starts_with read_answer read_faults read_table text_faults literal_of number_of since up_to words_in clause_lines clauses_at literals_of spaced text_of text_on
    write_answer write_bytes write_faults write_outcome after answer outcome rules_after
the_definitions = tt
