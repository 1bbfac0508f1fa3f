-- `lines::saying::step` meets its contract: the line's pieces, one after the other.
use Rattle.meaning.proofs.Kit.{◌≡◌, List, ◌≤◌, ℕ, ◌+◌, arith, length}
use mir.Syntax.{w64}
use mir.Val.{Fits}
use Rattle.spelling.specs.Text.{Put, natural}
use Rattle.spelling.proofs.Pieces.{natural_most, put_length}
use Rattle.lines.specs.Commands.{word_of}
use Rattle.lines.specs.declared.commands.Command.{Command}
use Rattle.lines.proofs.Bodies.{word_most}
use Rattle.lines.proofs.Lines.{line_did, line_table}
use Rattle.lines.proofs.saying.step.Goals as goal

-- where the word, the text and the line's end go: there is room for what follows
word_at : {before after : List ℕ} {ordinal word : ℕ} → Fits w64 ordinal → Put before after 0 (natural ordinal) word
    → (word ≤ 20) × (length after ≡ length before)
word_at {ordinal = ordinal} f e = (omega (arith, e.ends, natural_most 19 ordinal (omega (arith, f.fits))), put_length e)

text_at : (command : Command) {before after : List ℕ} {word text : ℕ} → Put before after word (word_of command) text
    → (text ≤ word + 5) × (length after ≡ length before)
text_at command e = (omega (arith, e.ends, word_most command), put_length e)

pub put_natural-word-requires : goal.put_natural-word-requires
put_natural-word-requires c = omega (arith, natural_most 19 c.args.ordinal (omega (arith, c.ranges.ordinal)))

pub put_command-text-requires : goal.put_command-text-requires
put_command-text-requires c = let w = word_at c.ranges.ordinal c.put_natural-word.ensures in omega (arith, w.0, w.1)

pub say_command-done-requires : goal.say_command-done-requires
say_command-done-requires c =
    let w = word_at c.ranges.ordinal c.put_natural-word.ensures in
    let t = text_at c.from-command.result c.put_command-text.ensures in
    omega (arith, w.0, w.1, t.0, t.1)

pub put_word-written-requires : goal.put_word-written-requires
put_word-written-requires c =
    let w = word_at c.ranges.ordinal c.put_natural-word.ensures in
    let t = text_at c.from-command.result c.put_command-text.ensures in
    omega (arith, w.0, w.1, t.0, t.1, c.say_command-done.ensures.written_bound, put_length c.say_command-done.ensures.did.put)

pub returns-clause-did : goal.returns-clause-did
returns-clause-did c =
    line_did c.args.ordinal c.args.board c.args.table.now c.args.input.now c.from-command.ensures c.put_natural-word.ensures
    c.put_command-text.ensures c.say_command-done.ensures.did c.put_word-written.ensures

pub returns-clause-table_after : goal.returns-clause-table_after
returns-clause-table_after c =
    line_table c.args.ordinal c.args.board c.args.table.now c.args.input.now c.from-command.ensures c.say_command-done.ensures.table_after

pub returns-clause-written_bound : goal.returns-clause-written_bound
returns-clause-written_bound c =
    let w = word_at c.ranges.ordinal c.put_natural-word.ensures in
    let t = text_at c.from-command.result c.put_command-text.ensures in
    omega (arith, w.0, t.0, c.say_command-done.ensures.written_bound, c.put_word-written.ensures.ends)
