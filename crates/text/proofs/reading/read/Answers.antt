-- `reading::read` meets its contract: its tests are the faults of `read_text_faults`, in their order.
use Rattle.meaning.proofs.Kit.{sym, ap, refl, ◌≤◌, arith, length, le-leb, lt-leb}
use Rattle.literals.specs.declared.refusal.Refusal.TheVariants.{BadBoard, TableTooShort}
use Rattle.chains.proofs.Words.{whole_text}
use Rattle.formula.proofs.Parsing.{answer_good, answer_bad}
use Rattle.formula.proofs.OwnBytes.{whole_long}
use Rattle.std.specs.Prelude.{Err}
use Rattle.chains.proofs.Offences.{first_offence}
use Rattle.text.specs.Reading.{bytes_in, read_in, read_text_faults, read_text_outcome}
use Rattle.text.proofs.ReadText.{read_good, text_place_lem, bytes_place, read_refused, read_done}
use Rattle.text.proofs.reading.read.Goals as goal

pub returns-then-not-good : goal.returns-then-not-good
unfolding read_text_outcome read_text_faults
returns-then-not-good c =
    let a = c.args in
    let all = read_refused a.table.now a.board a.text.now a.out.now BadBoard (rw (sym c.if-not-good.ensures)) refl c.refused.ensures in
    record { value = all.0; out_after = all.1 }

pub returns-in-Err : goal.returns-in-Err
unfolding read_text_outcome read_text_faults
returns-in-Err c =
    let a = c.args in
    let why = c.in-Err.at.why in
    let e = answer_bad (whole_text a.text.now) (sym c.in-Err.ensures) in
    let only = (first_offence a.text.now why c.in-Err.at.place e).0 in
    let place = text_place_lem a.board.symbols a.text.now e in
    let all = read_refused a.table.now a.board a.text.now a.out.now why (rw (sym c.if-not-good.ensures, e) (ap Err (sym only))) place c.refused-in-Err.ensures in
    record { value = all.0; out_after = all.1 }

pub returns-in-Err-judge : goal.returns-in-Err-judge
unfolding read_text_outcome read_text_faults
returns-in-Err-judge c =
    let a = c.args in
    let keeps = read_good (whole_text a.text.now) c.in-Ok.ensures in
    let e = answer_bad (read_in a.board.symbols a.text.now) (sym c.in-Err-judge.ensures) in
    let place = bytes_place a.board.symbols a.text.now e in
    let all = read_refused a.table.now a.board a.text.now a.out.now c.in-Err-judge.at.why (rw (sym c.if-not-good.ensures, keeps, e)) place
    c.refused-in-Err-judge.ensures in
    record { value = all.0; out_after = all.1 }

pub returns-then-out-size : goal.returns-then-out-size
unfolding read_text_outcome read_text_faults
returns-then-out-size c =
    let a = c.args in
    let keeps = read_good (whole_text a.text.now) c.in-Ok.ensures in
    let reads = read_good (read_in a.board.symbols a.text.now) c.in-Ok-judge.ensures in
    let long = whole_long a.board.symbols (bytes_in a.text.now) (answer_good (read_in a.board.symbols a.text.now) (sym c.in-Ok-judge.ensures)).1 in
    let small = lt-leb (length (bytes_in a.text.now)) (length a.out.now) (omega (arith, long)) in
    let all = read_refused a.table.now a.board a.text.now a.out.now TableTooShort (rw (sym c.if-not-good.ensures, keeps, reads, small)) refl
    c.refused-then-out-size.ensures in
    record { value = all.0; out_after = all.1 }

pub returns-else-out-size : goal.returns-else-out-size
unfolding read_text_outcome read_text_faults
returns-else-out-size c =
    let a = c.args in
    let keeps = read_good (whole_text a.text.now) c.in-Ok.ensures in
    let reads = read_good (read_in a.board.symbols a.text.now) c.in-Ok-judge.ensures in
    let long = whole_long a.board.symbols (bytes_in a.text.now) (answer_good (read_in a.board.symbols a.text.now) (sym c.in-Ok-judge.ensures)).1 in
    let fits : length (bytes_in a.text.now) ≤ length a.out.now = omega (arith, long) in
    let room = le-leb (length (bytes_in a.text.now)) (length a.out.now) fits in
    let all = read_done a.table.now a.board a.text.now a.out.now (rw (sym c.if-not-good.ensures, keeps, reads, room)) fits c.emit.ensures refl in
    record { value = all.0; out_after = all.1 }
