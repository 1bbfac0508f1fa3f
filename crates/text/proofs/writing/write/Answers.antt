-- `writing::write` meets its contract: its tests are the faults of `write_text_faults`, in their order.
use Rattle.meaning.proofs.Kit.{sym, refl}
use Rattle.literals.specs.declared.refusal.Refusal.TheVariants.{BadBoard}
use Rattle.chains.proofs.Words.{whole_of}
use Rattle.formula.proofs.Parsing.{answer_bad}
use Rattle.board.proofs.Adding.{place_told_lem}
use Rattle.board.proofs.Goodness.{good_is}
use Rattle.text.specs.Writing.{write_text_faults, write_text_outcome, write_text_answer, write_text_bytes}
use Rattle.text.proofs.ReadText.{read_good}
use Rattle.text.proofs.WrittenText.{write_refused, write_by_room}
use Rattle.text.proofs.writing.write.Goals as goal

pub returns-then-not-good : goal.returns-then-not-good
unfolding write_text_outcome write_text_faults
returns-then-not-good c =
    let a = c.args in
    let all = write_refused a.table.now a.board a.bytes.now a.out.now BadBoard (rw (sym c.if-not-good.ensures)) refl c.refused.ensures in
    record { value = all.0; out_after = all.1 }

pub write_formula-requires : goal.write_formula-requires
write_formula-requires c =
    let a = c.args in (
      (good_is a.table.now a.board (sym c.if-not-good.ensures)).sound.symbols,
      read_good (whole_of a.board.symbols a.bytes.now) c.in-Ok.ensures,
    )

pub returns-in-Err : goal.returns-in-Err
unfolding write_text_outcome write_text_faults
returns-in-Err c =
    let a = c.args in
    let e = answer_bad (whole_of a.board.symbols a.bytes.now) (sym c.in-Err.ensures) in
    let place = place_told_lem a.board.symbols a.bytes.now e in
    let all = write_refused a.table.now a.board a.bytes.now a.out.now c.in-Err.at.why (rw (sym c.if-not-good.ensures, e)) place c.refused-in-Err.ensures in
    record { value = all.0; out_after = all.1 }

pub returns-in-Ok : goal.returns-in-Ok
unfolding write_text_answer write_text_bytes
returns-in-Ok c =
    let a = c.args in
    let read = read_good (whole_of a.board.symbols a.bytes.now) c.in-Ok.ensures in
    let same = write_by_room a.table.now a.board a.bytes.now a.out.now (sym c.if-not-good.ensures) read in
    record { value = rw same c.write_formula.ensures.value; out_after = rw same c.write_formula.ensures.out_after }
