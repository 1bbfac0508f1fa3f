-- `writing::write` meets its contract: its tests are the faults of `write_faults`, in their order, and what it puts is the text.
use Rattle.meaning.proofs.Kit.{sym, ◌≤◌, length, le-leb, leb-true}
use Rattle.literals.specs.declared.refusal.Refusal.TheVariants.{BadBoard, TableTooShort}
use Rattle.board.proofs.Goodness.{good_is}
use Rattle.dimacs.specs.Writing.{text_on, write_faults, write_outcome}
use Rattle.dimacs.proofs.TextBound.{text_most}
use Rattle.dimacs.proofs.Written.{write_done, write_refused}
use Rattle.dimacs.proofs.writing.write.Goals as goal

pub returns-then-not-good : goal.returns-then-not-good
unfolding write_outcome write_faults
returns-then-not-good c =
    let all = write_refused _ _ _ BadBoard (rw (sym c.if-not-good.ensures)) c.refused.ensures in
    record { value = all.0; out_after = all.1 }

pub fits-requires : goal.fits-requires
unfolding text_on
fits-requires c =
    let sound = (good_is _ _ (sym c.if-not-good.ensures)).sound in
    record { used_bound = (sound.rows, sound.room); table_len_bound = text_most _ _ (sym c.if-not-good.ensures) }

pub returns-then-not-fits : goal.returns-then-not-fits
unfolding write_outcome write_faults text_on
returns-then-not-fits c =
    let all = write_refused _ _ _ TableTooShort (rw (sym c.if-not-good.ensures, sym c.if-not-fits.ensures)) c.refused-then-not-fits.ensures in
    record { value = all.0; out_after = all.1 }

pub put_text-requires : goal.put_text-requires
unfolding text_on
put_text-requires c =
    let sound = (good_is _ _ (sym c.if-not-good.ensures)).sound in
    record { used_bound = (sound.rows, sound.room); table_in_bounds = leb-true _ _ (sym c.if-not-fits.ensures) }

pub returns : goal.returns
unfolding write_outcome write_faults text_on
returns c =
    let a = c.args in
    let fits : length (text_on a.table.now a.board) ≤ length a.out.now = leb-true _ _ (sym c.if-not-fits.ensures) in
    let all = write_done a.table.now a.board a.out.now (rw (sym c.if-not-good.ensures, le-leb _ _ fits)) fits c.put_text.ensures in
    record { value = all.0; out_after = all.1 }
