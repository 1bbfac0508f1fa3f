-- Blame tells whether a conflict is left, and what it stands on.
use Rattle.std.proofs.Common.{refl, List, ℕ, ◌*◌, arith}
use Rattle.meaning.proofs.Kit.{replicate}
use Rattle.board.proofs.Goodness.{good_is}
use Rattle.candidates.proofs.Places.{low_more}
use Rattle.least.proofs.Cores.{leaves_told, ends_told}
use Rattle.least.proofs.effects.effect_of.Goals as goal

pub struck_off-requires : goal.struck_off-requires
struck_off-requires c =
    let a = c.args in
    let high = (good_is a.table.now a.board c.requires.board_value.0).sound.symbols in
    (c.requires.board_value.1, low_more (2 * a.board.symbols) 400 a.places.now (omega arith) c.requires.places_len_bound.1)

pub marked-requires : goal.marked-requires
marked-requires c =
    let a = c.args in
    let high = (good_is a.table.now a.board c.requires.board_value.0).sound.symbols in
    (c.requires.places_len_bound.0, low_more (2 * a.board.symbols) _ a.places.now (omega (arith, c.blame.auto.marks)) c.requires.places_len_bound.1)

-- nothing is marked yet
abbrev unmarked : List ℕ
unmarked = replicate 400 0

pub returns-in-Ok : goal.returns-in-Ok
returns-in-Ok c =
    let a = c.args in
    leaves_told a.table.now a.board a.furnace a.places.now a.set c.requires.board_value.0 c.requires.board_value.1 c.requires.places_len_bound.1
    unmarked refl c.struck_off.ensures c.blame.ensures.value c.in-Ok.is c.blame.ensures.marks_after c.marked.ensures

pub returns-in-Err : goal.returns-in-Err
returns-in-Err c =
    let a = c.args in
    ends_told a.table.now a.board a.furnace a.places.now a.set c.requires.board_value.0 c.requires.board_value.1 c.requires.places_len_bound.1
    unmarked refl c.struck_off.ensures c.blame.ensures.value c.in-Err.is
