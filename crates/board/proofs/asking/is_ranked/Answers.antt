-- A place has a rank exactly if it is among those below none.
use Rattle.meaning.proofs.Kit.{sym, ◌<◌, ◌≤◌, ◌*◌, ℕ, ℤ, List, arith, nat_abs, length}
use Rattle.meaning.specs.Tests.{none}
use Rattle.literals.specs.Literal.{place_of}
use Rattle.literals.proofs.Places.{place_bound}
use Rattle.findings.proofs.RankTables.{below_rank}
use Rattle.literals.proofs.Arguments.{place_is}
use Rattle.board.proofs.asking.is_ranked.Goals as goal

inside : (ranks : List ℕ) (l : ℤ) → 1 ≤ nat_abs l → 2 * nat_abs l ≤ length ranks → place_of l < length ranks
inside ranks l some most = omega (arith, place_bound (nat_abs l) l some (omega arith), most)

pub offset_bounds-ranks-place : goal.offset_bounds-ranks-place
offset_bounds-ranks-place c =
    omega (arith, place_is c.ranges.l _ c.place.ensures, inside c.args.ranks.now c.args.l c.requires.0 c.requires.1, c.requires.2)

pub bounds-ranks-place : goal.bounds-ranks-place
bounds-ranks-place c = omega (arith, place_is c.ranges.l _ c.place.ensures, inside c.args.ranks.now c.args.l c.requires.0 c.requires.1)

pub returns : goal.returns
returns c =
    rw (place_is c.ranges.l _ c.place.ensures)
    (sym (below_rank none c.args.ranks.now (place_of c.args.l) (inside c.args.ranks.now c.args.l c.requires.0 c.requires.1)))
