-- `literals::place` meets its contract: either way out gives the literal's place, a small number.
use Rattle.meaning.proofs.Kit.{◌<◌, arith}
use Rattle.literals.specs.Literal.{place_of}
use Rattle.literals.proofs.Signed.{small_read}
use Rattle.literals.proofs.Places.{place_positive, place_negative, place_bound}
use Rattle.literals.proofs.place.Goals as goal

pub returns-then-l-gt0 : goal.returns-then-l-gt0
returns-then-l-gt0 c =
    let low : place_of c.args.l < 65536 = omega (arith, place_bound 200 c.args.l c.requires.0 c.requires.1) in
    small_read (place_positive c.ranges.l c.if-l-gt0.true) low

pub returns-else-l-gt0 : goal.returns-else-l-gt0
returns-else-l-gt0 c =
    let low : place_of c.args.l < 65536 = omega (arith, place_bound 200 c.args.l c.requires.0 c.requires.1) in
    small_read (place_negative c.ranges.l c.requires.0 c.if-l-gt0.false) low
