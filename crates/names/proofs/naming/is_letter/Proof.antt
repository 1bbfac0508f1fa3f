-- `naming::is_letter` meets its contract: each test settles a bound.
use Rattle.meaning.proofs.Kit.{arith, le-leb, lt-leb}
use Rattle.names.proofs.naming.is_letter.Statement.{statement}
use Rattle.names.proofs.naming.is_letter.Tie as tie

returns : tie.Need-returns-then-byte-lt65
returns c = let b = c.args.byte in rw (lt-leb 65 b (omega arith), lt-leb 97 b (omega arith))

returns_2 : tie.Need-returns-then-byte-le90
returns_2 c = let b = c.args.byte in rw (le-leb 65 b (omega arith), le-leb b 90 (omega arith))

returns_3 : tie.Need-returns-then-byte-lt97
returns_3 c = let b = c.args.byte in rw (le-leb 65 b (omega arith), lt-leb b 90 (omega arith), lt-leb 97 b (omega arith))

returns_4 : tie.Need-returns
returns_4 c = let b = c.args.byte in rw (le-leb 65 b (omega arith), lt-leb b 90 (omega arith), le-leb 97 b (omega arith))

pub is_letter_spec : {M : Type 1} → statement M
is_letter_spec = tie.close (tie.spec returns returns_2 returns_3 returns_4)
