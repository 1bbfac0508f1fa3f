-- `naming::is_name` meets its contract: each test settles a part of it.
use Rattle.meaning.proofs.Kit.{◌∙◌, sym, arith, length, not-false, not-true, le-leb, lt-leb}
use Rattle.names.specs.Names.{is_name}
use Rattle.names.proofs.naming.is_name.Statement.{statement}
use Rattle.names.proofs.naming.is_name.Tie as tie

returns : tie.Need-returns-then-word-lt-FEWEST
unfolding is_name
returns c = let n = length c.args.word.now in rw (lt-leb 3 n (omega arith))

returns_2 : tie.Need-returns-then-word-gt-WIDTH
unfolding is_name
returns_2 c = let n = length c.args.word.now in rw (le-leb 3 n (omega arith), lt-leb n 24 (omega arith))

returns_3 : tie.Need-returns-then-not-is_letter
unfolding is_name
returns_3 c =
    let n = length c.args.word.now in
    rw (le-leb 3 n (omega arith), le-leb n 24 (omega arith), sym c.is_letter.ensures ∙ not-true _ c.if-not-is_letter.true-raw)

returns_4 : tie.Need-returns
unfolding is_name
returns_4 c =
    let n = length c.args.word.now in
    rw (le-leb 3 n (omega arith), le-leb n 24 (omega arith), sym c.is_letter.ensures ∙ not-false _ c.if-not-is_letter.false-raw, ← c.run.ensures)

pub is_name_spec : {M : Type 1} → statement M
is_name_spec = tie.close (tie.spec returns returns_2 (λ c. omega arith) (λ c κs. tt) returns_3 (λ c κs. tt) returns_4)
