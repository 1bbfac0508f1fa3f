-- `taking::add_typed` meets its contract: the text in its room is the text typed, with its names replaced.
use Rattle.meaning.proofs.Kit.{rules}
use Rattle.names.specs.Replacing.{replaced}
use Rattle.orders.proofs.Carried.{ruled_does}
use Rattle.orders.proofs.Typed.{padded_whole}
use Rattle.orders.proofs.taking.add_typed.Statement.{statement}
use Rattle.orders.proofs.taking.add_typed.Tie as tie

returns : tie.Need-returns
returns c =
    let a = c.args in
    rw (c.of_addition.ensures, c.add_text-addition.ensures.0, c.add_text-addition.ensures.1, c.replace.ensures, c.put.ensures, c.requires.1, padded_whole)
    (ruled_does a.desk a.table.now a.names.now (replaced a.names.now a.typed.now))

pub add_typed_spec : {M : Type 1} → statement M
add_typed_spec = tie.close (tie.spec
    (λ c κs. search rules) (λ c κs. search rules) (λ c κs. search rules) (λ c κs. search rules) (λ c. search rules) (λ c. search rules) returns)
