-- `emitting::emit` meets its contract.
use Rattle.meaning.proofs.Kit.{arith}
use Rattle.chains.proofs.Emitted.{emitted, emitted_room}
use Rattle.chains.proofs.emitting.emit.Goals as goal

pub write_chain-requires : goal.write_chain-requires
write_chain-requires c = omega (arith, emitted_room c.args.text.now c.requires, c.well_formed.0.1)

pub returns : goal.returns
returns c = rw (emitted c.args.text.now c.requires) at c.write_chain.ensures
