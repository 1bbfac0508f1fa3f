-- The loop of `pieces::put_hex`: the bytes before this one are put.
use Rattle.meaning.proofs.Kit.{◌≡◌, ◌+◌, ◌*◌, take}
use Rattle.spelling.specs.Text.{Put}
use Rattle.spell.specs.Shown.{hex_spaced}
use Rattle.spell.proofs.pieces.put_hex.Given as goal

abbrev pub invariant-loop-byte : goal.invariant-loop-byte
invariant-loop-byte l = Put l.fn.out l.out l.at (hex_spaced (take l.byte-index l.bytes)) l.next × (l.next ≡ l.at + 3 * l.byte-index)
