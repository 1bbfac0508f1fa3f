-- Text in quotes as bytes, for cases that are computed.
use Rattle.meaning.proofs.Kit.{List, [], ◌∷◌, ℕ}
use Prim.Native.Char.{code}
use Prim.Native.String.{String, [] as ends, ◌∷◌ as ◌then◌}

abbrev pub ascii : String → List ℕ
ascii ends = []
ascii (c then rest) = code c ∷ ascii rest
