-- The desk is where the bytes that were read so far bring it.
use Rattle.std.proofs.Common.{◌≡◌, ◌≤◌, ℕ, List, length}
use Rattle.std.specs.Io.KnownBytes.{Consumes}
use Rattle.names.specs.Names.{table_length}
use Rattle.saying.specs.Limits.{kept_length}
use Rattle.desk.specs.Sittings.{sat, starting, after_bytes}
use Rattle.desk.proofs.serve.Given as goal

abbrev pub invariant-loop : goal.invariant-loop
invariant-loop g l =
    (text : List ℕ)
    × (sat l.sitting l.table l.names l.line ≡ after_bytes (sat starting l.fn.table l.fn.names l.fn.line) text)
    × Consumes (g.R.Read.remaining l.fn.from) (g.R.Read.remaining l.from) text
    × (l.sitting.filled ≤ 502)
    × (length l.names ≡ table_length)
    × (length l.texts ≡ kept_length)
    × (length l.line ≡ 502)
    × (length l.input ≡ length l.fn.input)
