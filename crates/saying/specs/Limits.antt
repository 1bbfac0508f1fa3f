-- The desk's request has "text of rules kept": that of 2,048 rules, of 500 bytes each.
use Rattle.std.specs.Prelude.{ℕ}

abbrev pub kept_length : ℕ
kept_length = 1024000
