-- `main` is safe: each buffer is as long as `serve` asks.
use Rattle.std.proofs.Common.{◌≡◌, sym, ℕ, arith, length, replicate}
use Rattle.std.proofs.lemmas.List.{length-replicate}
use Rattle.desk.proofs.main.Goals as goal

-- a buffer of n zeros, whose length is not computed
zeros : (n : ℕ) → length (replicate {0} {A = ℕ} n 0) ≡ n
zeros n = length-replicate n 0

pub slice_bounds-serve-end-3 : goal.slice_bounds-serve-end-3
slice_bounds-serve-end-3 c = sym (zeros 1024000)

pub serve-requires : goal.serve-requires
serve-requires c = (zeros 4800, zeros 1024000, zeros 502, simp length-replicate (omega arith))
