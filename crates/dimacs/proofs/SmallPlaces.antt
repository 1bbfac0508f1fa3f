-- The places of a clause whose literals are of a board's symbols: each is one of the 400 that a board has at most.
use Rattle.meaning.proofs.Kit.{◌≡◌, true, List, [], in_of_map, ◌≤◌, ℕ, arith, ltb, ℤ, lt-ltb}
use Rattle.meaning.specs.Tests.{all}
use Rattle.meaning.proofs.Tests.{all_at, all_of}
use Rattle.literals.specs.Literal.{in_range, place_of}
use Rattle.literals.proofs.Arguments.{place_fits}
use Rattle.dimacs.specs.Gathering.{gathered}
use Rattle.dimacs.proofs.GatheredPlaces.{gathered_in}

pub places_small : (S : ℕ) (c : List ℤ) → S ≤ 200 → all (in_range S) c ≡ true → all (λ p. ltb p 400) (gathered [] c) ≡ true
places_small S c most e =
    all_of (λ p. ltb p 400) (gathered [] c)
    (λ p m.
    let r = in_of_map place_of c (gathered_in c p m) in
    lt-ltb p 400 (omega (arith, place_fits S r.0 (all_at (in_range S) e r.1), r.2)))
