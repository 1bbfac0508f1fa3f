-- Laws of answers: of a part's answer in the whole, and of a bracket's from its chain's.
use Rattle.meaning.proofs.Kit.{◌≡◌, ap, refl, true, false, cond, List, [], ◌∷◌, ℕ, ◌+◌, arith, eqb, drop}
use Rattle.chains.proofs.Words.{BadText, Formula, Parsed, good, bad, at_close, closed, lead, read_of, past, close_answer, closed_answer, Blank}
use Rattle.chains.proofs.Words.{Result, Break, Ok, Err, broken}

pub past_zero : (a : Result ℕ Break) → a ≡ past 0 a
past_zero (Ok n) = let e : n ≡ 0 + n = omega arith in ap Ok e
past_zero (Err b) = let e : b.place ≡ 0 + b.place = omega arith in ap (broken b.why) e

pub past_past : (m n k : ℕ) (a : Result ℕ Break) → m + n ≡ k → past m (past n a) ≡ past k a
past_past m n k (Ok i) h = let e : m + (n + i) ≡ k + i = omega arith in ap Ok e
past_past m n k (Err b) h = let e : m + (n + b.place) ≡ k + b.place = omega arith in ap (broken b.why) e

close_read : (f : Formula) (used : ℕ) (rest : List ℕ) → read_of (at_close f used rest) ≡ close_answer used rest
unfolding at_close close_answer
close_read f used [] = refl
close_read f used (c ∷ rest) =
    let n = used + 1 + lead Blank rest in
    elim (eqb c 41) as (λ b. read_of (cond b (good f n) (bad BadText used)) ≡ cond b (Ok n) (broken BadText used)) [ true ↦ refl | false ↦ refl ]

pub closed_read : (inner : List ℕ) (p : Parsed) → read_of (closed inner p) ≡ closed_answer inner (read_of p)
unfolding closed
closed_read inner (good f used) = close_read f used (drop used inner)
closed_read inner (bad why at) = refl
