-- How long the text of a formula can be: a symbol's number has three digits at most, and each level more takes two texts and three marks.
use Rattle.meaning.proofs.Kit.{◌≡◌, ap, true, ◌&&◌, List, [], ◌∷◌, ◌≤◌, ℕ, ◌+◌, suc, ◌*◌, zero, arith, leb, length, length-append, leb-true}
use Rattle.chains.proofs.Words.{Formula, Join, natural, pair, mark_of, unit_text, spelled}
use Rattle.meaning.proofs.Tests.{both_true}
use Rattle.formula.proofs.Steps.{Taken, one, not, two, taken}
use Rattle.spelling.proofs.Pieces.{natural_most}
use Rattle.chains.specs.Promises.{SpelledBound}
use Rattle.chains.proofs.Joins.{spelled_joined, unit_joined}

-- the most bytes of a unit of so many levels
abbrev most : ℕ → ℕ
most zero = 0
most (suc d) = 2 * most d + 3

pair_most : (join : Join) (f g : Formula) (n : ℕ) → length (unit_text f) ≤ n → length (unit_text g) ≤ n
    → length (pair (mark_of join) (unit_text f) (unit_text g)) ≤ 2 * n + 1
pair_most join f g n hf hg = omega (arith, length-append (unit_text f) (mark_of join ∷ unit_text g))

module _ {S : ℕ} (h : S ≤ 200) where
  number_most : (s : ℕ) → leb 1 s && leb s S ≡ true → length (natural s) ≤ 3
  number_most s fits = natural_most 2 s (omega (arith, leb-true s S (both_true (leb 1 s) (leb s S) fits).1))

  unit_most : {depth used : ℕ} {bytes : List ℕ} {f : Formula} → Taken S depth bytes f used → length (unit_text f) ≤ most depth
  unfolding unit_text
  unit_most (one {s = s} e fits) = omega (arith, number_most s fits)
  unit_most (not e t) = omega (arith, unit_most t)
  unit_most (two {d = d} {f = f} {g = g} {join = join} e t u) =
      let text = pair (mark_of join) (unit_text f) (unit_text g) in
      omega (arith, ap length (unit_joined f g join), length-append text (41 ∷ []), pair_most join f g (most d) (unit_most t) (unit_most u))

  whole_most : {d used : ℕ} {bytes : List ℕ} {f : Formula} → 1 ≤ most d → Taken S (suc d) bytes f used → length (spelled f) ≤ 2 * most d + 1
  unfolding spelled unit_text
  whole_most some (one {s = s} e fits) = omega (arith, number_most s fits)
  whole_most some (not e t) = omega (arith, unit_most t)
  whole_most {d} some (two {f = f} {g = g} {join = join} e t u) =
      omega (arith, ap length (spelled_joined f g join), pair_most join f g (most d) (unit_most t) (unit_most u))

pub spelled_bound : SpelledBound
spelled_bound S bytes f used h e = whole_most h {d = 15} (omega arith) (taken S e)
