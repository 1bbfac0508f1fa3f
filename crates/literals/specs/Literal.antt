-- 01: "A literal is a signed whole number: +s says that symbol s is true, −s that it is false." 0 is no literal.
-- `pos n` is n, `negsuc k` is −(k + 1), and `nat_abs l` is |l|, the number of the literal's symbol.
use Rattle.std.specs.Prelude.{ℕ, suc, ◌/◌, ◌%◌, Bool, true, false, cond, ◌&&◌, leb, eqb, ℤ, pos, negsuc, nat_abs}
use Rattle.meaning.specs.Literals.{place}

-- l is a literal of one of the symbols 1 to S: refusal 2 is for "a literal or symbol" that "is 0 or beyond S"
abbrev pub in_range : ℕ → ℤ → Bool
in_range S l = leb 1 (nat_abs l) && leb (nat_abs l) S

-- the place of a literal
unfoldable pub place_of : ℤ → ℕ
place_of (pos s) = place s true
place_of (negsuc k) = place (suc k) false

-- the literal at a place
unfoldable pub literal_at : ℕ → ℤ
literal_at p = cond (eqb (p % 2) 0) (pos (suc (p / 2))) (negsuc (p / 2))
