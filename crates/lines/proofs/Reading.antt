-- What the bytes of a command say: the length of its formula, and the literal in two bytes.
use Rattle.meaning.proofs.Kit.{◌≡◌, ◌∙◌, ap, List, ◌≤◌, ℕ, ◌<◌, ◌-◌, ◌+◌, ◌*◌, ◌^◌, arith, ℤ, pos, negsuc, ◌-ℤ◌, length, get_or, w16, SFits, to_z, of_z}
use Rattle.meaning.proofs.Kit.{to_z-of_z, to_z_pos, sfits_of, lt-ltb, le-ltb}
use lib.Signed.{mag}
use mir.Syntax.{w32}
use mir.Val.{hbits}
use Rattle.formula.specs.Parse.{Parsed, good, bad, levels, parse}
use Rattle.formula.specs.Answers.{read_of, used_of}
use Rattle.std.specs.Prelude.{Ok, Err}
use Rattle.formula.specs.declared.reading.Break.{Break}
use Rattle.formula.proofs.Extents.{parse_used}
use Rattle.lines.specs.Commands.{formula_length, length_of, literal_in}

-- ---- the formula

-- a good formula is as long as reading it says
pub length_good : (p : Parsed) (rest n : ℕ) → read_of p ≡ Ok n → length_of rest p ≡ n
length_good (good f used) rest n e = cc
length_good (bad why at) rest n e = cc

-- of a faulty one all bytes are tried
pub length_bad : (p : Parsed) (rest : ℕ) {at : Break} → read_of p ≡ Err at → length_of rest p ≡ rest
length_bad (good f used) rest e = cc
length_bad (bad why place) rest e = cc

pub formula_most : (S : ℕ) (body : List ℕ) → formula_length S body ≤ length body
unfolding formula_length
formula_most S body = go (parse S levels body) (parse_used S levels body)
  where
    go : (p : Parsed) → used_of p ≤ length body → length_of (length body) p ≤ length body
    go (good f used) h = h
    go (bad why at) h = omega arith

-- ---- the literal

-- the number that two bytes make, low byte first
abbrev pub two_bytes : List ℕ → ℕ
two_bytes body = get_or body 0 0 + 256 * get_or body 1 0

pub literal_low : (body : List ℕ) → two_bytes body < 32768 → to_z w16 (two_bytes body) ≡ literal_in body
unfolding literal_in
literal_low body h = rw (lt-ltb (two_bytes body) 32768 h)

-- 65536 less, in 32 bits
module _ (n : ℕ) (high : 32768 ≤ n) (small : n < 65536) where
  lowered : to_z w32 n -ℤ pos 65536 ≡ negsuc (65535 - n)
  lowered = rw (to_z_pos w32 {n = n} (omega arith), lt-ltb n 65536 small) (ap negsuc (omega arith))

  pub lowered_fits : SFits w32 (to_z w32 n -ℤ pos 65536)
  lowered_fits = rw lowered (record { sfits = omega arith })

  pub cut_fits : SFits w16 (to_z w32 (of_z w32 (to_z w32 n -ℤ pos 65536)))
  cut_fits = rw (to_z-of_z lowered_fits, lowered) (record { sfits = omega arith })

  pub cut_is : to_z w16 (of_z w16 (to_z w32 (of_z w32 (to_z w32 n -ℤ pos 65536)))) ≡ negsuc (65535 - n)
  cut_is = to_z-of_z cut_fits ∙ to_z-of_z lowered_fits ∙ lowered

pub literal_high : (body : List ℕ) → 32768 ≤ two_bytes body → literal_in body ≡ negsuc (65535 - two_bytes body)
unfolding literal_in
literal_high body h = rw (le-ltb (two_bytes body) 32768 h)

-- a literal that was read, as the machine reads it back
pub read_back : {l z : ℤ} → mag l < 2 ^ hbits w16 → l ≡ z → to_z w16 (of_z w16 l) ≡ z
read_back {l} fits e = to_z-of_z (sfits_of {w = w16} {z = l} fits) ∙ e
