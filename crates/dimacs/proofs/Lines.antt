-- A clause as a line, a literal more at a time: how long it is, and how it is put into a buffer.
use Rattle.meaning.proofs.Kit.{◌≡◌, ap, refl, List, [], ◌∷◌, ◌++◌, append_assoc, ◌≤◌, ℕ, ◌<◌, ◌+◌, suc, zero, add-one, arith, ℤ, pos, length, get_or}
use Rattle.meaning.proofs.Kit.{take, set, length-append, take-suc}
use Rattle.spelling.specs.Text.{Put, literal}
use Rattle.spelling.proofs.Pieces.{put_one, put_put}
use Rattle.dimacs.specs.Writing.{clause_line, spaced, zero_end}

-- ---- no literal, and one more

pub spaced_none : (ls : List ℤ) → spaced (take 0 ls) ≡ []
unfolding spaced
spaced_none ls = refl

spaced_append : (a b : List ℤ) → spaced (a ++ b) ≡ spaced a ++ spaced b
unfolding spaced
spaced_append [] b = refl
spaced_append (l ∷ a) b = rw (spaced_append a b, append_assoc)

module _ (ls : List ℤ) (k : ℕ) (h : k < length ls) where
  -- literal k
  abbrev one : List ℕ
  one = literal (get_or ls k (pos 0))

  spaced_next : spaced (take (k + 1) ls) ≡ spaced (take k ls) ++ (one ++ (32 ∷ []))
  unfolding spaced
  spaced_next = rw (add-one, take-suc ls k (pos 0) h, spaced_append)

  pub spaced_size : length (spaced (take (k + 1) ls)) ≡ length (spaced (take k ls)) + (length one + 1)
  spaced_size = omega (arith, ap length spaced_next, length-append (spaced (take k ls)) (one ++ (32 ∷ [])), length-append one (32 ∷ []))

  pub spaced_put : {l m r : List ℕ} {at mid next : ℕ} → Put l m at (spaced (take k ls)) mid → Put m r mid one next
      → Put l (set r next 32) at (spaced (take (k + 1) ls)) (next + 1)
  spaced_put {l} {m} {r} {at} {mid} {next} p q =
      rw spaced_next (put_put (spaced (take k ls)) (one ++ (32 ∷ [])) p (put_put one (32 ∷ []) q (put_one r next 32)))

-- some literals take no more than all
pub spaced_most : (ls : List ℤ) (k : ℕ) → length (spaced (take k ls)) ≤ length (spaced ls)
unfolding spaced
spaced_most ls zero = omega arith
spaced_most [] (suc k) = omega arith
spaced_most (l ∷ ls) (suc k) =
    omega (arith, length-append (literal l) (32 ∷ spaced (take k ls)), length-append (literal l) (32 ∷ spaced ls), spaced_most ls k)

-- ---- the line's end

pub line_size : (ls : List ℤ) → length (clause_line ls) ≡ length (spaced ls) + 2
line_size ls = length-append (spaced ls) zero_end

pub line_put : (ls : List ℤ) {l m : List ℕ} {at next : ℕ} → Put l m at (spaced ls) next
    → Put l (set (set m next 48) (next + 1) 10) at (clause_line ls) (next + 2)
line_put ls {l} {m} {at} {next} p =
    let end : Put m (set (set m next 48) (next + 1) 10) next zero_end (next + 2) = record { written = rw add-one; ends = refl } in
    put_put (spaced ls) zero_end p end
