-- A turn of each loop that puts what is shown onto a page.
use Rattle.meaning.proofs.Kit.{◌≡◌, ◌∙◌, ap, refl, List, [], ◌∷◌, ◌≤◌, ℕ, ◌<◌, ◌+◌, ◌/◌, ◌%◌, arith, length, get_or, drop, take, replicate, set}
use Rattle.meaning.proofs.Kit.{length-drop, length-replicate, length-take}
use borrow.Rule.Slice.PartMut.{put_mid}
use Rattle.spelling.specs.Text.{Put}
use Rattle.spelling.proofs.Pieces.{each_put, put_three, put_whole}
use Rattle.spell.specs.Shown.{hex_digit, hex_spaced}

-- ---- bytes in hex

pub hex_none : (bytes : List ℕ) → hex_spaced (take 0 bytes) ≡ []
unfolding hex_spaced
hex_none bytes = refl

pub hex_put : (bytes : List ℕ) (k : ℕ) {l m : List ℕ} {at mid high low : ℕ} → k < length bytes → high ≡ hex_digit (get_or bytes k 0 / 16)
    → low ≡ hex_digit (get_or bytes k 0 % 16) → Put l m at (hex_spaced (take k bytes)) mid
    → Put l (set (set (set m mid 32) (mid + 1) high) (mid + 2) low) at (hex_spaced (take (k + 1) bytes)) (mid + 3)
unfolding hex_spaced
hex_put bytes k {l} {m} {at} {mid} {high} {low} h high_is low-is p =
    let last = put_three m mid 32 (hex_digit (get_or bytes k 0 / 16)) (hex_digit (get_or bytes k 0 % 16)) in
    rw (high_is, low-is) (each_put 0 (λ b. 32 ∷ hex_digit (b / 16) ∷ hex_digit (b % 16) ∷ []) hex_spaced refl (λ b bs. refl) bytes k h p last)

-- ---- blanks

-- a part of the page that is filled with them
pub blanks_put : (l : List ℕ) (at n k : ℕ) (part : List ℕ) → at + n ≤ length l → k ≡ n → part ≡ replicate (length (take k (drop at l))) 32
    → Put l (put_mid at k l part) at (replicate n 32) (at + n)
blanks_put l at n k part room same is =
    let long : length (replicate {A = ℕ} n 32) ≡ n = length-replicate {A = ℕ} n 32 in
    let lent : length (take k (drop at l)) ≡ n = omega (arith, length-take k (drop at l), length-drop at l) in
    let all = is ∙ ap (λ (m : ℕ). replicate {A = ℕ} m 32) lent in
    rw long at (put_whole l (replicate {A = ℕ} n 32) at k part (omega (arith, long)) (omega (arith, long)) all)
