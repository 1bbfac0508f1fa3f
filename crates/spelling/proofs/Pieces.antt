-- Decimal numbers, digit by digit, and pieces of a line one after the other.
use Rattle.meaning.proofs.Kit.{◌≡◌, ◌∙◌, sym, ap, refl, subst, true, false, Bool, List, [], ◌∷◌, ◌++◌, append-nil, append_assoc, ◌≤◌, ℕ, ◌<◌, ◌+◌}
use Rattle.meaning.proofs.Kit.{suc, ◌*◌, zero, ◌/◌, ◌%◌, add-one, arith, ltb, T, ℤ, pos, nat_abs, negsuc, lt_z, length, get_or, take, set, map, length-append}
use Rattle.meaning.proofs.Kit.{take-suc, take_all, sets-eq, w16, SFits, to_z-of_z, ltb-true, lt-ltb, le-ltb, ltb-false}
use lib.Seq.{length-sets}
use Rattle.meaning.proofs.Tables.{sets_append}
use borrow.Rule.Slice.PartMut.{put_mid}
use Rattle.std.proofs.lemmas.Slice.{put_mid-paste}
use Rattle.spelling.specs.Text.{Put, digits_of, literal, literal_list, marked, natural, shown}
use Rattle.literals.proofs.Signed.{back}

-- ---- decimal numbers

digits_short : (steps n : ℕ) → n < 10 → digits_of (suc steps) n ≡ (48 + n) ∷ []
unfolding digits_of
digits_short steps n h = rw (lt-ltb n 10 h)

digits_long : (steps n : ℕ) → 10 ≤ n → digits_of (suc steps) n ≡ digits_of steps (n / 10) ++ ((48 + n % 10) ∷ [])
unfolding digits_of
digits_long steps n h = rw (le-ltb n 10 h)

-- as many steps as there are tens, and any more, give the same digits
digits_enough : (f g n : ℕ) → n < f → n < g → digits_of f n ≡ digits_of g n
digits_enough zero g n hf hg = absurd (omega arith)
digits_enough (suc f) zero n hf hg = absurd (omega arith)
digits_enough (suc f) (suc g) n hf hg = go (ltb n 10) refl (λ h. digits_enough f g (n / 10) (omega arith) (omega arith))
  where
    go : (t : Bool) → ltb n 10 ≡ t → (10 ≤ n → digits_of f (n / 10) ≡ digits_of g (n / 10)) → digits_of (suc f) n ≡ digits_of (suc g) n
    go true e rest = let h = ltb-true n 10 e in digits_short f n h ∙ sym (digits_short g n h)
    go false e rest = let h = ltb-false n 10 e in digits_long f n h ∙ rw (rest h) (sym (digits_long g n h))

pub natural_short : (n : ℕ) → n < 10 → natural n ≡ (48 + n) ∷ []
natural_short n h = digits_short n n h

pub natural_long : (n : ℕ) → 10 ≤ n → natural n ≡ natural (n / 10) ++ ((48 + n % 10) ∷ [])
natural_long n h = digits_long n n h ∙ rw (digits_enough n (suc (n / 10)) (n / 10) (omega arith) (omega arith))

pub natural_longer : (n : ℕ) → 10 ≤ n → length (natural n) ≡ length (natural (n / 10)) + 1
natural_longer n h = ap length (natural_long n h) ∙ length-append (natural (n / 10)) ((48 + n % 10) ∷ [])

-- two digits, and three
pub natural_two : (n : ℕ) → 10 ≤ n → n < 100 → natural n ≡ (48 + n / 10) ∷ (48 + n % 10) ∷ []
natural_two n h short = natural_long n h ∙ rw (natural_short (n / 10) (omega arith))

pub natural_three : (n : ℕ) → 100 ≤ n → n < 1000 → natural n ≡ (48 + n / 100) ∷ (48 + n / 10 % 10) ∷ (48 + n % 10) ∷ []
natural_three n h short =
    let tens : n / 10 / 10 ≡ n / 100 = omega arith in
    natural_long n (omega arith) ∙ rw (natural_two (n / 10) (omega arith) (omega arith), tens)

-- ---- pieces

-- nothing
pub put_none : (l : List ℕ) (at : ℕ) → Put l l at [] at
put_none l at = record { written = refl; ends = omega arith }

-- one byte
pub put_one : (l : List ℕ) (at v : ℕ) → Put l (set l at v) at (v ∷ []) (at + 1)
put_one l at v = record { written = refl; ends = refl }

-- two bytes, and three
pub put_two : (l : List ℕ) (at v w : ℕ) → Put l (set (set l at v) (at + 1) w) at (v ∷ w ∷ []) (at + 2)
put_two l at v w = record { written = rw add-one; ends = refl }

pub put_three : (l : List ℕ) (at v w x : ℕ) → Put l (set (set (set l at v) (at + 1) w) (at + 2) x) at (v ∷ w ∷ x ∷ []) (at + 3)
put_three l at v w x =
    let one : at + 1 ≡ suc at = omega arith in
    let two : at + 2 ≡ suc (suc at) = omega arith in
    record { written = rw (one, two); ends = refl }

-- one piece after another
pub put_put : {l m r : List ℕ} {at mid next : ℕ} (a b : List ℕ) → Put l m at a mid → Put m r mid b next → Put l r at (a ++ b) next
put_put {l} {m} {r} {at} {mid} {next} a b p q = record {
  written = q.written ∙ rw (p.written, p.ends) (sym (sets_append l at a b));
  ends = omega (arith, q.ends, p.ends, length-append a b);
}

-- a piece leaves the buffer as long as it was
pub put_length : {l m : List ℕ} {at next : ℕ} {a : List ℕ} → Put l m at a next → length m ≡ length l
put_length {l} {m} {at} {next} {a} p = ap length p.written ∙ length-sets l at a

-- ---- literals, by the test `l < 0`

neg_text : (l : ℤ) → lt_z l (pos 0) ≡ true → literal l ≡ 45 ∷ natural (nat_abs l)
neg_text (pos n) e = absurd (omega (arith, ltb-true n 0 e))
neg_text (negsuc k) e = refl

pos_text : (l : ℤ) → lt_z l (pos 0) ≡ false → literal l ≡ natural (nat_abs l)
pos_text (pos n) e = refl
pos_text (negsuc k) e = absurd (subst T e tt)

module _ {l : ℤ} (f : SFits w16 l) (n : ℕ) (is : n ≡ nat_abs (back l)) where
  pub literal_neg : lt_z (back l) (pos 0) ≡ true → literal l ≡ 45 ∷ natural n
  literal_neg e = rw (is, to_z-of_z f) (neg_text l (rw (to_z-of_z f) at e))

  pub literal_pos : lt_z (back l) (pos 0) ≡ false → literal l ≡ natural n
  literal_pos e = rw (is, to_z-of_z f) (pos_text l (rw (to_z-of_z f) at e))

-- ---- texts of several things one after the other, and one more at the end

module _ {A : Type 0} (d : A) (one : A → List ℕ) (text : List A → List ℕ) (none : text [] ≡ [])
    (more : (x : A) (xs : List A) → text (x ∷ xs) ≡ one x ++ text xs) where
  each_append : (a b : List A) → text (a ++ b) ≡ text a ++ text b
  each_append [] b = rw none
  each_append (x ∷ a) b = rw (more x (a ++ b), each_append a b, more x a) (sym (append_assoc (one x) (text a) (text b)))

  each_next : (xs : List A) (k : ℕ) → k < length xs → text (take (k + 1) xs) ≡ text (take k xs) ++ one (get_or xs k d)
  each_next xs k h =
      let last : text (get_or xs k d ∷ []) ≡ one (get_or xs k d) = more (get_or xs k d) [] ∙ rw (none, append-nil) in
      rw (add-one, take-suc xs k d h, each_append (take k xs) (get_or xs k d ∷ []), last)

  pub each_put : (xs : List A) (k : ℕ) {l m r : List ℕ} {at mid next : ℕ} → k < length xs → Put l m at (text (take k xs)) mid
      → Put m r mid (one (get_or xs k d)) next → Put l r at (text (take (k + 1) xs)) next
  each_put xs k h p q = rw (each_next xs k h) (put_put (text (take k xs)) (one (get_or xs k d)) p q)

-- ---- literals, a mark before each

pub marked_none : (mark : ℕ) (ls : List ℤ) → marked mark (take 0 ls) ≡ []
unfolding marked
marked_none mark ls = refl

pub marked_put : (mark : ℕ) (ls : List ℤ) (k : ℕ) {l m r : List ℕ} {at mid next : ℕ} → k < length ls → Put l m at (marked mark (take k ls)) mid
    → Put (set m mid mark) r (mid + 1) (literal (get_or ls k (pos 0))) next → Put l r at (marked mark (take (k + 1) ls)) next
unfolding marked
marked_put mark ls k {m = m} {mid = mid} h p q =
    let last = put_put (mark ∷ []) (literal (get_or ls k (pos 0))) (put_one m mid mark) q in
    each_put (pos 0) (λ l. mark ∷ literal l) (marked mark) refl (λ l ls. refl) ls k h p last

pub marked_by_space : (ls : List ℤ) → marked 32 ls ≡ literal_list ls
unfolding marked literal_list
marked_by_space [] = refl
marked_by_space (l ∷ ls) = ap (λ (rest : List ℕ). 32 ∷ (literal l ++ rest)) (marked_by_space ls)

-- a word that is copied into a part of the buffer
pub put_whole : (l word : List ℕ) (at k : ℕ) (part : List ℕ) → at + length word ≤ length l → k ≡ length word → part ≡ word
    → Put l (put_mid at k l part) at word (at + length word)
put_whole l word at k part h size same =
    let whole : take (length word) word ≡ word = take_all (length word) word (omega arith) in
    let pasted = put_mid-paste at k l part word (length word) same (sym size) refl in
    record { written = pasted ∙ rw (whole, sets-eq word l at h); ends = refl }

-- ---- a line again

pub shown_put : (line : List ℕ) (k : ℕ) {l m : List ℕ} {at byte : ℕ} → k < length line → byte ≡ shown (get_or line k 0)
    → Put l m at (map shown (take k line)) (at + k) → Put l (set m (at + k) byte) at (map shown (take (k + 1) line)) (at + (k + 1))
shown_put line k {l} {m} {at} {byte} h is p =
    let e : at + (k + 1) ≡ at + k + 1 = omega arith in
    let last = put_one m (at + k) (shown (get_or line k 0)) in
    rw (e, is) (each_put 0 (λ b. shown b ∷ []) (map shown) refl (λ b bs. refl) line k h p last)

-- ---- how long a number, a literal and a list of literals can be

-- 10 to the k
abbrev pub tens : ℕ → ℕ
tens zero = 1
tens (suc k) = 10 * tens k

digits_next : (k n : ℕ) (t : Bool) → ltb n 10 ≡ t → (10 ≤ n → length (natural (n / 10)) ≤ k) → length (natural n) ≤ suc k
digits_next k n true e rest = omega (arith, ap length (natural_short n (ltb-true n 10 e)))
digits_next k n false e rest =
    let far = ltb-false n 10 e in
    omega (arith, natural_longer n far, rest far)

-- a number below 10 to the k has at most k digits, where k is not 0
pub natural_most : (k n : ℕ) → n < tens (suc k) → length (natural n) ≤ suc k
natural_most zero n h = digits_next 0 n (ltb n 10) refl (λ far. absurd (omega arith))
natural_most (suc k) n h = digits_next (suc k) n (ltb n 10) refl (λ far. natural_most k (n / 10) (omega arith))

-- a 16-bit literal takes a sign and five digits at most
pub literal_most : {l : ℤ} → SFits w16 l → length (literal l) ≤ 6
literal_most {l = pos n} f = omega (arith, natural_most 4 n (omega (arith, f.sfits)))
literal_most {l = negsuc k} f = omega (arith, natural_most 4 (suc k) (omega (arith, f.sfits)))
