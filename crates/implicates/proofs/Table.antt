-- Laws of the table of hits over one symbol more: the table where that symbol is false, the one where it is true, and where one of them
-- has a hit.
use Rattle.meaning.proofs.Kit.{◌≡◌, ◌∙◌, sym, ap, refl, ap₂, true, false, Bool, ◌||◌, or-false, List, [], ◌∷◌, ◌++◌, map, append_assoc, map-append, ℕ}
use Rattle.meaning.proofs.Kit.{◌<◌, ◌-◌, ◌+◌, suc, ◌*◌, zero, ◌^◌, zero-add, pow-succ', sub-one, arith, length, get_or, drop, take, set, length-append}
use Rattle.meaning.proofs.Kit.{length-drop, length-take, take_all, take_at, get_or-take, get_or-drop, drop_at}
use mathlib.Core.List.{map-map}
use lib.Seq.{take-append-add, take-append_seam}
use borrow.Rule.Slice.PartMut.{put_mid, post_of, same_len_mid}
use Rattle.meaning.specs.Clauses.{Digit, out, plus, minus, clauses, hit}
use Rattle.meaning.proofs.Tests.{map_same}
use Rattle.meaning.proofs.Clauses.{given, hit_denies, hit_out, hit_same, clauses_length}
use Rattle.implicates.specs.Hits.{index, sat_of, hit_table, either, joined, prime_in, prime_table}
use Rattle.implicates.proofs.Numbers.{length_table}

pub index_below : (a : List Bool) → index a < 2 ^ length a
index_below [] = omega arith
index_below (false ∷ a) = omega (arith, index_below a, pow-succ' 2 (length a))
index_below (true ∷ a) = omega (arith, index_below a, pow-succ' 2 (length a))

-- two functions of clauses that agree on those over n symbols
clauses_same : {B : Type 0} (n : ℕ) (f g : List Digit → B) → ((v : List Digit) → length v ≡ n → f v ≡ g v) → map f (clauses n) ≡ map g (clauses n)
clauses_same n f g e = map_same f g (clauses n) (λ v m. e v (clauses_length n v m))

either_map : (f g : List Digit → Bool) (vs : List (List Digit)) → either (map f vs) (map g vs) ≡ map (λ v. f v || g v) vs
either_map f g [] = refl
either_map f g (v ∷ vs) = ap (λ (t : List Bool). (f v || g v) ∷ t) (either_map f g vs)

pub length_hit_table : (n : ℕ) (truth : List Bool) → length (hit_table n truth) ≡ 3 ^ n
unfolding hit_table
length_hit_table n truth = length_table (hit (sat_of truth)) n

pub length_prime_table : (n : ℕ) (hits : List Bool) → length (prime_table n hits) ≡ 3 ^ n
unfolding prime_table
length_prime_table n hits = length_table (prime_in hits) n

module _ (m : ℕ) (truth : List Bool) where
  low : (v : List Digit) → length v ≡ m → hit (given (sat_of truth) false) v ≡ hit (sat_of (take (2 ^ m) truth)) v
  low v l = hit_same (given (sat_of truth) false) (sat_of (take (2 ^ m) truth)) v
      (λ a k. rw zero-add (sym (get_or-take (2 ^ m) truth (index a) false (omega (arith, index_below a, ap (λ (x : ℕ). 2 ^ x) (k ∙ l))))))

  high : (v : List Digit) → length v ≡ m → hit (given (sat_of truth) true) v ≡ hit (sat_of (drop (2 ^ m) truth)) v
  high v l = hit_same (given (sat_of truth) true) (sat_of (drop (2 ^ m) truth)) v
      (λ a k. rw (k ∙ l) (sym (get_or-drop (2 ^ m) truth (index a) false)))

  table_step : let low = hit_table m (take (2 ^ m) truth) in let high = hit_table m (drop (2 ^ m) truth) in
      hit_table (suc m) truth ≡ low ++ (high ++ either low high)
  unfolding hit_table
  table_step =
      simp (map-append, map-map)
      (ap₂ (λ (x y : List Bool). x ++ y)
      (clauses_same m (λ v. hit (sat_of truth) (plus ∷ v)) (hit (sat_of (take (2 ^ m) truth))) (λ v l. hit_denies (sat_of truth) false v ∙ low v l))
      (ap₂ (λ (x y : List Bool). x ++ y)
      (clauses_same m (λ v. hit (sat_of truth) (minus ∷ v)) (hit (sat_of (drop (2 ^ m) truth))) (λ v l. hit_denies (sat_of truth) true v ∙ high v l))
      (clauses_same m (λ v. hit (sat_of truth) (out ∷ v)) (λ v. hit (sat_of (take (2 ^ m) truth)) v || hit (sat_of (drop (2 ^ m) truth)) v)
      (λ v l. hit_out (sat_of truth) v ∙ ap₂ ◌||◌ (low v l) (high v l))
      ∙ sym (either_map (hit (sat_of (take (2 ^ m) truth))) (hit (sat_of (drop (2 ^ m) truth))) (clauses m)))))

-- a table of three blocks, the last made of the first two
joined_blocks : (t : ℕ) (a b r : List Bool) → length a ≡ t → length b ≡ t → joined t (a ++ (b ++ r)) ≡ a ++ (b ++ either a b)
joined_blocks t a b r p q =
    let e : 2 * t ≡ length a + length b = omega arith in
    let first : take t (a ++ (b ++ r)) ≡ a = take_at a (b ++ r) t p in
    let rest : drop t (a ++ (b ++ r)) ≡ b ++ r = drop_at a (b ++ r) t p in
    rw (e, take-append-add, first, rest, take_at b r t q, take-append_seam) (append_assoc a b (either a b))

pub pow_down : (b n : ℕ) → (n ≡ 0 → ⊥) → b ^ n ≡ b * b ^ (n - 1)
pow_down b zero f = absurd (f refl)
pow_down b (suc n) f = rw sub-one (pow-succ' b n)

-- with no symbol there is one clause, the empty one
pub fill_one : (n : ℕ) (truth hits : List Bool) → n ≡ 0 → length hits ≡ 3 ^ n → set hits 0 (get_or truth 0 false) ≡ hit_table n truth
fill_one n truth hits e l = rw e (one hits (l ∙ ap (λ (x : ℕ). 3 ^ x) e))
  where
    one : (h : List Bool) → length h ≡ 1 → set h 0 (get_or truth 0 false) ≡ hit_table 0 truth
    one [] k = absurd (omega arith)
    one (x ∷ []) k = unfold hit_table hit in ap (λ (b : Bool). b ∷ []) (sym (or-false (get_or truth 0 false)))
    one (x ∷ (y ∷ h)) k = absurd (omega arith)

-- the lengths of what the two calls are lent and leave
module _ (third : ℕ) (hits a : List Bool) (whole : length hits ≡ 3 * third) (kept : length a ≡ length (take third hits)) where
  pub middle_long : length (take (2 * third - third) (drop third (a ++ drop third hits))) ≡ third
  middle_long = simp (length-take, length-drop, length-append) (omega (arith, kept, length-take third hits))

  pub put_long : (b : List Bool) → length b ≡ length (take (2 * third - third) (drop third (a ++ drop third hits)))
      → length (put_mid third (2 * third - third) (a ++ drop third hits) b) ≡ 3 * third
  put_long b k =
      same_len_mid third (2 * third - third) (a ++ drop third hits) b k
      ∙ simp (length-append, length-drop) (omega (arith, kept, length-take third hits))

-- what the two calls of `fill_hits` and `join_thirds` leave
pub fill_blocks : (m half third : ℕ) (truth hits a b : List Bool) → half ≡ 2 ^ m → third ≡ 3 ^ m → length truth ≡ 2 * half
    → a ≡ hit_table m (take half truth) → b ≡ hit_table m (take (length truth - half) (drop half truth))
    → joined third (put_mid third (2 * third - third) (a ++ drop third hits) b) ≡ hit_table (suc m) truth
fill_blocks m half third truth hits a b eh et el ea eb =
    let la : length a ≡ third = ap length ea ∙ length_hit_table m (take half truth) ∙ sym et in
    let lb : length b ≡ third = ap length eb ∙ length_hit_table m (take (length truth - half) (drop half truth)) ∙ sym et in
    let whole = take_all (length truth - half) (drop half truth) (simp length-drop (omega arith)) in
    rw (take_at a (drop third hits) third la)
    (joined_blocks third a b (post_of third (2 * third - third) (a ++ drop third hits)) la lb
    ∙ rw (ea, eb, whole, eh) (sym (table_step m truth)))
