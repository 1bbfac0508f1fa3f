-- Bytes of the input up to a line feed, taken at once.
use Rattle.meaning.proofs.Kit.{◌≡◌, ◌∙◌, sym, ap, refl, ⊎_elim, true, false, Bool, cond, List, [], ◌∷◌, ◌++◌, append-nil, append_assoc, ◌≤◌, ℕ, ◌<◌}
use Rattle.meaning.proofs.Kit.{◌-◌, ◌+◌, suc, zero, min, arith, eqb, ltb, length, drop, take, length-drop, drop_of_length-le}
use Rattle.meaning.proofs.Kit.{length-take, length-take-le, take_all, drop-drop, take-length}
use Rattle.meaning.proofs.Kit.{eqb-true, ltb-true, lt-ltb, le-ltb, ltb-false}
use native.Mathlib.Nat.{min-le_left}
use Rattle.meaning.proofs.Tests.{true_or_false}
use Rattle.meaning.proofs.Tables.{le_or_lt}
use lib.Seq.{take-append-add, take-add, take-take}
use Rattle.std.proofs.lemmas.List.{drop-take}
use Rattle.std.specs.List.{position_or_len}
use Rattle.std.proofs.lemmas.List.Recursion.{is_position_or_len}
use Rattle.desk.specs.Sittings.{Sat, kept, after_byte, after_part, after_bytes, line_length, after_line}

pub length_within : (bytes : List ℕ) → line_length bytes ≤ length bytes
unfolding line_length
length_within [] = omega arith
length_within (b ∷ rest) = ⊎_elim (λ e. rw e (omega arith)) (λ e. rw e (omega (arith, length_within rest))) (true_or_false (eqb b 10))

-- what is kept of a line does not change where more of it comes
kept_again : (n : ℕ) (front rest : List ℕ) → take n (take n front ++ rest) ≡ take n (front ++ rest)
kept_again zero front rest = refl
kept_again (suc n) [] rest = refl
kept_again (suc n) (c ∷ front) rest = ap (λ (l : List ℕ). c ∷ l) (kept_again n front rest)

-- the bytes up to a line feed go on with the line
line_goes_on : (s : Sat) (bytes : List ℕ) → length s.pending ≤ 502
    → after_bytes s bytes
    ≡ after_bytes (record { state = s.state; pending = kept (s.pending ++ take (line_length bytes) bytes) }) (drop (line_length bytes) bytes)
unfolding after_bytes line_length
line_goes_on s [] h = rw (append-nil s.pending, take_all 502 s.pending h)
line_goes_on s (b ∷ rest) h =
    let one : Sat = record { state = s.state; pending = kept (s.pending ++ (b ∷ [])) } in
    let more = s.pending ++ (b ∷ []) in
    go (eqb b 10) refl (line_goes_on one rest (omega (arith, length-take 502 more, min-le_left 502 (length more))))
  where
    go : (t : Bool) → eqb b 10 ≡ t
        → (after_bytes (record { state = s.state; pending = kept (s.pending ++ (b ∷ [])) }) rest
        ≡ after_bytes
        (record { state = s.state; pending = kept (kept (s.pending ++ (b ∷ [])) ++ take (line_length rest) rest) })
        (drop (line_length rest) rest))
        → after_bytes
        (cond t
        (record { state = after_line s.state s.pending; pending = [] })
        (record { state = s.state; pending = kept (s.pending ++ (b ∷ [])) }))
        rest
        ≡ after_bytes
        (record { state = s.state; pending = kept (s.pending ++ take (cond t 0 (suc (line_length rest))) (b ∷ rest)) })
        (drop (cond t 0 (suc (line_length rest))) (b ∷ rest))
    go true e on = rw (append-nil s.pending, take_all 502 s.pending h, e)
    go false e on =
        on ∙ ap (λ (l : List ℕ). after_bytes (record { state = s.state; pending = l }) (drop (line_length rest) rest))
        (kept_again 502 (s.pending ++ (b ∷ [])) (take (line_length rest) rest)
        ∙ ap (λ (l : List ℕ). kept l) (append_assoc s.pending (b ∷ []) (take (line_length rest) rest)))

-- and the line feed ends it
line_feed : (bytes : List ℕ) → line_length bytes < length bytes → drop (line_length bytes) bytes ≡ 10 ∷ drop (suc (line_length bytes)) bytes
unfolding line_length
line_feed [] h = absurd (omega arith)
line_feed (b ∷ rest) h = ⊎_elim (λ e. rw (e, eqb-true b 10 e)) (λ e. rw e (line_feed rest (omega (arith, rw e at h)))) (true_or_false (eqb b 10))

-- the place that is looked for is the line's length
pub line_is : (bytes : List ℕ) → position_or_len (λ b. eqb b 10) bytes ≡ line_length bytes
unfolding line_length
line_is bytes =
    let one : (n : ℕ) → suc n ≡ 1 + n = λ n. omega arith in
    sym (is_position_or_len line_length (λ b. eqb b 10) refl (λ b rest. ap (cond (eqb b 10) 0) (one (line_length rest))) bytes)

-- ---- a line's bytes behind those that are there

module _ (line₀ bytes : List ℕ) (filled : ℕ) where
  -- what there is no room for is what is not kept
  cut : (m n : ℕ) → n ≡ min (length bytes) m → take n bytes ≡ take m bytes
  cut m n least =
      ⊎_elim
      (λ short. (let same : n ≡ length bytes = omega arith in rw (same, take_all m bytes short) (take-length bytes)))
      (λ long. (let same : n ≡ m = omega arith in rw same))
      (le_or_lt (length bytes) m)

  pub gathered_all : (line : List ℕ) (n : ℕ) → length line₀ ≡ 502 → filled ≤ 502 → n ≡ min (length bytes) (502 - filled)
      → take (filled + n) line ≡ take filled line₀ ++ take n bytes → take (filled + n) line ≡ kept (take filled line₀ ++ bytes)
  gathered_all line n whole few least e =
      let long : length (take filled line₀) ≡ filled = length-take-le filled line₀ (omega arith) in
      let all : length (take filled line₀) + (502 - filled) ≡ 502 = omega arith in
      e
      ∙ ap (λ (l : List ℕ). take filled line₀ ++ l) (cut (502 - filled) n least)
      ∙ sym (take-append-add (take filled line₀) bytes (502 - filled))
      ∙ ap (λ (k : ℕ). take k (take filled line₀ ++ bytes)) all

-- ---- a part up to a line feed, or up to the end

by_parts : (s : Sat) (bytes : List ℕ) → length s.pending ≤ 502
    → let n = line_length bytes in
    after_bytes s bytes ≡ after_bytes (after_part s (take n bytes) (ltb n (length bytes))) (drop (suc n) bytes)
unfolding after_bytes
by_parts s bytes h = go (ltb (line_length bytes) (length bytes)) refl
  where
    go : (b : Bool) → ltb (line_length bytes) (length bytes) ≡ b
        → after_bytes s bytes ≡ after_bytes (after_part s (take (line_length bytes) bytes) b) (drop (suc (line_length bytes)) bytes)
    go true e = line_goes_on s bytes h ∙ rw (line_feed bytes (ltb-true (line_length bytes) (length bytes) e))
    go false e =
        let all = ltb-false (line_length bytes) (length bytes) e in
        line_goes_on s bytes h
        ∙ rw (drop_of_length-le bytes {i = line_length bytes} all, drop_of_length-le bytes {i = suc (line_length bytes)} (omega arith))

-- the next part of the bytes from a place on
pub bytes_step : (s : Sat) (bytes : List ℕ) (at n : ℕ) → at ≤ length bytes → length s.pending ≤ 502 → n ≡ line_length (drop at bytes)
    → after_bytes s (drop at bytes)
    ≡ after_bytes (after_part s (take (at + n - at) (drop at bytes)) (ltb (at + n) (length bytes))) (drop (at + n + 1) bytes)
bytes_step s bytes at n within short e =
    let far : at + n + 1 ≡ at + suc n = omega arith in
    let long : at + n - at ≡ n = omega arith in
    by_parts s (drop at bytes) short ∙ rw (← e, long, far, ← drop-drop (suc n) at bytes, length-drop at bytes, further)
  where
    further : ltb n (length bytes - at) ≡ ltb (at + n) (length bytes)
    further = go (ltb (at + n) (length bytes)) refl
      where
        go : (b : Bool) → ltb (at + n) (length bytes) ≡ b → ltb n (length bytes - at) ≡ b
        go true t = let less = ltb-true (at + n) (length bytes) t in lt-ltb n (length bytes - at) (omega arith)
        go false f = let more = ltb-false (at + n) (length bytes) f in le-ltb n (length bytes - at) (omega arith)

-- bytes that come in two readings
pub bytes_both : (s : Sat) (bytes others : List ℕ) → after_bytes s (bytes ++ others) ≡ after_bytes (after_bytes s bytes) others
unfolding after_bytes
bytes_both s [] others = refl
bytes_both s (b ∷ bytes) others = bytes_both (after_byte s b) bytes others

-- ---- the bytes up to a place, with which a part ends

-- the line feed that ends a part stays where it is
line_feed_stays : (bytes : List ℕ) → line_length (take (suc (line_length bytes)) bytes) ≡ line_length bytes
unfolding line_length
line_feed_stays [] = refl
line_feed_stays (b ∷ rest) =
    ⊎_elim (λ e. rw e) (λ e. rw e (ap suc (line_feed_stays rest))) (true_or_false (eqb b 10))

-- from a place where the bytes before it are taken
pub bytes_up_to : (start s : Sat) (bytes : List ℕ) (at n : ℕ) → s ≡ after_bytes start (take at bytes) → at ≤ length bytes → length s.pending ≤ 502
    → n ≡ line_length (drop at bytes)
    → after_part s (take (at + n - at) (drop at bytes)) (ltb (at + n) (length bytes)) ≡ after_bytes start (take (at + n + 1) bytes)
unfolding after_bytes
bytes_up_to start s bytes at n s-is within short e =
    let m = at + n + 1 in
    let front = take m bytes in
    let rest : drop at front ≡ take (suc n) (drop at bytes) = ap (λ (k : ℕ). drop at (take k bytes)) (omega arith) ∙ drop-take at (suc n) bytes in
    let stops : n ≡ line_length (drop at front) = rw (rest, e) (sym (line_feed_stays (drop at bytes))) in
    let long : length front ≡ min m (length bytes) = length-take m bytes in
    let step = bytes_step s front at n (omega (arith, long, within)) short stops in
    let part : take (at + n - at) (take (suc n) (drop at bytes)) ≡ take (at + n - at) (drop at bytes) =
    take-take (at + n - at) (suc n) (drop at bytes) (omega arith) in
    let here = rw (rest, part, drop_of_length-le front {i = m} (omega (arith, long)), ends) at step in
    sym here
    ∙ ap (λ (u : Sat). after_bytes u (take (suc n) (drop at bytes))) s-is
    ∙ sym (bytes_both start (take at bytes) (take (suc n) (drop at bytes)))
    ∙ ap (λ (l : List ℕ). after_bytes start l) (sym (take-add at (suc n) bytes) ∙ ap (λ (k : ℕ). take k bytes) (omega arith))
  where
    ends : ltb (at + n) (length (take (at + n + 1) bytes)) ≡ ltb (at + n) (length bytes)
    ends = go (ltb (at + n) (length bytes)) refl
      where
        go : (b : Bool) → ltb (at + n) (length bytes) ≡ b → ltb (at + n) (length (take (at + n + 1) bytes)) ≡ b
        go true t = let less = ltb-true (at + n) (length bytes) t in lt-ltb (at + n) _ (omega (arith, length-take (at + n + 1) bytes))
        go false f = let more = ltb-false (at + n) (length bytes) f in le-ltb (at + n) _ (omega (arith, length-take (at + n + 1) bytes))

-- a line that begins in the bytes ends in them
pub line_inside : (bytes : List ℕ) (at n : ℕ) → at ≤ length bytes → n ≡ line_length (drop at bytes) → at + n ≤ length bytes
line_inside bytes at n within e = omega (arith, e, length_within (drop at bytes), length-drop at bytes)

-- what is kept of a line is no longer than its room
pub short : (filled : ℕ) (line : List ℕ) → filled ≤ 502 → length (take filled line) ≤ 502
short filled line h = omega (arith, length-take filled line, min-le_left filled (length line))
