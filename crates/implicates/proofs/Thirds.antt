-- Laws of the last third of a table of hits, made of the first two.
use Rattle.meaning.proofs.Kit.{◌≡◌, ◌∙◌, sym, ap, refl, ap₂, false, Bool, ◌||◌, List, [], ◌∷◌, ◌++◌, append-nil, ◌≤◌, ℕ, ◌<◌, ◌+◌, suc, ◌*◌, zero}
use Rattle.meaning.proofs.Kit.{add-one, arith, length, get_or, drop, take, set, length-append, length-drop, drop_of_length-le, list_get_or_append}
use Rattle.meaning.proofs.Kit.{length-take-le, take_all, get_or-take, get_or-drop}
use lib.Seq.{paste, paste-suc}
use Rattle.implicates.specs.Hits.{either, joined}

length_either : (xs ys : List Bool) → length xs ≡ length ys → length (either xs ys) ≡ length xs
length_either [] ys e = refl
length_either (x ∷ xs) [] e = absurd (omega arith)
length_either (x ∷ xs) (y ∷ ys) e = ap suc (length_either xs ys (omega arith))

get_d_either : (xs ys : List Bool) (i : ℕ) → i < length xs → i < length ys → get_or (either xs ys) i false ≡ (get_or xs i false || get_or ys i false)
get_d_either [] ys i h k = absurd (omega arith)
get_d_either (x ∷ xs) [] i h k = absurd (omega arith)
get_d_either (x ∷ xs) (y ∷ ys) zero h k = refl
get_d_either (x ∷ xs) (y ∷ ys) (suc i) h k = get_d_either xs ys i (omega arith) (omega arith)

-- before the place of a copy nothing changes
get_d_paste_before : (d : List Bool) (at : ℕ) (s : List Bool) (n j : ℕ) → at ≤ length d → j < at → get_or (paste d at s n) j false ≡ get_or d j false
get_d_paste_before d at s n j h k =
    let l : length (take at d) ≡ at = length-take-le at d h in
    list_get_or_append (take at d ++ take n s) (drop (at + n) d) false j (omega (arith, length-append (take at d) (take n s)))
    ∙ list_get_or_append (take at d) (take n s) false j (omega arith)
    ∙ get_or-take at d j false k

-- what the last third is to hold
abbrev pub last_third : List Bool → ℕ → List Bool
last_third d t = either (take t d) (take t (drop t d))

module _ (d : List Bool) (t : ℕ) (long : length d ≡ 3 * t) where
  one : length (take t d) ≡ t
  one = length-take-le t d (omega arith)

  two : length (take t (drop t d)) ≡ t
  two = length-take-le t (drop t d) (simp length-drop (omega arith))

  length_last : length (last_third d t) ≡ t
  length_last = length_either (take t d) (take t (drop t d)) (one ∙ sym two) ∙ one

  last_at : (i : ℕ) → i < t → get_or (last_third d t) i false ≡ (get_or d i false || get_or d (t + i) false)
  last_at i h =
      get_d_either (take t d) (take t (drop t d)) i (omega (arith, one)) (omega (arith, two))
      ∙ ap₂ ◌||◌ (get_or-take t d i false h) (get_or-take t (drop t d) i false h ∙ get_or-drop t d i false)

  -- one turn of the loop
  pub join_turn : (h : List Bool) (i : ℕ) → i < t → h ≡ paste d (2 * t) (last_third d t) i
      → set h (2 * t + i) (get_or h i false || get_or h (t + i) false) ≡ paste d (2 * t) (last_third d t) (i + 1)
  join_turn h i k e =
      let before : (j : ℕ) → j < 2 * t → get_or h j false ≡ get_or d j false =
      λ j l. rw e (get_d_paste_before d (2 * t) (last_third d t) i j (omega arith) l) in
      rw (before i (omega arith), before (t + i) (omega arith), ← last_at i k, e, add-one)
      (paste-suc d (2 * t) (last_third d t) i false (omega arith) (omega (arith, length_last)))

  -- given the last
  pub join_done : paste d (2 * t) (last_third d t) t ≡ joined t d
  join_done =
      ap₂ (λ (m r : List Bool). take (2 * t) d ++ m ++ r)
      (take_all t (last_third d t) (omega (arith, length_last)))
      (drop_of_length-le d {i = 2 * t + t} (omega arith)) ∙ append-nil (take (2 * t) d ++ last_third d t)
