-- Names replaced in a text: run by run, in place, and nothing else. Here stand four of the promises.
use Rattle.meaning.proofs.Kit.{◌≡◌, ◌∙◌, sym, ap, refl, true, false, Bool, cond, List, [], ◌∷◌, ◌++◌, append-nil, append_assoc, ◌≤◌, ℕ, ◌<◌, ◌-◌, ◌+◌}
use Rattle.meaning.proofs.Kit.{suc, add-one, arith, length, get_or, drop, take, length-append, length-drop, drop_of_length-le, length-take-le}
use Rattle.meaning.proofs.Kit.{drop-cons, take_all, take_at, take-suc, drop_at, append_snoc}
use borrow.Rule.Slice.PartMut.{mid_of, mid_len, post_of, put_mid, same_len_mid}
use Rattle.meaning.specs.Tests.{all}
use Rattle.meaning.proofs.Tests.{both_true}
use Rattle.names.specs.Names.{in_name, is_known, is_name, name_slot, run, symbol_named}
use Rattle.names.specs.Replacing.{numeral, renamed, replaced_from, replaced}
use Rattle.names.specs.Promises.{SameLength, OtherBytes, OneRun, UnknownStays}
use Rattle.names.proofs.Numerals.{numeral_length}
use Rattle.names.proofs.Runs.{run_extent}

-- ---- a run

renamed_length : (names word : List ℕ) → length (renamed names word) ≡ length word
unfolding renamed
renamed_length names word =
    let number = numeral (length word) (symbol_named names word) in
    elim (is_known names word) as (λ b. length (cond b number word) ≡ length word) [ true ↦ numeral_length (length word) _ | false ↦ refl ]

pub renamed_known : (names word : List ℕ) → is_known names word ≡ true → renamed names word ≡ numeral (length word) (symbol_named names word)
unfolding renamed
renamed_known names word e = rw e

pub unknown_stays : UnknownStays
unfolding renamed
unknown_stays names word e = rw e

renamed_none : (names : List ℕ) → renamed names [] ≡ []
unfolding renamed name_slot is_name
renamed_none names = refl

-- ---- runs one after another

module _ (names : List ℕ) where
  -- a byte, and what is left after it, by whether it is one of a name
  abbrev on_byte : (b : Bool) → (word : List ℕ) → (c : ℕ) → (rest : List ℕ) → List ℕ
  on_byte b word c rest = cond b (replaced_from names (word ++ (c ∷ [])) rest) (renamed names word ++ (c ∷ replaced names rest))

  replaced_other : (rest : List ℕ) (c : ℕ) → in_name c ≡ false → replaced names (c ∷ rest) ≡ c ∷ replaced names rest
  unfolding replaced_from
  replaced_other rest c e = rw (e, renamed_none names)

  -- a text is its first run and what is left
  replaced_run : (word text : List ℕ)
      → replaced_from names word text ≡ renamed names (word ++ take (run text) text) ++ replaced names (drop (run text) text)
  unfolding replaced_from run
  replaced_run word [] = sym (rw (append-nil word, renamed_none names) (append-nil (renamed names word)))
  replaced_run word (c ∷ rest) = by (in_name c) refl (λ w. replaced_run w rest)
    where
      by : (b : Bool) → in_name c ≡ b
          → ((w : List ℕ) → replaced_from names w rest ≡ renamed names (w ++ take (run rest) rest) ++ replaced names (drop (run rest) rest))
          → let n = cond b (suc (run rest)) 0 in
          on_byte b word c rest ≡ renamed names (word ++ take n (c ∷ rest)) ++ replaced names (drop n (c ∷ rest))
      by true e ih = ih (word ++ (c ∷ [])) ∙ rw (append_snoc word c (take (run rest) rest))
      by false e ih = rw (append-nil word, replaced_other rest c e)

  replaced_length : (word text : List ℕ) → length (replaced_from names word text) ≡ length word + length text
  unfolding replaced_from
  replaced_length word [] = omega (arith, renamed_length names word)
  replaced_length word (c ∷ rest) = by (in_name c) (λ w. replaced_length w rest)
    where
      by : (b : Bool) → ((w : List ℕ) → length (replaced_from names w rest) ≡ length w + length rest)
          → length (on_byte b word c rest) ≡ length word + suc (length rest)
      by true ih = omega (arith, ih (word ++ (c ∷ [])), length-append word (c ∷ []))
      by false ih = omega (arith, ih [], length-append (renamed names word) (c ∷ replaced names rest), renamed_length names word)

  parted : (word before after : List ℕ) (c : ℕ) → in_name c ≡ false
      → replaced_from names word (before ++ (c ∷ after)) ≡ replaced_from names word before ++ (c ∷ replaced names after)
  unfolding replaced_from
  parted word [] after c e = rw e
  parted word (x ∷ before) after c e = by (in_name x) (λ w. parted w before after c e)
    where
      by : (b : Bool) → ((w : List ℕ) → replaced_from names w (before ++ (c ∷ after)) ≡ replaced_from names w before ++ (c ∷ replaced names after))
          → on_byte b word x (before ++ (c ∷ after)) ≡ on_byte b word x before ++ (c ∷ replaced names after)
      by true ih = ih (word ++ (x ∷ []))
      by false ih =
          ap (λ l. renamed names word ++ (x ∷ l)) (ih [])
          ∙ sym (append_assoc (renamed names word) (x ∷ replaced names before) (c ∷ replaced names after))

  gathered : (word more : List ℕ) → all in_name more ≡ true → replaced_from names word more ≡ renamed names (word ++ more)
  unfolding replaced_from
  gathered word [] e = ap (renamed names) (sym (append-nil word))
  gathered word (c ∷ more) e =
      let both = both_true (in_name c) (all in_name more) e in
      rw both.0 (gathered (word ++ (c ∷ [])) more both.1 ∙ ap (renamed names) (append_snoc word c more))

pub same_length : SameLength
same_length names text = omega (arith, replaced_length names [] text)

pub other_bytes : OtherBytes
other_bytes names before after c e = parted names [] before after c e

pub one_run : OneRun
one_run names word e = gathered names [] word e

-- ---- in place

-- what the text comes to, where the bytes before `at` are done
abbrev pub coming : (names text : List ℕ) → (at : ℕ) → List ℕ
coming names text at = take at text ++ replaced names (drop at text)

-- a run of no byte: none of a name stands there
run_none : (c : ℕ) (rest : List ℕ) → run (c ∷ rest) ≡ 0 → in_name c ≡ false
unfolding run
run_none c rest = elim (in_name c) as (λ b. cond b (suc (run rest)) 0 ≡ 0 → b ≡ false) [ true ↦ λ z. absurd (omega arith) | false ↦ λ z. refl ]

pub coming_byte : (names text : List ℕ) (at : ℕ) → at < length text → run (drop at text) ≡ 0 → coming names text at ≡ coming names text (at + 1)
coming_byte names text at h none =
    let c = get_or text at 0 in
    let rest = drop (suc at) text in
    let is = drop-cons text at 0 h in
    let out = run_none c rest (sym (ap run is) ∙ none) in
    ap (λ l. take at text ++ l) (ap (replaced names) is ∙ replaced_other names rest c out)
    ∙ sym (rw (add-one at, take-suc text at 0 h) (append_snoc (take at text) c (replaced names rest)))

pub coming_all : (names text : List ℕ) (at : ℕ) → length text ≤ at → coming names text at ≡ text
unfolding replaced_from
coming_all names text at h = rw (drop_of_length-le text {i = at} h, take_all at text h, renamed_none names) (append-nil text)

-- the run that stands there, up to `end`: it lies within the text, and is renamed in its place
module _ (text : List ℕ) (at end : ℕ) (order : at ≤ end) (start : at ≤ length text) (runs : end - at ≡ run (drop at text)) where
  pub run_inside : end ≤ length text
  run_inside = omega (arith, run_extent (drop at text), length-drop at text)

  module _ (names part : List ℕ) (is : part ≡ renamed names (mid_of at (end - at) text)) where
    part_length : length part ≡ length (mid_of at (end - at) text)
    part_length = ap length is ∙ renamed_length names (mid_of at (end - at) text)

    pub run_length : length (put_mid at (end - at) text part) ≡ length text
    run_length = same_len_mid at (end - at) text part part_length

    pub coming_run : coming names text at ≡ coming names (put_mid at (end - at) text part) end
    coming_run =
        let before = take at text ++ part in
        let rest = post_of at (end - at) text in
        let whole : put_mid at (end - at) text part ≡ before ++ rest = sym (append_assoc (take at text) part rest) in
        let long : length before ≡ end =
        omega (arith, length-append (take at text) part, length-take-le at text start, part_length, mid_len at end text run_inside) in
        let first : replaced names (drop at text) ≡ part ++ replaced names rest = replaced_run names [] (drop at text) ∙ rw (sym runs, is) in
        ap (λ l. take at text ++ l) first ∙ sym (append_assoc (take at text) part (replaced names rest))
        ∙ sym (rw (whole, take_at before rest end long, drop_at before rest end long))
