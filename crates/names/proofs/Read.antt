-- Where a known name stood, its symbol's number is read. Here stands the last of the promises.
use Rattle.meaning.proofs.Kit.{◌≡◌, ◌∙◌, refl, true, false, cond, ◌&&◌, ◌||◌, List, ◌≤◌, ℕ, ◌<◌, arith, eqb, leb, length, get_or, leb-true}
use Rattle.std.specs.Option.{is_some}
use Rattle.std.proofs.Common.{None}
use Rattle.meaning.proofs.Tests.{both_true, both_false}
use Rattle.spelling.specs.Text.{decimal, is_digit}
use Rattle.chains.proofs.Numerals.{number_read}
use Rattle.names.specs.Names.{is_known, is_letter, is_name, most_named, name_slot, run, symbol_named}
use Rattle.names.specs.Slots.{slot_of}
use Rattle.names.specs.Replacing.{numeral}
use Rattle.names.specs.Promises.{ReadsSymbol}
use Rattle.names.proofs.Finding.{symbol_few}
use Rattle.names.proofs.Numerals.{numeral_digits, numeral_length, numeral_spells, tens_enough}
use Rattle.names.proofs.Replaced.{renamed_known}

-- a known name has three bytes or more
known_name : (names word : List ℕ) → is_known names word ≡ true → is_name word ≡ true
unfolding name_slot
known_name names word =
    elim (is_name word) as (λ b. is_some (cond b (slot_of 24 most_named names word) None) ≡ true → b ≡ true) [ true ↦ λ t. refl | false ↦ λ t. t ]

known_long : (names word : List ℕ) → is_known names word ≡ true → 3 ≤ length word
unfolding is_name
known_long names word e =
    let n = length word in
    let long = leb 3 n in
    let short = leb n 24 in
    let letter = is_letter (get_or word 0 0) in
    leb-true 3 n
    (both_true long short
    (both_true (long && short) letter (both_true (long && short && letter) (eqb (run word) n) (known_name names word e)).0).0).0

pub reads_symbol : ReadsSymbol
reads_symbol names word rest known stops =
    let n = length word in
    let s = symbol_named names word in
    let c = get_or rest 0 0 in
    let few : s < 1000 = omega (arith, symbol_few names word known) in
    let spells : decimal 0 (numeral n s) ≡ s = numeral_spells n s (tens_enough n s (known_long names word known) few) in
    rw (renamed_known names word known)
    (number_read (numeral n s) rest (numeral_digits n s) (both_false (is_letter c || eqb c 95) (is_digit c) stops).1 ∙ rw (spells, numeral_length))
