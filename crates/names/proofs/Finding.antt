-- The first slot that has a word, and the slot of a name that is known.
use Rattle.meaning.proofs.Kit.{◌≡◌, ◌∙◌, refl, ap, ap₂, true, false, false≢true, Bool, cond, List, ◌≤◌, ℕ, ◌<◌, ◌-◌, ◌+◌, ◌*◌, suc, arith, get_or}
use Rattle.meaning.proofs.Kit.{drop, take, lt-ltb, le-ltb}
use Rattle.std.specs.Option.{is_some, unwrap_or}
use Rattle.std.specs.List.{position_or_len}
use Rattle.std.proofs.Common.{Option, Some, None}
use Rattle.std.proofs.lemmas.List.Sums.{position_or_len_is}
use Rattle.std.proofs.lemmas.List.Quantifiers.{position-Some}
use Rattle.std.proofs.lemmas.Option.{none-some}
use Rattle.meaning.specs.Tests.{from}
use Rattle.meaning.proofs.BySize.{length_from, from_at}
use Rattle.names.specs.Slots.{fits, slot_at, slot_of}
use Rattle.names.specs.Names.{is_known, is_name, most_named, name_slot, symbol_named}

-- the part of the slots that is looked at is a slot
pub slot_part : (width k at : ℕ) (slots : List ℕ) → at ≡ width * k → take ((at + width) - at) (drop at slots) ≡ slot_at width k slots
slot_part width k at slots e = let size : (at + width) - at ≡ width = omega arith in ap₂ (λ (n a : ℕ). take n (drop a slots)) size e

module _ (width count : ℕ) (slots word : List ℕ) where
  abbrev test : ℕ → Bool
  test k = fits (slot_at width k slots) word

  tested : (k : ℕ) → k < count → test (get_or (from 0 count) k 0) ≡ test k
  tested k h = ap test (from_at 0 count k h ∙ omega arith)

  -- the number that the tests tell
  place_is : (k : ℕ) → k ≤ count → ((i : ℕ) → i < k → test i ≡ false) → (k < count → test k ≡ true) → position_or_len test (from 0 count) ≡ k
  place_is k h before here =
      position_or_len_is test (from 0 count) k 0 (omega (arith, length_from 0 count)) (λ i l. tested i (omega arith) ∙ before i l)
      (λ l. let b : k < count = omega (arith, length_from 0 count) in tested k b ∙ here b)

  pub found_here : (k : ℕ) → k < count → test k ≡ true → ((i : ℕ) → i < k → test i ≡ false) → Some k ≡ slot_of width count slots word
  unfolding slot_of
  found_here k h e before = rw (place_is k (omega arith) before (λ l. e), length_from 0 count, lt-ltb k count h)

  pub found_nowhere : ((i : ℕ) → i < count → test i ≡ false) → None ≡ slot_of width count slots word
  unfolding slot_of
  found_nowhere before = rw (place_is count (omega arith) before (λ l. absurd (omega arith)), length_from 0 count, le-ltb count count (omega arith))

  slot_below : (k : ℕ) → slot_of width count slots word ≡ Some k → k < count
  unfolding slot_of
  slot_below k e = omega (arith, (position-Some test (from 0 count) k 0 e).0, length_from 0 count)

-- ---- a name that is known

pub slot_few : (names word : List ℕ) (k : ℕ) → name_slot names word ≡ Some k → k < most_named
unfolding name_slot
slot_few names word k =
    elim (is_name word) as (λ b. cond b (slot_of 24 most_named names word) None ≡ Some k → k < most_named)
    [ true ↦ slot_below 24 most_named names word k | false ↦ λ e. absurd (none-some k e) ]

pub symbol_at : (names word : List ℕ) (k : ℕ) → name_slot names word ≡ Some k → symbol_named names word ≡ suc k
symbol_at names word k e = rw e refl

some_few : (slot : Option ℕ) (d : ℕ) → is_some slot ≡ true → ((k : ℕ) → slot ≡ Some k → k < most_named) → suc (unwrap_or slot d) ≤ most_named
some_few None d e few = absurd (false≢true e)
some_few (Some k) d e few = omega (arith, few k refl)

pub symbol_few : (names word : List ℕ) → is_known names word ≡ true → symbol_named names word ≤ most_named
symbol_few names word e = some_few (name_slot names word) _ e (slot_few names word)
