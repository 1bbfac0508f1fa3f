-- Worked cases, one computed statement each: a table of two names, words sought in it, and texts with its names replaced.
use Rattle.meaning.proofs.Kit.{◌≡◌, refl, List, [], ◌∷◌, ◌++◌, map, ℕ}
use Prim.Native.String.{String}
use Rattle.std.proofs.Common.{Option, Some, None}
use Rattle.spelling.proofs.Ascii.{ascii}
use Rattle.names.specs.Slots.{fits, is_over, padded, slot_of}
use Rattle.names.specs.Names.{is_name, name_slot, run, symbol_named}
use Rattle.names.specs.Replacing.{numeral, renamed, replaced, replaced_from}

-- symbol 1 is `tc3_high`, symbol 2 has no name, symbol 3 is `abc`
table : List ℕ
table = padded 24 (ascii "tc3_high") ++ (padded 24 [] ++ padded 24 (ascii "abc"))

-- a word, its slot, if it has one, and its symbol's number, which without a slot is beyond all numbers of 16 bits
record Sought : Type 0 where
  pub word : String
  pub slot : Option ℕ
  pub symbol : ℕ

words : List Sought
words =
    record { word = "tc3_high"; slot = Some 0; symbol = 1 }
    ∷ record { word = "abc"; slot = Some 2; symbol = 3 }
    ∷ record { word = "ab"; slot = None; symbol = 65536 }
    ∷ record { word = "tc3"; slot = None; symbol = 65536 }
    ∷ record { word = "3abc"; slot = None; symbol = 65536 }
    ∷ record { word = "_abc"; slot = None; symbol = 65536 }
    ∷ record { word = "abcd"; slot = None; symbol = 65536 }
    ∷ []

words_slots : map (λ w. name_slot table (ascii w.word)) words ≡ map (λ w. w.slot) words
unfolding table words name_slot is_name run slot_of fits is_over padded
words_slots = refl

words_symbols : map (λ w. symbol_named table (ascii w.word)) words ≡ map (λ w. w.symbol) words
unfolding table words name_slot is_name run slot_of fits is_over padded
words_symbols = refl

-- a text, and what it becomes
record Text : Type 0 where
  pub given : String
  pub becomes : String

texts : List Text
texts =
    record { given = "tc3_high & -abc > 12"; becomes = "00000001 & -003 > 12" }
    ∷ record { given = "(abc|xyz_2)=tc3"; becomes = "(003|xyz_2)=tc3" }
    -- a name right after a digit is none, nor is one with a byte more
    ∷ record { given = "3abc & abc3"; becomes = "3abc & abc3" }
    ∷ record { given = "abc-abc"; becomes = "003-003" }
    ∷ record { given = ""; becomes = "" }
    ∷ []

texts_become : map (λ t. replaced table (ascii t.given)) texts ≡ map (λ t. ascii t.becomes) texts
unfolding table texts replaced_from renamed numeral name_slot is_name run slot_of fits is_over padded
texts_become = refl

-- a number that has fewer digits, and one that has more
number_digits : (numeral 8 1 ≡ ascii "00000001") × (numeral 3 200 ≡ ascii "200") × (numeral 2 123 ≡ ascii "23")
unfolding numeral
number_digits = (refl, refl, refl)
