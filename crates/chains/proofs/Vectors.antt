-- Worked texts, as the definitions read them on a board of five symbols, and formulae as they write them: one computed statement each.
use Rattle.meaning.proofs.Kit.{◌≡◌, refl, List, [], ◌∷◌, ◌++◌, map, ℕ, replicate}
use Prim.Native.String.{String}
use Rattle.chains.proofs.Words.{symbol, neg, and, or, imp, same, number_of, Parsed, good, bad, whole_of, parse, body_of, symbol_at, second_of}
use Rattle.chains.proofs.Words.{bytes_of, decimal, digits_of, whole_text, more, go_on, from_mark, unit_of, bracket_at, closed, at_close, lead, spelled}
use Rattle.chains.proofs.Words.{unit_text}
use Rattle.spelling.proofs.Ascii.{ascii}

-- a text's bytes, or the number of its refusal and the place
data Comes : Type 0 where
  bytes : List ℕ → Comes
  refused : (number at : ℕ) → Comes

abbrev by_bytes : List ℕ → Parsed → Comes
by_bytes l (good f used) = bytes l
by_bytes l (bad why at) = refused (number_of why) at

abbrev by_form : Parsed → Comes
by_form (good f used) = by_bytes (bytes_of f) (whole_of 5 (bytes_of f))
by_form (bad why at) = refused (number_of why) at

abbrev comes : List ℕ → Comes
comes text = by_form (whole_text text)

-- a text, and what it comes to
record Case : Type 0 where
  pub text : String
  pub found : Comes

cases : List Case
cases =
    record { text = "1 & -2 > 3"; found = refused 15 7 }
    ∷ record { text = "(1&-2)>3"; found = bytes (0x14 ∷ 0x12 ∷ 0x10 ∷ 1 ∷ 0x11 ∷ 0x10 ∷ 2 ∷ 0x10 ∷ 3 ∷ []) }
    ∷ record { text = "-(1=2)"; found = bytes (0x11 ∷ 0x15 ∷ 0x10 ∷ 1 ∷ 0x10 ∷ 2 ∷ []) }
    ∷ record { text = "1|2|3|4"; found = bytes (0x13 ∷ 0x13 ∷ 0x13 ∷ 0x10 ∷ 1 ∷ 0x10 ∷ 2 ∷ 0x10 ∷ 3 ∷ 0x10 ∷ 4 ∷ []) }
    ∷ record { text = "((1))"; found = bytes (0x10 ∷ 1 ∷ []) }
    ∷ record { text = "0001"; found = bytes (0x10 ∷ 1 ∷ []) }
    ∷ record { text = "300"; found = refused 2 1 }
    ∷ record { text = "1&6"; found = refused 2 4 }
    -- sixteen `-` and then a symbol, fifteen, sixteen alone
    ∷ record { text = "----------------1"; found = refused 5 16 }
    ∷ record { text = "--------------- 1 "; found = bytes (replicate 15 0x11 ++ (0x10 ∷ 1 ∷ [])) }
    ∷ record { text = "----------------"; found = refused 15 16 }
    -- sixteen brackets, and seventeen
    ∷ record { text = "((((((((((((((((1))))))))))))))))"; found = bytes (0x10 ∷ 1 ∷ []) }
    ∷ record { text = "(((((((((((((((((1)))))))))))))))))"; found = refused 15 16 }
    ∷ record { text = "1 2"; found = refused 15 2 }
    ∷ record { text = "1>2>3"; found = refused 15 3 }
    ∷ record { text = "1&2|3"; found = refused 15 3 }
    ∷ record { text = "(1"; found = refused 15 2 }
    ∷ record { text = ""; found = refused 15 0 }
    ∷ record { text = "9&"; found = refused 15 2 }
    ∷ []

read : map (λ (c : Case). comes (ascii c.text)) cases ≡ map (λ (c : Case). c.found) cases
unfolding cases whole_text more go_on from_mark unit_of bracket_at closed at_close lead decimal bytes_of whole_of parse body_of symbol_at second_of
read = refl

written :
    map spelled
    (imp (and (symbol 1) (neg (symbol 2))) (symbol 3) ∷ neg (same (symbol 1) (symbol 20)) ∷ or (or (symbol 1) (symbol 2)) (symbol 103) ∷ [])
    ≡ ascii "(1&-2)>3" ∷ ascii "-(1=20)" ∷ ascii "(1|2)|103" ∷ []
unfolding spelled unit_text digits_of
written = refl
