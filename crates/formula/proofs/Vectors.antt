-- Formulae and faults as the definitions read them: each computes.
use Rattle.meaning.proofs.Kit.{◌≡◌, refl, true, false, [], ◌∷◌, ◌++◌, replicate}
use Rattle.formula.proofs.Words.{Formula, symbol, neg, and, or, imp, symbols_of, occurs, value, BadLiteral, CutShort, UnknownKind, TooDeep}
use Rattle.formula.proofs.Words.{BytesLeftOver, good, bad, parse, body_of, symbol_at, second_of, whole_of, bits, truth_of}
use Rattle.formula.specs.Answers.{bit_at}

-- 15 times "not"
abbrev nots : Formula → Formula
nots f = neg (neg (neg (neg (neg (neg (neg (neg (neg (neg (neg (neg (neg (neg (neg f))))))))))))))

-- (1 or 2) and (not 1 or 3); fifteen "not" and a symbol are good, sixteen "not" and no more are too deep, not cut short
whole :
    (whole_of 3 (0x12 ∷ 0x13 ∷ 0x10 ∷ 1 ∷ 0x10 ∷ 2 ∷ 0x13 ∷ 0x11 ∷ 0x10 ∷ 1 ∷ 0x10 ∷ 3 ∷ [])
    ≡ good (and (or (symbol 1) (symbol 2)) (or (neg (symbol 1)) (symbol 3))) 12)
    × (whole_of 1 (replicate 15 0x11 ++ (0x10 ∷ 1 ∷ [])) ≡ good (nots (symbol 1)) 17)
    × (whole_of 1 (replicate 16 0x11) ≡ bad TooDeep 16)
unfolding whole_of parse body_of symbol_at second_of
whole = (refl, refl, refl)

-- where a formula breaks: no byte at all, a kind missing, a number missing, a kind that is none, a symbol that is 0 and one beyond 3, a byte
-- too many
breaks :
    (whole_of 3 [] ≡ bad CutShort 0)
    × (whole_of 3 (0x14 ∷ 0x10 ∷ 1 ∷ []) ≡ bad CutShort 3)
    × (whole_of 3 (0x14 ∷ 0x10 ∷ 1 ∷ 0x10 ∷ []) ≡ bad CutShort 4)
    × (whole_of 3 (0x12 ∷ 0x10 ∷ 1 ∷ 0x99 ∷ []) ≡ bad UnknownKind 3)
    × (whole_of 3 (0x13 ∷ 0x10 ∷ 1 ∷ 0x10 ∷ 0 ∷ []) ≡ bad BadLiteral 4)
    × (whole_of 3 (0x14 ∷ 0x10 ∷ 1 ∷ 0x10 ∷ 4 ∷ []) ≡ bad BadLiteral 4)
    × (whole_of 3 (0x10 ∷ 1 ∷ 0x10 ∷ []) ≡ bad BytesLeftOver 2)
unfolding whole_of parse body_of symbol_at second_of
breaks = (refl, refl, refl, refl, refl, refl, refl)

-- the symbols rise, and the first has the highest bit: "3 implies 1" fails at number 1 of 0 to 3 alone
names : symbols_of 5 (imp (symbol 3) (symbol 1)) ≡ 1 ∷ 3 ∷ []
unfolding symbols_of occurs
names = refl

highest_first : bits 2 1 ≡ false ∷ true ∷ []
unfolding bits bit_at
highest_first = refl

values : truth_of (1 ∷ 3 ∷ []) (good (imp (symbol 3) (symbol 1)) 5) ≡ true ∷ false ∷ true ∷ true ∷ []
unfolding truth_of value
values = refl
