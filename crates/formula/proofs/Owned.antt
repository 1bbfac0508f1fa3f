-- A formula's own bytes, read: they are that formula, or are refused for a symbol's number or for depth, and for nothing else.
use Rattle.meaning.proofs.Kit.{◌≡◌, ap, refl, ap₂, inl, inr, ◌⊎◌, true, false, Bool, cond, ◌&&◌, List, [], ◌∷◌, ◌++◌, append-nil, append_assoc, ℕ}
use Rattle.meaning.proofs.Kit.{◌<◌, ◌+◌, suc, zero, arith, leb, length, length-append, drop_at, eq-eqb, leb-true}
use Rattle.formula.proofs.Words.{Formula, symbol, neg, and, or, imp, same, number_of, BadLiteral, joined, Parsed, good, bad, levels, parse}
use Rattle.formula.proofs.Words.{after, symbol_at, second_of, body_of, ended, whole_of, bytes_of, number_byte, Join, And, Or, Implies, Same}
use Rattle.meaning.proofs.Tests.{both_true}

-- so many bytes are taken, and they are the formula where no symbol is 255; or the refusal is 2 or 5
abbrev pub Owned : (S : ℕ) → Formula → (size : ℕ) → Parsed → Type 0
Owned S f size (good g used) = (S < 255 → g ≡ f) × (used ≡ size)
Owned S f size (bad why at) = (number_of why ≡ 2) ⊎ (number_of why ≡ 5)

number_small : (s n : ℕ) → number_byte s < n → n < 256 → number_byte s ≡ s
number_small s n h k = elim (leb s 255) as (λ b. cond b s 255 < n → cond b s 255 ≡ s) [ true ↦ λ l. refl | false ↦ λ l. absurd (omega arith) ] h

symbol_owned : (S s : ℕ) (rest : List ℕ) → Owned S (symbol s) 2 (symbol_at S (number_byte s ∷ rest))
unfolding symbol_at
symbol_owned S s rest = picked (leb 1 (number_byte s) && leb (number_byte s) S) refl
  where
    picked : (b : Bool) → leb 1 (number_byte s) && leb (number_byte s) S ≡ b
        → Owned S (symbol s) 2 (cond b (good (symbol (number_byte s)) 2) (bad BadLiteral 1))
    picked true e =
        let low = leb-true (number_byte s) S (both_true (leb 1 (number_byte s)) (leb (number_byte s) S) e).1 in
        (λ few. ap symbol (number_small s (suc S) (omega (arith, low)) (omega arith)), refl)
    picked false e = inl refl

module _ (S : ℕ) where
  after_owned : (skipped size : ℕ) (wrap : Formula → Formula) (f : Formula) (p : Parsed) → Owned S f size p
      → Owned S (wrap f) (skipped + size) (after skipped wrap p)
  after_owned skipped size wrap f (good g used) h = (λ few. ap wrap (h.0 few), ap (λ (n : ℕ). skipped + n) h.1)
  after_owned skipped size wrap f (bad why at) h = h

  second_owned : (operand : List ℕ → Parsed) (join : Join) (f g : Formula) (first rest : List ℕ) (size : ℕ) (p : Parsed) → Owned S f (length first) p
      → Owned S g size (operand rest) → Owned S (joined join f g) (1 + length first + size) (second_of operand join (first ++ rest) p)
  unfolding second_of
  second_owned operand join f g first rest size (good h used) o k =
      rw (o.1, drop_at first rest (length first) refl) (both (operand rest) k)
    where
      both : (q : Parsed) → Owned S g size q → Owned S (joined join f g) (1 + length first + size) (after (1 + length first) (joined join h) q)
      both (good i more) m = (λ few. ap₂ (joined join) (o.0 few) (m.0 few), ap (λ (n : ℕ). 1 + length first + n) m.1)
      both (bad why at) m = m
  second_owned operand join f g first rest size (bad why at) o k = o

  -- a form of two operands, from theirs
  two_owned : (d : ℕ) (join : Join) (f g : Formula) (rest : List ℕ)
      → ((r : List ℕ) → Owned S f (length (bytes_of f)) (parse S d (bytes_of f ++ r)))
      → Owned S g (length (bytes_of g)) (parse S d (bytes_of g ++ rest))
      → Owned S (joined join f g) (suc (length (bytes_of f ++ bytes_of g)))
      (second_of (λ l. parse S d l) join ((bytes_of f ++ bytes_of g) ++ rest) (parse S d ((bytes_of f ++ bytes_of g) ++ rest)))
  two_owned d join f g rest first second =
      let size : suc (length (bytes_of f ++ bytes_of g)) ≡ 1 + length (bytes_of f) + length (bytes_of g) =
      omega (arith, length-append (bytes_of f) (bytes_of g)) in
      rw (size, append_assoc)
      (second_owned (λ l. parse S d l) join f g (bytes_of f) (bytes_of g ++ rest) (length (bytes_of g)) (parse S d (bytes_of f ++ (bytes_of g ++ rest)))
      (first (bytes_of g ++ rest)) second)

  owned : (depth : ℕ) (f : Formula) (rest : List ℕ) → Owned S f (length (bytes_of f)) (parse S depth (bytes_of f ++ rest))
  unfolding bytes_of parse body_of
  owned zero f rest = inr refl
  owned (suc d) (symbol s) rest = symbol_owned S s rest
  owned (suc d) (neg f) rest =
      let size : suc (length (bytes_of f)) ≡ 1 + length (bytes_of f) = omega arith in
      rw size (after_owned 1 (length (bytes_of f)) neg f (parse S d (bytes_of f ++ rest)) (owned d f rest))
  owned (suc d) (and f g) rest = two_owned d And f g rest (owned d f) (owned d g rest)
  owned (suc d) (or f g) rest = two_owned d Or f g rest (owned d f) (owned d g rest)
  owned (suc d) (imp f g) rest = two_owned d Implies f g rest (owned d f) (owned d g rest)
  owned (suc d) (same f g) rest = two_owned d Same f g rest (owned d f) (owned d g rest)

  ended_owned : (f : Formula) (size : ℕ) (p : Parsed) → Owned S f size p → Owned S f size (ended size p)
  ended_owned f size (good g used) h = rw (eq-eqb used size h.1) h
  ended_owned f size (bad why at) h = h

  pub whole_owned : (f : Formula) → Owned S f (length (bytes_of f)) (whole_of S (bytes_of f))
  unfolding whole_of
  whole_owned f =
      let size = length (bytes_of f) in
      let alone : Owned S f size (parse S levels (bytes_of f)) = rw append-nil at (owned levels f []) in
      ended_owned f size (parse S levels (bytes_of f)) alone
