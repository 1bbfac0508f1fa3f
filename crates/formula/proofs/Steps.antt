-- How reading goes: from the front, a formula is taken or a fault is met.
-- "Where an operand is due the tests run 5, 3, 4, then 3 for the body, then 2; the first fault met is the answer."
use Rattle.meaning.proofs.Kit.{◌≡◌, refl, subst, true, false, Bool, cond, ◌&&◌, List, [], ◌∷◌, ℕ, ◌+◌, suc, zero, leb, drop}
use Rattle.formula.proofs.Words.{Formula, symbol, neg, Refusal, BadLiteral, CutShort, UnknownKind, TooDeep, kind_of, joined, Parsed, good, bad}
use Rattle.formula.proofs.Words.{parse, body_of, symbol_at, after, second_of, Join, Kind, Symbol, Not, Two, Unknown}

-- a formula is taken from the front of the bytes, so many of them
pub data Taken (S : ℕ) : (depth : ℕ) → List ℕ → Formula → ℕ → Type 0 where
  one : {d k s : ℕ} {rest : List ℕ} → kind_of k ≡ Symbol → leb 1 s && leb s S ≡ true → Taken S (suc d) (k ∷ s ∷ rest) (symbol s) 2
  not : {d k used : ℕ} {body : List ℕ} {f : Formula} → kind_of k ≡ Not → Taken S d body f used → Taken S (suc d) (k ∷ body) (neg f) (1 + used)
  two : {d k used more : ℕ} {body : List ℕ} {f g : Formula} {join : Join} → kind_of k ≡ Two join → Taken S d body f used
      → Taken S d (drop used body) g more → Taken S (suc d) (k ∷ body) (joined join f g) (1 + used + more)

-- a fault is met: one of the tests of an operand, or a fault of one of its own operands
pub data Met (S : ℕ) : (depth : ℕ) → List ℕ → Refusal → ℕ → Type 0 where
  deep : {bytes : List ℕ} → Met S zero bytes TooDeep 0
  short : {d : ℕ} → Met S (suc d) [] CutShort 0
  unknown : {d k : ℕ} {body : List ℕ} → kind_of k ≡ Unknown → Met S (suc d) (k ∷ body) UnknownKind 0
  missing : {d k : ℕ} → kind_of k ≡ Symbol → Met S (suc d) (k ∷ []) CutShort 1
  beyond : {d k s : ℕ} {rest : List ℕ} → kind_of k ≡ Symbol → leb 1 s && leb s S ≡ false → Met S (suc d) (k ∷ s ∷ rest) BadLiteral 1
  inner : {d k at : ℕ} {body : List ℕ} {why : Refusal} → kind_of k ≡ Not → Met S d body why at → Met S (suc d) (k ∷ body) why (1 + at)
  left : {d k at : ℕ} {body : List ℕ} {why : Refusal} {join : Join} → kind_of k ≡ Two join → Met S d body why at
      → Met S (suc d) (k ∷ body) why (1 + at)
  right : {d k used at : ℕ} {body : List ℕ} {f : Formula} {why : Refusal} {join : Join} → kind_of k ≡ Two join → Taken S d body f used
      → Met S d (drop used body) why at → Met S (suc d) (k ∷ body) why (1 + used + at)

-- ---- what parsing tells is what reading comes to

abbrev Told : (S depth : ℕ) → List ℕ → Parsed → Type 0
Told S depth bytes (good f used) = Taken S depth bytes f used
Told S depth bytes (bad why at) = Met S depth bytes why at

module _ (S : ℕ) where
  symbol_told : (d k : ℕ) (body : List ℕ) → kind_of k ≡ Symbol → Told S (suc d) (k ∷ body) (symbol_at S body)
  unfolding symbol_at
  symbol_told d k [] e = missing e
  symbol_told d k (s ∷ rest) e = picked (leb 1 s && leb s S) refl
    where
      picked : (b : Bool) → leb 1 s && leb s S ≡ b → Told S (suc d) (k ∷ s ∷ rest) (cond b (good (symbol s) 2) (bad BadLiteral 1))
      picked true fits = one e fits
      picked false fits = beyond e fits

  module _ (d k : ℕ) (body : List ℕ) where
    not_told : kind_of k ≡ Not → (p : Parsed) → Told S d body p → Told S (suc d) (k ∷ body) (after 1 neg p)
    not_told e (good f used) t = not e t
    not_told e (bad why at) t = inner e t

    right_told : {join : Join} {f : Formula} {used : ℕ} → kind_of k ≡ Two join → Taken S d body f used → (p : Parsed) → Told S d (drop used body) p
        → Told S (suc d) (k ∷ body) (after (1 + used) (joined join f) p)
    right_told e t (good g more) u = two e t u
    right_told e t (bad why at) u = right e t u

    module _ (each : (l : List ℕ) → Told S d l (parse S d l)) where
      two_told : {join : Join} → kind_of k ≡ Two join → (p : Parsed) → Told S d body p
          → Told S (suc d) (k ∷ body) (second_of (λ l. parse S d l) join body p)
      unfolding second_of
      two_told e (good f used) t = right_told e t (parse S d (drop used body)) (each (drop used body))
      two_told e (bad why at) t = left e t

      body_told : (kind : Kind) → kind_of k ≡ kind → Told S (suc d) (k ∷ body) (body_of S (λ l. parse S d l) kind body)
      unfolding body_of
      body_told Symbol e = symbol_told d k body e
      body_told Not e = not_told e (parse S d body) (each body)
      body_told (Two join) e = two_told e (parse S d body) (each body)
      body_told Unknown e = unknown e

  told : (depth : ℕ) (bytes : List ℕ) → Told S depth bytes (parse S depth bytes)
  unfolding parse
  told zero bytes = deep
  told (suc d) [] = short
  told (suc d) (k ∷ body) = body_told d k body (told d) (kind_of k) refl

  module _ {depth : ℕ} {bytes : List ℕ} where
    pub taken : {f : Formula} {used : ℕ} → parse S depth bytes ≡ good f used → Taken S depth bytes f used
    taken e = subst (Told S depth bytes) e (told depth bytes)

    pub met : {why : Refusal} {at : ℕ} → parse S depth bytes ≡ bad why at → Met S depth bytes why at
    met e = subst (Told S depth bytes) e (told depth bytes)

  pub taken_told : {depth : ℕ} {bytes : List ℕ} {f : Formula} {used : ℕ} → Taken S depth bytes f used → parse S depth bytes ≡ good f used
  unfolding parse body_of symbol_at second_of
  taken_told (one e fits) = rw (e, fits)
  taken_told (not e t) = rw (e, taken_told t)
  taken_told (two e t u) = rw (e, taken_told t, taken_told u)

  pub met_told : {depth : ℕ} {bytes : List ℕ} {why : Refusal} {at : ℕ} → Met S depth bytes why at → parse S depth bytes ≡ bad why at
  unfolding parse body_of symbol_at second_of
  met_told deep = refl
  met_told short = refl
  met_told (unknown e) = rw e
  met_told (missing e) = rw e
  met_told (beyond e fits) = rw (e, fits)
  met_told (inner e m) = rw (e, met_told m)
  met_told (left e m) = rw (e, met_told m)
  met_told (right e t m) = rw (e, taken_told t, met_told m)
