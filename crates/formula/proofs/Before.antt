-- Nothing is at fault before the first fault: the bytes up to it are the front of a formula, where symbol 1 stands for each operand that is
-- still due. Before a fault of depth it takes one level more, or one byte less.
use Rattle.meaning.proofs.Kit.{◌≡◌, ◌∙◌, sym, ap, refl, true, ◌&&◌, List, [], ◌∷◌, ◌++◌, append_assoc, ◌≤◌, ℕ, ◌<◌, ◌+◌, suc, zero, arith, leb}
use Rattle.meaning.proofs.Kit.{length, drop, take, length-append, take-append-drop, length-take-le, drop_at, take-take, le-leb}
use native.Mathlib.Nat.{add_assoc}
use lib.Seq.{take-add, take-append-le}
use Rattle.formula.proofs.Words.{Formula, symbol, neg, number_of, Refusal, TooDeep, kind_of, joined, Join, Symbol, Not, Two}
use Rattle.formula.specs.Promises.{IsFront}
use Rattle.formula.proofs.Steps.{Taken, one, not, two, Met, deep, short, unknown, missing, beyond, inner, left, right, taken_told}
use Rattle.formula.proofs.Extents.{taken_within}
use Rattle.formula.proofs.Widening.{wider}
use Rattle.formula.proofs.Alone.{alike, alone}

one_more : (n : ℕ) → 1 + n ≡ suc n
one_more n = omega arith

pub split_front : (n more : ℕ) (bytes rest : List ℕ) → n ≤ more → take more bytes ++ rest ≡ take n bytes ++ (drop n (take more bytes) ++ rest)
split_front n more bytes rest h =
    let front = take more bytes in
    ap (λ (l : List ℕ). l ++ rest) (sym (take-append-drop n front))
    ∙ append_assoc (take n front) (drop n front) rest
    ∙ ap (λ (l : List ℕ). l ++ (drop n front ++ rest)) (take-take n more bytes h)

-- some bytes after the front make a formula of them all, as reading takes it
pub record Goes (S depth : ℕ) (front : List ℕ) : Type 0 where
  pub rest : List ℕ
  pub f : Formula
  pub own : Taken S depth (front ++ rest) f (length (front ++ rest))

pub is_front : {S depth : ℕ} {front : List ℕ} → Goes S depth front → IsFront S depth front
is_front {S} g = (g.rest, g.f, taken_told S g.own)

module _ {S : ℕ} where
  -- a formula, as a front and what follows it
  goes : {depth : ℕ} {f : Formula} (front rest whole : List ℕ) → whole ≡ front ++ rest → Taken S depth whole f (length whole) → Goes S depth front
  goes {f = f} front rest whole e t = record { rest = rest; f = f; own = rw (sym e) t }

  -- what is true of a front is true of a shorter one
  pub shorter : {depth : ℕ} (n more : ℕ) (bytes : List ℕ) → n ≤ more → Goes S depth (take more bytes) → Goes S depth (take n bytes)
  shorter n more bytes h g =
      goes (take n bytes) (drop n (take more bytes) ++ g.rest) (take more bytes ++ g.rest) (split_front n more bytes g.rest h) g.own

  -- two formulae after a kind that joins them
  join_taken : {depth k : ℕ} {front rest : List ℕ} {f g : Formula} {join : Join} → kind_of k ≡ Two join → Taken S depth front f (length front)
      → Taken S depth rest g (length rest) → Taken S (suc depth) (k ∷ (front ++ rest)) (joined join f g) (length (k ∷ (front ++ rest)))
  join_taken {depth} {k} {front} {rest} {g = g} e t u =
      let long : length (k ∷ (front ++ rest)) ≡ 1 + length front + length rest = omega (arith, length-append front rest) in
      let own = alike (length front) (front ++ rest) (take-append-le (length front) front rest (omega arith)) (omega arith) t in
      let next : Taken S depth (drop (length front) (front ++ rest)) g (length rest) = rw (drop_at front rest (length front) refl) u in
      rw long (two e own next)

  -- from the front of an operand to that of the whole
  by_not : {depth k : ℕ} (n : ℕ) (body : List ℕ) → kind_of k ≡ Not → Goes S depth (take n body) → Goes S (suc depth) (take (suc n) (k ∷ body))
  by_not {k = k} n body e g =
      let whole = take n body ++ g.rest in
      let long : length (k ∷ whole) ≡ 1 + length whole = omega arith in
      record { rest = g.rest; f = neg g.f; own = rw long (not e g.own) }

  by_second : {depth k used : ℕ} {f : Formula} {join : Join} (n : ℕ) (body : List ℕ) → kind_of k ≡ Two join → Taken S depth body f used
      → Goes S depth (take n (drop used body)) → Goes S (suc depth) (take (suc (used + n)) (k ∷ body))
  by_second {depth} {k} {used} {f} n body e t g =
      let long = length-take-le used body (taken_within t) in
      let own : Taken S depth (take used body) f (length (take used body)) = rw long (alone t) in
      goes (take (suc (used + n)) (k ∷ body)) g.rest (k ∷ (take used body ++ (take n (drop used body) ++ g.rest)))
      (rw (take-add used n body, append_assoc))
      (join_taken e own g.own)

module _ {S : ℕ} (some : 1 ≤ S) where
  -- symbol 1 is on every board
  one_fits : leb 1 1 && leb 1 S ≡ true
  one_fits = le-leb 1 S some

  abbrev first : List ℕ
  first = 0x10 ∷ 1 ∷ []

  first_taken : (depth : ℕ) → Taken S (suc depth) first (symbol 1) 2
  first_taken depth = one refl one_fits

  -- and fits wherever a formula does
  first_beside : {depth used : ℕ} {bytes : List ℕ} {f : Formula} → Taken S depth bytes f used → Taken S depth first (symbol 1) 2
  first_beside (one {d = d} e fits) = first_taken d
  first_beside (not {d = d} e t) = first_taken d
  first_beside (two {d = d} e t u) = first_taken d

  -- so a formula can begin where a level is left, and a second operand follow where a first one does
  nothing_yet : (depth : ℕ) → Goes S (suc depth) []
  nothing_yet depth = record { rest = first; f = symbol 1; own = first_taken depth }

  kind_only : (depth : ℕ) {k : ℕ} → kind_of k ≡ Symbol → Goes S (suc depth) (k ∷ [])
  kind_only depth e = record { rest = 1 ∷ []; f = symbol 1; own = one e one_fits }

  by_first : {depth k : ℕ} {join : Join} (n : ℕ) (body : List ℕ) → kind_of k ≡ Two join → Goes S depth (take n body)
      → Goes S (suc depth) (take (suc n) (k ∷ body))
  by_first {k = k} n body e g =
      goes (take (suc n) (k ∷ body)) (g.rest ++ first) (k ∷ ((take n body ++ g.rest) ++ first)) (rw append_assoc)
      (join_taken e g.own (first_beside g.own))

  -- the bytes before a fault, where the levels are enough for it
  pub begins : {depth at : ℕ} {bytes : List ℕ} {why : Refusal} (d : ℕ) → depth ≤ d → (number_of why ≡ 5 → depth < d) → Met S depth bytes why at
      → Goes S d (take at bytes)
  begins zero room deeper deep = absurd (omega (arith, deeper refl))
  begins zero room deeper short = absurd (omega arith)
  begins zero room deeper (unknown e) = absurd (omega arith)
  begins zero room deeper (missing e) = absurd (omega arith)
  begins zero room deeper (beyond e fits) = absurd (omega arith)
  begins zero room deeper (inner e m) = absurd (omega arith)
  begins zero room deeper (left e m) = absurd (omega arith)
  begins zero room deeper (right e t m) = absurd (omega arith)
  begins (suc d) room deeper deep = nothing_yet d
  begins (suc d) room deeper short = nothing_yet d
  begins (suc d) room deeper (unknown e) = nothing_yet d
  begins (suc d) room deeper (missing e) = kind_only d e
  begins (suc d) room deeper (beyond e fits) = kind_only d e
  begins (suc d) room deeper (inner {d = d'} {at = at} {body = body} e m) =
      rw (one_more at) (by_not at body e (begins {depth = d'} d (omega arith) (λ five. omega (arith, deeper five)) m))
  begins (suc d) room deeper (left {d = d'} {at = at} {body = body} e m) =
      rw (one_more at) (by_first at body e (begins {depth = d'} d (omega arith) (λ five. omega (arith, deeper five)) m))
  begins (suc d) room deeper (right {d = d'} {used = used} {at = at} {body = body} e t m) =
      rw (add_assoc 1 used at, one_more (used + at))
      (by_second at body e (wider S S (omega arith) d (omega arith) t) (begins {depth = d'} d (omega arith) (λ five. omega (arith, deeper five)) m))

  -- and those before the kind byte that leads to a fault of depth, with the levels there are
  pub nearly : {depth at : ℕ} {bytes : List ℕ} (n : ℕ) → at ≡ suc n → Met S depth bytes TooDeep at → Goes S depth (take n bytes)
  nearly n h deep = absurd (omega arith)
  nearly zero h (inner {d = d} e m) = nothing_yet d
  nearly zero h (left {d = d} e m) = nothing_yet d
  nearly zero h (right {d = d} e t m) = nothing_yet d
  nearly (suc n) h (inner {body = body} e m) = by_not n body e (nearly n (omega arith) m)
  nearly (suc n) h (left {body = body} e m) = by_first n body e (nearly n (omega arith) m)
  nearly (suc n) h (right {k = k} {used = used} {at = zero} {body = body} e t m) =
      shorter (suc n) (suc (used + 0)) (k ∷ body) (omega arith) (by_second 0 body e t (record { rest = first; f = symbol 1; own = first_beside t }))
  nearly (suc n) h (right {used = used} {at = suc at} {body = body} e t m) =
      let same : n ≡ used + at = omega arith in
      rw same (by_second at body e t (nearly at refl m))
