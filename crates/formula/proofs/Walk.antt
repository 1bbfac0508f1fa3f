-- A walk over a formula that was read: it has a level, a kind byte and good operands, and its bytes are its operands'.
-- `parse 255` takes every number that a byte can hold for a symbol's; a formula that was read for fewer S is the same there (`wide` of `Widening`).
use Rattle.meaning.proofs.Kit.{◌≡◌, ◌∙◌, sym, ap, refl, true, false, Bool, cond, ◌&&◌, false≢true, List, [], ◌∷◌, ◌≤◌, ℕ, ◌<◌, ◌+◌, suc, zero, arith}
use Rattle.meaning.proofs.Kit.{leb, length, get_or}
use Rattle.formula.proofs.Words.{Formula, symbol, neg, BadLiteral, kind_of, joined, Parsed, good, bad, parse, symbol_at, after, is_good, used_of}
use Rattle.formula.proofs.Words.{Join, Kind, Symbol, Not, Two, Unknown}
use Rattle.formula.proofs.Parts.{onward, onward_length}
use Rattle.formula.proofs.Parsing.{At, first, second, by_symbol, by_not, by_unknown, by_first, by_second}
use Rattle.formula.proofs.Extents.{used_extent, parse_used, first_extent, both_extent}

pub never : {A : Type 0} → false ≡ true → A
never e = absurd (false≢true e)

pub deep : (depth : ℕ) (bytes : List ℕ) → is_good (parse 255 depth bytes) ≡ true → 0 < depth
unfolding parse
deep zero bytes e = never e
deep (suc depth) bytes e = omega arith

pub long : (depth : ℕ) (bytes : List ℕ) → is_good (parse 255 depth bytes) ≡ true → 0 < length bytes
unfolding parse
long zero bytes e = never e
long (suc depth) [] e = never e
long (suc depth) (k ∷ body) e = omega arith

-- the test of a symbol's number, which a good one passed
number_fits : (b : Bool) (s : ℕ) → is_good (cond b (good (symbol s) 2) (bad BadLiteral 1)) ≡ true → b ≡ true
number_fits true s e = refl
number_fits false s e = e

symbol_is : (S : ℕ) (body : List ℕ) → is_good (symbol_at S body) ≡ true → symbol_at S body ≡ good (symbol (get_or body 0 0)) 2
unfolding symbol_at
symbol_is S [] e = never e
symbol_is S (s ∷ rest) e = rw (number_fits (leb 1 s && leb s S) s e)

-- a walk stands at a formula that was read, and the first byte says its kind
pub record Walk (depth : ℕ) (bytes : List ℕ) (kind : Kind) : Type 0 where
  pub well : is_good (parse 255 depth bytes) ≡ true
  pub says : kind_of (get_or bytes 0 0) ≡ kind

-- what a `Not` is made of
pub record MadeNot (depth : ℕ) (bytes : List ℕ) : Type 0 where
  pub f : Formula
  pub used : ℕ
  pub inner : first 255 depth bytes ≡ good f used
  pub whole : parse 255 depth bytes ≡ good (neg f) (1 + used)

-- what a join of two operands is made of
pub record MadeTwo (depth : ℕ) (bytes : List ℕ) (join : Join) : Type 0 where
  pub f : Formula
  pub g : Formula
  pub used : ℕ
  pub more : ℕ
  pub left : first 255 depth bytes ≡ good f used
  pub right : second 255 depth bytes used ≡ good g more
  pub whole : parse 255 depth bytes ≡ good (joined join f g) (1 + used + more)

module _ {depth : ℕ} {bytes : List ℕ} where
  at : {kind : Kind} → Walk depth bytes kind → At depth bytes kind
  at w = record { deep = deep depth bytes w.well; long = long depth bytes w.well; says = w.says }

  -- the formula is good, in whatever words it is told
  is_good_lem : {kind : Kind} → Walk depth bytes kind → {p : Parsed} → parse 255 depth bytes ≡ p → is_good p ≡ true
  is_good_lem w e = sym (ap is_good e) ∙ w.well

  pub made_symbol : Walk depth bytes Symbol → parse 255 depth bytes ≡ good (symbol (get_or (onward 1 bytes) 0 0)) 2
  made_symbol w = let e = by_symbol 255 (at w) in e ∙ symbol_is 255 (onward 1 bytes) (is_good_lem w e)

  pub number_there : Walk depth bytes Symbol → 0 < length (onward 1 bytes)
  number_there w = omega (arith, ap used_of (made_symbol w), parse_used 255 depth bytes, onward_length 1 bytes)

  pub no_unknown : {A : Type 0} → Walk depth bytes Unknown → A
  no_unknown w = never (is_good_lem w (by_unknown 255 (at w)))

  pub made_not : Walk depth bytes Not → MadeNot depth bytes
  made_not w = made (first 255 depth bytes) refl
    where
      made : (p : Parsed) → first 255 depth bytes ≡ p → MadeNot depth bytes
      made (good f used) e = record { f = f; used = used; inner = e; whole = by_not 255 (at w) ∙ ap (after 1 neg) e }
      made (bad why place) e = never (is_good_lem w (by_not 255 (at w) ∙ ap (after 1 neg) e))

  pub not_well : Walk depth bytes Not → is_good (first 255 depth bytes) ≡ true
  not_well w = ap is_good (made_not w).inner

  module _ {join : Join} (w : Walk depth bytes (Two join)) where
    pub made_two : MadeTwo depth bytes join
    made_two = one (first 255 depth bytes) refl
      where
        both : (f : Formula) (used : ℕ) → first 255 depth bytes ≡ good f used → (p : Parsed) → second 255 depth bytes used ≡ p
            → parse 255 depth bytes ≡ after (1 + used) (joined join f) p → MadeTwo depth bytes join
        both f used e (good g more) q is = record { f = f; g = g; used = used; more = more; left = e; right = q; whole = is }
        both f used e (bad why place) q is = never (is_good_lem w is)

        one : (p : Parsed) → first 255 depth bytes ≡ p → MadeTwo depth bytes join
        one (good f used) e = both f used e (second 255 depth bytes used) refl (by_second 255 (at w) e)
        one (bad why place) e = never (is_good_lem w (by_first 255 (at w) e))

    pub first_well : is_good (first 255 depth bytes) ≡ true
    first_well = ap is_good made_two.left

    -- the second operand stands past the bytes that the first one took
    pub made_second : {used : ℕ} → used ≡ used_of (first 255 depth bytes) → second 255 depth bytes used ≡ good made_two.g made_two.more
    made_second u = ap (second 255 depth bytes) (u ∙ ap used_of made_two.left) ∙ made_two.right

    pub second_well : {used : ℕ} → used ≡ used_of (first 255 depth bytes) → is_good (second 255 depth bytes used) ≡ true
    second_well u = ap is_good (made_second u)

  module _ {kind : Kind} (w : Walk depth bytes kind) {used : ℕ} (u : used ≡ used_of (first 255 depth bytes)) where
    pub first_within : 1 + used ≤ length bytes
    first_within = omega (arith, used_extent (first 255 depth bytes), first_extent 255 (at w))

    pub both_within : {more : ℕ} → more ≡ used_of (second 255 depth bytes used) → 1 + used + more ≤ length bytes
    both_within e = omega (arith, used_extent (second 255 depth bytes used), both_extent 255 (at w) used first_within)
