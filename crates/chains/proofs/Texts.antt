-- The text of a formula that was read, from its operands' texts, and how it stands in a buffer piece by piece.
use Rattle.meaning.proofs.Kit.{◌≡◌, ◌∙◌, sym, ap, refl, List, [], ◌∷◌, ◌++◌, ℕ, ◌+◌, arith, length, get_or, set, length-append}
use Rattle.chains.proofs.Words.{formula_of, used_of, Parsed, parse, Join, Symbol, Not, Two, natural, Put, pair, bracketed, mark_of, unit_text}
use Rattle.chains.proofs.Words.{spelled}
use Rattle.formula.proofs.Parts.{onward}
use Rattle.formula.proofs.Parsing.{first, second}
use Rattle.formula.proofs.Walk.{Walk, made_symbol, made_not, made_two, made_second}
use Rattle.spelling.proofs.Pieces.{put_put}
use Rattle.chains.proofs.Joins.{spelled_joined, unit_joined}

-- the formula's text as a unit, and with no brackets round it
abbrev pub unit_text_of : Parsed → List ℕ
unit_text_of p = unit_text (formula_of p)

abbrev pub spelled_of : Parsed → List ℕ
spelled_of p = spelled (formula_of p)

module _ {depth : ℕ} {bytes : List ℕ} where
  pub symbol_text : Walk depth bytes Symbol → unit_text_of (parse 255 depth bytes) ≡ natural (get_or (onward 1 bytes) 0 0)
  unfolding unit_text
  symbol_text w = rw (made_symbol w)

  pub not_text : Walk depth bytes Not → unit_text_of (parse 255 depth bytes) ≡ 45 ∷ unit_text_of (first 255 depth bytes)
  unfolding unit_text
  not_text w = rw ((made_not w).whole, (made_not w).inner)

  module _ {join : Join} (w : Walk depth bytes (Two join)) where
    pub bracket_text : unit_text_of (parse 255 depth bytes) ≡ bracketed (spelled_of (parse 255 depth bytes))
    bracket_text =
        let made = made_two w in
        rw made.whole (unit_joined made.f made.g join ∙ ap bracketed (sym (spelled_joined made.f made.g join)))

    pub pair_text : {used : ℕ} → used ≡ used_of (first 255 depth bytes)
        → spelled_of (parse 255 depth bytes) ≡ pair (mark_of join) (unit_text_of (first 255 depth bytes)) (unit_text_of (second 255 depth bytes used))
    pair_text u =
        let made = made_two w in
        rw (made.whole, made.left, made_second w u) (spelled_joined made.f made.g join)

-- ---- in a buffer

-- `used` bytes are those of p, and its text stands from place `at` to `next`
abbrev pub Told : (Parsed → List ℕ) → Parsed → (before after : List ℕ) → (at used next : ℕ) → Type 0
Told text p before after at used next = (used ≡ used_of p) × Put before after at (text p) next

byte : {before after : List ℕ} {at v : ℕ} → after ≡ set before at v → Put before after at (v ∷ []) (at + 1)
byte e = record { written = e; ends = refl }

module _ {depth : ℕ} {bytes before after : List ℕ} {at : ℕ} where
  pub told_symbol : Walk depth bytes Symbol → {next : ℕ} → Put before after at (natural (get_or (onward 1 bytes) 0 0)) next
      → Told unit_text_of (parse 255 depth bytes) before after at 2 next
  told_symbol w p = (sym (ap used_of (made_symbol w)), rw (symbol_text w) p)

  pub told_not : Walk depth bytes Not → {middle : List ℕ} {used next : ℕ} → middle ≡ set before at 45
      → Told unit_text_of (first 255 depth bytes) middle after (at + 1) used next
      → Told unit_text_of (parse 255 depth bytes) before after at (1 + used) next
  told_not w {used = used} e t =
      let made = made_not w in
      let count : 1 + used ≡ used_of (parse 255 depth bytes) = omega (arith, t.0, ap used_of made.inner, ap used_of made.whole) in
      (count, rw (not_text w) (put_put (45 ∷ []) (unit_text_of (first 255 depth bytes)) (byte e) t.1))

  module _ {join : Join} (w : Walk depth bytes (Two join)) where
    pub told_bracket : {opened inner : List ℕ} {used next : ℕ} → opened ≡ set before at 40
        → Told spelled_of (parse 255 depth bytes) opened inner (at + 1) used next → after ≡ set inner next 41
        → Told unit_text_of (parse 255 depth bytes) before after at used (next + 1)
    told_bracket o t e =
        let text = spelled_of (parse 255 depth bytes) in
        (t.0, rw (bracket_text w) (put_put (40 ∷ []) (text ++ (41 ∷ [])) (byte o) (put_put text (41 ∷ []) t.1 (byte e))))

    pub told_pair : {one two : List ℕ} {used mid mark more next : ℕ} → Told unit_text_of (first 255 depth bytes) before one at used mid
        → mark ≡ mark_of join → two ≡ set one mid mark → Told unit_text_of (second 255 depth bytes used) two after (mid + 1) more next
        → Told spelled_of (parse 255 depth bytes) before after at (1 + used + more) next
    told_pair {one} {used = used} {mid = mid} {more = more} t m e u =
        let made = made_two w in
        let left = unit_text_of (first 255 depth bytes) in
        let right = unit_text_of (second 255 depth bytes used) in
        let count : 1 + used + more ≡ used_of (parse 255 depth bytes) =
        omega (arith, t.0, u.0, ap used_of made.left, ap used_of (made_second w t.0), ap used_of made.whole) in
        let mark = byte (e ∙ ap (set one mid) m) in
        (count, rw (pair_text w t.0) (put_put left (mark_of join ∷ right) t.1 (put_put (mark_of join ∷ []) right mark u.1)))

-- ---- how much room a text takes

module _ {depth : ℕ} {bytes : List ℕ} {join : Join} (w : Walk depth bytes (Two join)) where
  pub bracket_length : length (unit_text_of (parse 255 depth bytes)) ≡ 2 + length (spelled_of (parse 255 depth bytes))
  bracket_length = omega (arith, ap length (bracket_text w), length-append (spelled_of (parse 255 depth bytes)) (41 ∷ []))

  pub pair_length : {used : ℕ} → used ≡ used_of (first 255 depth bytes)
      → length (spelled_of (parse 255 depth bytes))
      ≡ length (unit_text_of (first 255 depth bytes)) + 1 + length (unit_text_of (second 255 depth bytes used))
  pair_length {used} u =
      let left = unit_text_of (first 255 depth bytes) in
      let right = unit_text_of (second 255 depth bytes used) in
      omega (arith, ap length (pair_text w u), length-append left (mark_of join ∷ right))
