-- Laws of parsing, from the tests that a reader makes and its operands' answers.
use Rattle.meaning.proofs.Kit.{◌≡◌, ◌∙◌, sym, ap, refl, ap₂, List, [], ◌∷◌, ◌≤◌, ℕ, ◌<◌, ◌-◌, ◌+◌, suc, zero, sub-one, arith, length, get_or, drop}
use Rattle.meaning.proofs.Kit.{ne_eqb, eq-eqb, le-leb, lt-leb}
use Rattle.formula.proofs.Words.{Formula, symbol, neg, Refusal, BadLiteral, CutShort, UnknownKind, TooDeep, BytesLeftOver, kind_of, joined}
use Rattle.std.proofs.lemmas.List.{drop-drop}
use Rattle.formula.proofs.Words.{Parsed, good, bad, parse, body_of, symbol_at, after, second_of, levels, whole_of, read_of, past, Result, Ok, Err, Break}
use Rattle.formula.proofs.Words.{Join, Kind, Symbol, Not, Two, Unknown}
use Rattle.formula.proofs.Parts.{onward, onward_drop}

-- ---- a symbol's number

module _ (S : ℕ) where
  pub symbol_none : (body : List ℕ) → length body ≡ 0 → symbol_at S body ≡ bad CutShort 1
  unfolding symbol_at
  symbol_none [] e = refl
  symbol_none (s ∷ rest) e = absurd (omega arith)

  pub symbol_zero : (body : List ℕ) → 0 < length body → get_or body 0 0 ≡ 0 → symbol_at S body ≡ bad BadLiteral 1
  unfolding symbol_at
  symbol_zero [] h e = absurd (omega arith)
  symbol_zero (s ∷ rest) h e = simp (lt-leb 1 s (omega arith))

  pub symbol_beyond : (body : List ℕ) → 0 < length body → S < get_or body 0 0 → symbol_at S body ≡ bad BadLiteral 1
  unfolding symbol_at
  symbol_beyond [] h e = absurd (omega arith)
  symbol_beyond (s ∷ rest) h e = simp (le-leb 1 s (omega arith), lt-leb s S e)

  pub symbol_good : (body : List ℕ) → 0 < length body → 0 < get_or body 0 0 → get_or body 0 0 ≤ S → symbol_at S body ≡ good (symbol (get_or body 0 0)) 2
  unfolding symbol_at
  symbol_good [] h l e = absurd (omega arith)
  symbol_good (s ∷ rest) h l e = simp (le-leb 1 s l, le-leb s S e)

-- ---- the tests where an operand is due

pub parse_deep : (S depth : ℕ) (bytes : List ℕ) → depth ≡ 0 → parse S depth bytes ≡ bad TooDeep 0
unfolding parse
parse_deep S zero bytes e = refl
parse_deep S (suc depth) bytes e = absurd (omega arith)

pub parse_short : (S depth : ℕ) (bytes : List ℕ) → 0 < depth → length bytes ≡ 0 → parse S depth bytes ≡ bad CutShort 0
unfolding parse
parse_short S zero bytes h e = absurd (omega arith)
parse_short S (suc depth) [] h e = refl
parse_short S (suc depth) (k ∷ body) h e = absurd (omega arith)

parse_body : (S depth : ℕ) (bytes : List ℕ) → 0 < depth → 0 < length bytes
    → parse S depth bytes ≡ body_of S (λ l. parse S (depth - 1) l) (kind_of (get_or bytes 0 0)) (drop 1 bytes)
unfolding parse
parse_body S zero bytes h n = absurd (omega arith)
parse_body S (suc depth) [] h n = absurd (omega arith)
parse_body S (suc depth) (k ∷ body) h n = ap (λ (d : ℕ). body_of S (λ l. parse S d l) (kind_of k) body) (sym (sub-one (suc depth)))

-- ---- a formula from its kind and its operands

-- the first operand, and the one that stands past the bytes that the first one takes
abbrev pub first : (S depth : ℕ) → List ℕ → Parsed
first S depth bytes = parse S (depth - 1) (onward 1 bytes)

abbrev pub second : (S depth : ℕ) → List ℕ → ℕ → Parsed
second S depth bytes used = parse S (depth - 1) (onward used (onward 1 bytes))

-- a level is left, and there is a byte that says the kind
pub record At (depth : ℕ) (bytes : List ℕ) (kind : Kind) : Type 0 where
  pub deep : 0 < depth
  pub long : 0 < length bytes
  pub says : kind_of (get_or bytes 0 0) ≡ kind

module _ (S : ℕ) {depth : ℕ} {bytes : List ℕ} where
  by_kind : {kind : Kind} → At depth bytes kind → parse S depth bytes ≡ body_of S (λ l. parse S (depth - 1) l) kind (onward 1 bytes)
  by_kind at =
      parse_body S depth bytes at.deep at.long
      ∙ ap₂ (body_of S (λ l. parse S (depth - 1) l)) at.says (sym (onward_drop 1 bytes))

  pub by_symbol : At depth bytes Symbol → parse S depth bytes ≡ symbol_at S (onward 1 bytes)
  unfolding body_of
  by_symbol at = by_kind at

  pub by_not : At depth bytes Not → parse S depth bytes ≡ after 1 neg (first S depth bytes)
  unfolding body_of
  by_not at = by_kind at

  pub by_unknown : At depth bytes Unknown → parse S depth bytes ≡ bad UnknownKind 0
  unfolding body_of
  by_unknown at = by_kind at

  module _ {join : Join} (at : At depth bytes (Two join)) where
    pub by_first : {why : Refusal} {place : ℕ} → first S depth bytes ≡ bad why place → parse S depth bytes ≡ bad why (1 + place)
    unfolding body_of second_of
    by_first e = by_kind at ∙ rw e

    pub by_second : {f : Formula} {used : ℕ} → first S depth bytes ≡ good f used
        → parse S depth bytes ≡ after (1 + used) (joined join f) (second S depth bytes used)
    unfolding body_of second_of
    by_second {f} {used} e = by_kind at ∙ rw (e, onward_drop used (onward 1 bytes))

-- ---- a reader's answer from its operands' answers

pub answer_good : (p : Parsed) {count : ℕ} → read_of p ≡ Ok count → (f : Formula) × (p ≡ good f count)
answer_good (good f used) {count} e = let same : used ≡ count = cc in (f, ap (good f) same)
answer_good (bad why at) e = let z : ◌≡◌ {A = ℕ} 0 1 = cc in absurd (omega arith)

pub answer_bad : (p : Parsed) {at : Break} → read_of p ≡ Err at → p ≡ bad at.why at.place
answer_bad (good f used) e = let z : ◌≡◌ {A = ℕ} 0 1 = cc in absurd (omega arith)
answer_bad (bad why place) {at} e =
    let same : why ≡ at.why = cc in
    let there : place ≡ at.place = cc in
    ap₂ bad same there

pub past_after : (skipped : ℕ) (wrap : Formula → Formula) (p : Parsed) → past skipped (read_of p) ≡ read_of (after skipped wrap p)
past_after skipped wrap (good f used) = refl
past_after skipped wrap (bad why at) = refl

module _ (S : ℕ) {depth : ℕ} {bytes : List ℕ} where
  pub reads_not : At depth bytes Not → {one : Result ℕ Break} → one ≡ read_of (first S depth bytes) → past 1 one ≡ read_of (parse S depth bytes)
  reads_not at read = ap (past 1) read ∙ past_after 1 neg (first S depth bytes) ∙ sym (ap read_of (by_not S at))

  module _ {join : Join} (at : At depth bytes (Two join)) {one : Result ℕ Break} (read : one ≡ read_of (first S depth bytes)) where
    pub reads_first : {at : Break} → past 1 one ≡ Err at → Err at ≡ read_of (parse S depth bytes)
    reads_first r = first_bad (first S depth bytes) refl (ap (past 1) (sym read) ∙ r)
      where
        first_bad : (p : Parsed) → first S depth bytes ≡ p → {at : Break} → past 1 (read_of p) ≡ Err at → Err at ≡ read_of (parse S depth bytes)
        first_bad (good f used) e r = let z : ◌≡◌ {A = ℕ} 0 1 = cc in absurd (omega arith)
        first_bad (bad why place) e r = sym r ∙ sym (ap read_of (by_first S at e))

    pub reads_second : {count : ℕ} → past 1 one ≡ Ok count → {two : Result ℕ Break} → two ≡ read_of (parse S (depth - 1) (onward count bytes))
        → past count two ≡ read_of (parse S depth bytes)
    reads_second {count} r {two} q = first_good (first S depth bytes) refl (ap (past 1) (sym read) ∙ r)
      where
        first_good : (p : Parsed) → first S depth bytes ≡ p → past 1 (read_of p) ≡ Ok count → past count two ≡ read_of (parse S depth bytes)
        first_good (good f used) e r =
            let is : 1 + used ≡ count = cc in
            let same : onward count bytes ≡ onward used (onward 1 bytes) =
            rw (← is) (onward_drop (1 + used) bytes ∙ sym (onward_drop used (onward 1 bytes) ∙ ap (drop used) (onward_drop 1 bytes) ∙ drop-drop used 1 bytes)) in
            ap₂ past (sym is) (q ∙ ap (λ (l : List ℕ). read_of (parse S (depth - 1) l)) same)
            ∙ past_after (1 + used) (joined join f) (second S depth bytes used)
            ∙ sym (ap read_of (by_second S at e))
        first_good (bad why place) e r = let z : ◌≡◌ {A = ℕ} 0 1 = cc in absurd (omega arith)

-- ---- nothing may follow the whole

module _ (S : ℕ) (bytes : List ℕ) {answer : Result ℕ Break} (read : answer ≡ read_of (parse S levels bytes)) where
  pub whole_used : {count : ℕ} → answer ≡ Ok count → count ≡ length bytes → Ok count ≡ read_of (whole_of S bytes)
  unfolding whole_of
  whole_used {count} r h = rw ((answer_good (parse S levels bytes) (sym read ∙ r)).1, eq-eqb count (length bytes) h)

  pub whole_more : {count : ℕ} → answer ≡ Ok count → count < length bytes
      → Err (record { why = BytesLeftOver; place = count }) ≡ read_of (whole_of S bytes)
  unfolding whole_of
  whole_more {count} r h =
      rw ((answer_good (parse S levels bytes) (sym read ∙ r)).1, ne_eqb count (length bytes) (λ e. omega arith))

  pub whole_bad : {at : Break} → answer ≡ Err at → Err at ≡ read_of (whole_of S bytes)
  unfolding whole_of
  whole_bad r = rw (answer_bad (parse S levels bytes) (sym read ∙ r))
