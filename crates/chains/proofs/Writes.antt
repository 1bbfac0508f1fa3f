-- Laws of what is written of a unit, of units and of a chain.
use Rattle.meaning.proofs.Kit.{◌≡◌, ◌∙◌, sym, ap, refl, ap₂, List, [], ◌∷◌, ◌++◌, append-nil, ◌≤◌, ℕ, ◌<◌, ◌-◌, ◌+◌, suc, zero, sub-one, arith}
use Rattle.meaning.proofs.Kit.{length, drop, take, replicate, length-append, length-replicate, sets}
use Rattle.chains.proofs.Words.{start_of, unit_at, lead, Put, minuses_of, kind_for, start_on, starts, starts_at, joins_at, mark_at, symbol_bytes}
use Rattle.chains.proofs.Words.{start_bytes, unit_bytes_of, flat, bracket_bytes, unit_bytes, units_bytes, chain_bytes, Denial, Start, Digits, Bracket}
use Rattle.chains.proofs.Words.{Neither}
use Rattle.meaning.proofs.Tables.{sets_append}
use Rattle.formula.proofs.Parts.{onward, onward_drop}
use Rattle.spelling.proofs.Pieces.{put_put}

fill_put : (before : List ℕ) {after : List ℕ} (at n byte : ℕ) → after ≡ sets before at (replicate n byte)
    → Put before after at (replicate n byte) (at + n)
fill_put before at n byte e = record { written = e; ends = omega (arith, length-replicate n byte) }

-- ---- a chain

module _ (b : ℕ) (text : List ℕ) where
  pub chain_length : length (chain_bytes b text) ≡ joins_at b text + length (units_bytes b text)
  chain_length =
      let kinds = replicate (joins_at b text) (kind_for (mark_at b text)) in
      omega (arith, length-append kinds (units_bytes b text), length-replicate (joins_at b text) (kind_for (mark_at b text)))

  pub chain_put : (before : List ℕ) (at n : ℕ) {middle after : List ℕ} {mark kind last : ℕ} → n ≡ joins_at b text → mark ≡ mark_at b text
      → kind ≡ kind_for mark
      → middle ≡ sets before at (replicate n kind) → Put middle after (at + n) (units_bytes b text) last → Put before after at (chain_bytes b text) last
  chain_put before at n {middle} {after} {mark} {kind} {last} en em ek e p =
      rw (sym en, sym em, sym ek) (put_put (replicate n kind) (units_bytes b text) (fill_put before at n kind e) p)

-- ---- a unit

bracket_none : (b : ℕ) (l : List ℕ) → b ≡ 0 → bracket_bytes b l ≡ []
unfolding bracket_bytes
bracket_none zero l e = refl
bracket_none (suc b) l e = absurd (omega arith)

bracket_opens : (b : ℕ) (l : List ℕ) → 0 < b → bracket_bytes b l ≡ chain_bytes (b - 1) (onward 1 l)
unfolding bracket_bytes
bracket_opens zero l h = absurd (omega arith)
bracket_opens (suc b) l h =
    ap (λ (d : ℕ). chain_bytes d (drop 1 l)) (sym (sub-one (suc b))) ∙ ap (λ (k : List ℕ). chain_bytes (suc b - 1) k) (sym (onward_drop 1 l))

-- past `skipped` bytes of a unit's text there are no more spaces and minus signs, and n of them are minus signs
pub record Signed (text : List ℕ) (skipped n : ℕ) : Type 0 where
  pub passed : skipped ≡ lead Denial text
  pub counted : n ≡ minuses_of (take skipped text)

module _ (b : ℕ) {text : List ℕ} {skipped n : ℕ} (d : Signed text skipped n) where
  by_start_lem : {start : Start} → start_of (onward skipped text) ≡ start
      → unit_bytes b text ≡ replicate n 0x11 ++ start_bytes (λ l. bracket_bytes b l) start (onward skipped text)
  unfolding unit_bytes_of
  by_start_lem {start} s =
      ap (λ (j : ℕ). replicate (minuses_of (take j text)) 0x11 ++ start_bytes (λ l. bracket_bytes b l) (start_of (drop j text)) (drop j text))
      (sym d.passed)
      ∙ ap₂ (λ (j : ℕ) (l : List ℕ). replicate j 0x11 ++ start_bytes (λ l. bracket_bytes b l) (start_of l) l)
      (sym d.counted) (sym (onward_drop skipped text))
      ∙ ap (λ (s : Start). replicate n 0x11 ++ start_bytes (λ l. bracket_bytes b l) s (onward skipped text)) s

  pub signs_within : n ≤ length (unit_bytes b text)
  signs_within =
      let rest = start_bytes (λ l. bracket_bytes b l) (start_of (onward skipped text)) (onward skipped text) in
      omega (arith, ap length (by_start_lem refl), length-append (replicate n 0x11) rest, length-replicate {A = ℕ} n 0x11)

  pub symbol_within : start_of (onward skipped text) ≡ Digits → n + 2 ≤ length (unit_bytes b text)
  symbol_within s =
      omega (arith, ap length (by_start_lem s), length-append (replicate n 0x11) (symbol_bytes (onward skipped text)), length-replicate {A = ℕ} n 0x11)

  module _ {before : List ℕ} {at : ℕ} {middle : List ℕ} (e : middle ≡ sets before at (replicate n 0x11)) where
    signs : Put before middle at (replicate n 0x11) (at + n)
    signs = fill_put before at n 0x11 e

    pub by_neither : start_of (onward skipped text) ≡ Neither → Put before middle at (unit_bytes b text) (at + n)
    by_neither s = rw (by_start_lem s, append-nil) signs

    pub by_digits : start_of (onward skipped text) ≡ Digits → {after : List ℕ} → after ≡ sets middle (at + n) (symbol_bytes (onward skipped text))
        → Put before after at (unit_bytes b text) (at + n + 2)
    by_digits s {after} w =
        rw (by_start_lem s) (put_put (replicate n 0x11) (symbol_bytes (onward skipped text)) signs (record { written = w; ends = refl }))

    module _ (s : start_of (onward skipped text) ≡ Bracket) where
      pub by_seventeenth : b ≡ 0 → Put before middle at (unit_bytes b text) (at + n)
      by_seventeenth z = rw (by_start_lem s, bracket_none b (onward skipped text) z, append-nil) signs

      pub by_bracket : 0 < b → {after : List ℕ} {last : ℕ} → Put middle after (at + n) (chain_bytes (b - 1) (onward 1 (onward skipped text))) last
          → Put before after at (unit_bytes b text) last
      by_bracket h p =
          rw (by_start_lem s, bracket_opens b (onward skipped text) h)
          (put_put (replicate n 0x11) (chain_bytes (b - 1) (onward 1 (onward skipped text))) signs p)

  pub chain_within : start_of (onward skipped text) ≡ Bracket → 0 < b
      → n + length (chain_bytes (b - 1) (onward 1 (onward skipped text))) ≡ length (unit_bytes b text)
  chain_within s h =
      let inner = chain_bytes (b - 1) (onward 1 (onward skipped text)) in
      let parts : unit_bytes b text ≡ replicate n 0x11 ++ inner = rw (by_start_lem s, bracket_opens b (onward skipped text) h) in
      omega (arith, ap length parts, length-append (replicate n 0x11) inner, length-replicate {A = ℕ} n 0x11)

-- ---- units: what is left to write makes the whole

pub record Remains (before : List ℕ) (start : ℕ) (whole out : List ℕ) (to : ℕ) (left : List ℕ) : Type 0 where
  pub makes : sets before start whole ≡ sets out to left
  pub ends : start + length whole ≡ to + length left

-- what is written of the units from here on
abbrev pub left_at : (b : ℕ) (text : List ℕ) (at join : ℕ) → List ℕ
left_at b text at join = flat (λ l. unit_bytes b l) (starts_at b join (drop at text))

pub unit_room : (b : ℕ) (text : List ℕ) (at join : ℕ) → length (unit_bytes b (onward at text)) ≤ length (left_at b text at join)
unfolding flat starts
unit_room b text at join =
    let t = drop at text in
    let next : ℕ → List ℕ → List (List ℕ) = λ c rest. starts (λ l. unit_at b l) (length t) c rest in
    let rest = flat (λ l. unit_bytes b l) (start_on next join t (unit_at b t)) in
    omega (arith, ap (λ l. length (unit_bytes b l)) (onward_drop at text), length-append (unit_bytes b t) rest)

module _ (b : ℕ) (text : List ℕ) (at join : ℕ) {before whole out out' : List ℕ} {start to to' : ℕ}
    (p : Put out out' to (unit_bytes b (onward at text)) to') (r : Remains before start whole out to (left_at b text at join)) where
  abbrev u : List ℕ
  u = unit_bytes b (onward at text)

  parts : {ts : List (List ℕ)} → starts_at b join (drop at text) ≡ drop at text ∷ ts → left_at b text at join ≡ u ++ flat (λ l. unit_bytes b l) ts
  unfolding flat
  parts e = rw (e, onward_drop at text)

  pub units_next : (join' at' : ℕ) → starts_at b join (drop at text) ≡ drop at text ∷ starts_at b join' (drop at' text)
      → Remains before start whole out' to' (left_at b text at' join')
  units_next join' at' e =
      let left = left_at b text at' join' in
      record {
        makes = r.makes ∙ rw (parts e, sets_append out to u left, p.written, p.ends);
        ends = omega (arith, r.ends, ap length (parts e), length-append u left, p.ends);
      }

  last : starts_at b join (drop at text) ≡ drop at text ∷ [] → left_at b text at join ≡ u
  unfolding flat
  last e = parts e ∙ append-nil u

  pub units_last : starts_at b join (drop at text) ≡ drop at text ∷ [] → Put before out' start whole to'
  units_last e =
      let all : left_at b text at join ≡ u = last e in
      record { written = p.written ∙ sym (r.makes ∙ rw all); ends = omega (arith, r.ends, ap length all, p.ends) }
