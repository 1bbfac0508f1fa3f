-- A formula takes at most two bytes for each byte of its text.
use Rattle.meaning.proofs.Kit.{◌≡◌, ◌∙◌, sym, ap, refl, true, false, Bool, cond, List, [], ◌∷◌, ◌≤◌, ℕ, ◌+◌, suc, ◌*◌, zero, arith, eqb, length, drop}
use Rattle.meaning.proofs.Kit.{take, replicate, length-append, length-replicate, length-take-le}
use Rattle.chains.proofs.Words.{Formula, symbol, start_of, belongs, Parsed, good, decimal, lead, by_start, unit_of, chain_of, closed, bracket_at}
use Rattle.chains.proofs.Words.{unit_at, chain_at, bytes_of, minuses_of, Blank, Denial, Number, Start, Digits, Bracket, Neither}
use Rattle.chains.proofs.Runs.{lead_extent, denied, unit_run}
use Rattle.chains.proofs.Stores.{minus_within}
use Rattle.chains.proofs.Going.{Chain, fault, last, leads, chain_read}
use Rattle.chains.proofs.Same.{after_used, closed_used, denied_bytes, joined_bytes}

abbrev size : Formula → ℕ
size f = length (bytes_of f)

-- ---- a chain

module _ (unit : List ℕ → Parsed) (small : (t : List ℕ) (f : Formula) (u : ℕ) → unit t ≡ good f u → size f ≤ 2 * u) where
  -- with n bytes more for what stands before
  read_small : {join : ℕ} {wrap : Formula → Formula} {text : List ℕ} {ts : List (List ℕ)} {p : Parsed} (n : ℕ)
      → ((g : Formula) → size (wrap g) ≤ n + size g) → Chain unit join wrap text ts p → {f : Formula} {used : ℕ} → p ≡ good f used
      → size f ≤ n + 2 * used
  read_small n w (fault e) q = let z : ◌≡◌ {A = ℕ} 0 1 = cc in absurd (omega arith)
  read_small n w (last {used = u} {wrap = wrap} {text = text} {f = g} e s) {f} {used} q =
      let same : f ≡ wrap g = cc in
      let there : used ≡ u = cc in
      omega (arith, ap size same, w g, small text g u e)
  read_small n w (leads {used = u} {c = c} {wrap = wrap} {text = text} {f = g} {p = p} e d s m) q =
      let part = after_used (u + 1) (λ g. g) p q in
      let rest = read_small (1 + size (wrap g))
      (λ h. omega (arith, ap length (joined_bytes c (wrap g) h), length-append (bytes_of (wrap g)) (bytes_of h))) m part.2 in
      omega (arith, rest, ap size part.3, part.4, w g, small text g u e)

  chain_small : (text : List ℕ) {f : Formula} {used : ℕ} → chain_of unit text ≡ good f used → size f ≤ 2 * used
  chain_small text e = omega (arith, read_small 0 (λ g. omega arith) (chain_read unit (suc (length text)) 0 (λ f. f) text (omega arith)) e)

-- ---- a unit

digits_some : (l : List ℕ) → start_of l ≡ Digits → 1 ≤ lead Number l
unfolding lead
digits_some [] e = let z : ◌≡◌ {A = ℕ} 0 1 = cc in absurd (omega arith)
digits_some (c ∷ rest) e = by (belongs Number c) (eqb c 40) e
  where
    by : (b d : Bool) → cond b Digits (cond d Bracket Neither) ≡ Digits → 1 ≤ cond b (suc (lead Number rest)) 0
    by true d h = omega arith
    by false true h = let z : ◌≡◌ {A = ℕ} 0 1 = cc in absurd (omega arith)
    by false false h = let z : ◌≡◌ {A = ℕ} 0 1 = cc in absurd (omega arith)

module _ (bracket : List ℕ → Parsed) (small : (t : List ℕ) (f : Formula) (u : ℕ) → bracket t ≡ good f u → size f ≤ 2 * u) where
  start_small : (s : Start) (l : List ℕ) → start_of l ≡ s → {f : Formula} {u : ℕ} → by_start bracket s l ≡ good f u → size f ≤ 2 * u
  unfolding bytes_of
  start_small Digits l r {f} {u} e =
      let d = take (lead Number l) l in
      let same : f ≡ symbol (decimal 0 d) = cc in
      let there : u ≡ lead Number l + lead Blank (drop (lead Number l) l) = cc in
      omega (arith, ap size same, there, digits_some l r)
  start_small Bracket l r {f} {u} e = small l f u e
  start_small Neither l r e = let z : ◌≡◌ {A = ℕ} 0 1 = cc in absurd (omega arith)

  unit_small : (text : List ℕ) (f : Formula) (used : ℕ) → unit_of bracket text ≡ good f used → size f ≤ 2 * used
  unit_small text f used e =
      let k = lead Denial text in
      let body = drop k text in
      let part = after_used k (denied (take k text)) (by_start bracket (start_of body) body) (sym (unit_run bracket text) ∙ e) in
      let n = minuses_of (take k text) in
      let parts = ap length (denied_bytes (take k text) part.0) in
      let long = length-append (replicate n 17) (bytes_of part.0) in
      let signs : n ≤ k = omega (arith, minus_within (take k text), length-take-le k text (lead_extent Denial text)) in
      omega (arith, ap size part.3, parts, long, length-replicate {A = ℕ} n 17, signs, start_small (start_of body) body refl part.2, part.4)

bracket_small : (b : ℕ) (text : List ℕ) (f : Formula) (used : ℕ) → bracket_at b text ≡ good f used → size f ≤ 2 * used
unfolding bracket_at
bracket_small zero text f used e = let z : ◌≡◌ {A = ℕ} 0 1 = cc in absurd (omega arith)
bracket_small (suc b) text f used e =
    let unit : List ℕ → Parsed = λ l. unit_of (λ k. bracket_at b k) l in
    let part = after_used 1 (λ g. g) (closed (drop 1 text) (chain_of unit (drop 1 text))) e in
    let inner = closed_used (drop 1 text) (chain_of unit (drop 1 text)) part.2 in
    omega (arith, ap size part.3, part.4, inner.2, chain_small unit (unit_small (λ k. bracket_at b k) (bracket_small b)) (drop 1 text) inner.1)

pub chain_twice : (b : ℕ) (text : List ℕ) {f : Formula} {used : ℕ} → chain_at b text ≡ good f used → length (bytes_of f) ≤ 2 * used
chain_twice b text e = chain_small (λ l. unit_at b l) (unit_small (λ k. bracket_at b k) (bracket_small b)) text e
