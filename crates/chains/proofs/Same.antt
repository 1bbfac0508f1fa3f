-- What is written of a text is the prefix bytes of the formula that the text says.
use Rattle.meaning.proofs.Kit.{◌≡◌, ◌∙◌, sym, ap, refl, true, false, Bool, cond, List, [], ◌∷◌, ◌++◌, append-nil, append_assoc, ◌≤◌, ℕ, ◌-◌, ◌+◌, suc}
use Rattle.meaning.proofs.Kit.{◌*◌, zero, add-zero, arith, eqb, leb, length, get_or, drop, take, replicate, get_or-drop, ne_eqb, eqb-true, lt-leb}
use Rattle.meaning.proofs.Kit.{leb-false}
use Rattle.chains.proofs.Words.{BadText, Formula, symbol, neg, and, or, imp, same, start_of, goes_on, joined_by, Parsed, good, bad, after}
use Rattle.chains.proofs.Words.{decimal, lead, by_start, unit_of, chain_of, at_close, closed, bracket_at, unit_at, chain_at, number_byte, bytes_of}
use Rattle.chains.proofs.Words.{minuses_of, capped, kind_for, starts, mark_on, start_bytes, unit_bytes_of, flat, bracket_bytes, unit_bytes, chain_bytes}
use Rattle.chains.proofs.Words.{Blank, Denial, Number, Start, Digits, Bracket, Neither}
use Rattle.formula.proofs.Walk.{never}
use Rattle.chains.proofs.Runs.{denied, unit_run}
use Rattle.chains.proofs.Going.{Chain, fault, last, leads, chain_read}

-- ---- a good parse of a part, from one of the whole

pub after_used : (k : ℕ) (wrap : Formula → Formula) (p : Parsed) {f : Formula} {used : ℕ} → after k wrap p ≡ good f used
    → (g : Formula) × (u : ℕ) × (p ≡ good g u) × (f ≡ wrap g) × (used ≡ k + u)
after_used k wrap (good g u) {f} {used} e =
    let same : f ≡ wrap g = cc in
    let there : used ≡ k + u = cc in
    (g, u, refl, same, there)
after_used k wrap (bad why at) e = let z : ◌≡◌ {A = ℕ} 0 1 = cc in absurd (omega arith)

close_used : (g : Formula) (u : ℕ) (rest : List ℕ) {f : Formula} {used : ℕ} → at_close g u rest ≡ good f used → (f ≡ g) × (u ≤ used)
unfolding at_close
close_used g u [] e = let z : ◌≡◌ {A = ℕ} 0 1 = cc in absurd (omega arith)
close_used g u (c ∷ rest) {f} {used} e = by (eqb c 41) e
  where
    by : (b : Bool) → cond b (good g (u + 1 + lead Blank rest)) (bad BadText u) ≡ good f used → (f ≡ g) × (u ≤ used)
    by true h = let there : used ≡ u + 1 + lead Blank rest = cc in (cc, omega arith)
    by false h = let z : ◌≡◌ {A = ℕ} 0 1 = cc in absurd (omega arith)

pub closed_used : (inner : List ℕ) (p : Parsed) {f : Formula} {used : ℕ} → closed inner p ≡ good f used → (u : ℕ) × (p ≡ good f u) × (u ≤ used)
unfolding closed
closed_used inner (good g u) {f} {used} e =
    let c = close_used g u (drop u inner) e in
    (u, ap (λ (h : Formula). good h u) (sym c.0), c.1)
closed_used inner (bad why at) e = let z : ◌≡◌ {A = ℕ} 0 1 = cc in absurd (omega arith)

-- ---- the marks of a chain

mark_some : (join c : ℕ) → goes_on join c ≡ true → c ≡ 0 → ⊥
mark_some join c g e = never (sym (ap (goes_on join) e) ∙ g)

pick : (b₁ b₂ b₃ b₄ e : Bool) → cond b₁ e (cond b₂ e (cond b₃ false (cond b₄ false false))) ≡ true → e ≡ true
pick true b₂ b₃ b₄ e h = h
pick false true b₃ b₄ e h = h
pick false false true b₄ e h = never h
pick false false false true e h = never h
pick false false false false e h = never h

mark_same : (join c : ℕ) → (join ≡ 0 → ⊥) → goes_on join c ≡ true → join ≡ c
mark_same join c n g = eqb-true join c (pick (eqb c 38) (eqb c 124) (eqb c 62) (eqb c 61) (eqb join c) (simp (ne_eqb join 0 n) at g))

pub joined_bytes : (c : ℕ) (f g : Formula) → bytes_of (joined_by c f g) ≡ kind_for c ∷ bytes_of f ++ bytes_of g
unfolding bytes_of
joined_bytes c f g = by (eqb c 38) (eqb c 124) (eqb c 62)
  where
    by : (x y z : Bool) → bytes_of (cond x (and f g) (cond y (or f g) (cond z (imp f g) (same f g)))) ≡ cond x 0x12 (cond y 0x13 (cond z 0x14 0x15))
        ∷ bytes_of f ++ bytes_of g
    by true y z = refl
    by false true z = refl
    by false false true = refl
    by false false false = refl

-- ---- a chain

slide : (n k : ℕ) (l : List ℕ) → replicate n k ++ (k ∷ l) ≡ k ∷ (replicate n k ++ l)
slide zero k l = refl
slide (suc n) k l = ap (λ (m : List ℕ). k ∷ m) (slide n k l)

module _ (unit : List ℕ → Parsed) (bytes : List ℕ → List ℕ) (says : (t : List ℕ) (f : Formula) (u : ℕ) → unit t ≡ good f u → bytes t ≡ bytes_of f)
  where
    -- the bytes of a formula F with units joined to it
    abbrev Spelt : Formula → ℕ → Formula → List (List ℕ) → Type 0
    Spelt f k F ts = bytes_of f ≡ replicate (length ts) k ++ (bytes_of F ++ flat bytes ts)

    spelt_none : (k : ℕ) {f F : Formula} → f ≡ F → Spelt f k F []
    unfolding flat
    spelt_none k {f} {F} e = ap bytes_of e ∙ sym (append-nil (bytes_of F))

    -- a unit more is joined to F
    spelt_more : (c : ℕ) (f F g : Formula) (t : List ℕ) (ts : List (List ℕ)) → bytes t ≡ bytes_of g → Spelt f (kind_for c) (joined_by c F g) ts
        → Spelt f (kind_for c) F (t ∷ ts)
    unfolding flat
    spelt_more c f F g t ts e s =
        let k = kind_for c in
        let n = length ts in
        s
        ∙ ap (λ (l : List ℕ). replicate n k ++ (l ++ flat bytes ts)) (joined_bytes c F g)
        ∙ slide n k ((bytes_of F ++ bytes_of g) ++ flat bytes ts)
        ∙ ap (λ (l : List ℕ). k ∷ (replicate n k ++ l)) (append_assoc (bytes_of F) (bytes_of g) (flat bytes ts) ∙ ap
        (λ (l : List ℕ). bytes_of F ++ (l ++ flat bytes ts)) (sym e))

    -- units joined to F by one mark
    read_bytes : {join : ℕ} {wrap : Formula → Formula} {text : List ℕ} {ts : List (List ℕ)} {p : Parsed} (F : Formula) → (join ≡ 0 → ⊥)
        → ((g : Formula) → wrap g ≡ joined_by join F g) → Chain unit join wrap text ts p → {f : Formula} {used : ℕ} → p ≡ good f used
        → Spelt f (kind_for join) F ts
    read_bytes F n w (fault e) q = let z : ◌≡◌ {A = ℕ} 0 1 = cc in absurd (omega arith)
    read_bytes F n w (last {join = join} {used = u} {wrap = wrap} {text = text} {f = g} e s) {f} q =
        let same : f ≡ wrap g = cc in
        spelt_more join f F g text [] (says text g u e) (spelt_none (kind_for join) (same ∙ w g))
    read_bytes F n w (leads {join = join} {used = u} {c = c} {wrap = wrap} {text = text} {f = g} {ts = ts} {p = p} e d s m) {f} q =
        let part = after_used (u + 1) (λ g. g) p q in
        let whole : p ≡ good f part.1 = part.2 ∙ ap (λ (x : Formula). good x part.1) (sym part.3) in
        let rest = read_bytes (wrap g) (mark_some join c s) (λ h. refl) m whole in
        spelt_more join f F g text ts (says text g u e) (rw (sym (mark_same join c n s), w g) at rest)

    -- the first unit stands alone
    first_bytes : {text : List ℕ} {ts : List (List ℕ)} {p : Parsed} → Chain unit 0 (λ f. f) text ts p → {f : Formula} {used : ℕ} → p ≡ good f used
        → replicate (length ts - 1) (kind_for (mark_on text (unit text))) ++ flat bytes ts ≡ bytes_of f
    unfolding flat
    first_bytes (fault e) q = let z : ◌≡◌ {A = ℕ} 0 1 = cc in absurd (omega arith)
    first_bytes (last {used = u} {text = text} {f = g} e s) {f} q =
        let same : f ≡ g = cc in
        append-nil (bytes text) ∙ says text g u e ∙ ap bytes_of (sym same)
    first_bytes (leads {used = u} {c = c} {text = text} {rest = rest} {f = g} {ts = ts} {p = p} e d s m) {f} q =
        let part = after_used (u + 1) (λ g. g) p q in
        let whole : p ≡ good f part.1 = part.2 ∙ ap (λ (x : Formula). good x part.1) (sym part.3) in
        let here : get_or text u 0 ≡ c = sym (get_or-drop u text 0 0 ∙ ap (λ (n : ℕ). get_or text n 0) (add-zero u)) ∙ ap (λ (l : List ℕ). get_or l 0 0) d in
        let less : suc (length ts) - 1 ≡ length ts = omega arith in
        rw (less, e, here, says text g u e) (sym (read_bytes g (mark_some 0 c s) (λ h. refl) m whole))

    chain_bytes_lem : (text : List ℕ) {f : Formula} {used : ℕ} → chain_of unit text ≡ good f used
        → replicate (length (starts unit (suc (length text)) 0 text) - 1) (kind_for (mark_on text (unit text))) ++ flat bytes
        (starts unit (suc (length text)) 0 text) ≡ bytes_of f
    chain_bytes_lem text e = first_bytes (chain_read unit (suc (length text)) 0 (λ f. f) text (omega arith)) e

-- ---- a unit

number_byte_more : (a d : ℕ) → number_byte (number_byte a * 10 + d) ≡ number_byte (a * 10 + d)
number_byte_more a d = by (leb a 255) refl
  where
    by : (b : Bool) → leb a 255 ≡ b → number_byte (cond b a 255 * 10 + d) ≡ number_byte (a * 10 + d)
    by true e = refl
    by false e = let h = leb-false a 255 e in simp (lt-leb (255 * 10 + d) 255 (omega arith), lt-leb (a * 10 + d) 255 (omega arith))

capped_is : (a : ℕ) (l : List ℕ) → capped (number_byte a) l ≡ number_byte (decimal a l)
unfolding capped decimal
capped_is a [] = refl
capped_is a (c ∷ rest) = ap (λ (s : ℕ). capped s rest) (number_byte_more a (c - 48)) ∙ capped_is (a * 10 + (c - 48)) rest

pub denied_bytes : (part : List ℕ) (f : Formula) → bytes_of (denied part f) ≡ replicate (minuses_of part) 0x11 ++ bytes_of f
unfolding denied minuses_of bytes_of
denied_bytes [] f = refl
denied_bytes (c ∷ rest) f = by (eqb c 45) (denied_bytes rest f)
  where
    by : (b : Bool) → bytes_of (denied rest f) ≡ replicate (minuses_of rest) 0x11 ++ bytes_of f
        → bytes_of (cond b (neg (denied rest f)) (denied rest f)) ≡ replicate (cond b (suc (minuses_of rest)) (minuses_of rest)) 0x11 ++ bytes_of f
    by true h = ap (λ (l : List ℕ). 0x11 ∷ l) h
    by false h = h

module _ (bracket : List ℕ → Parsed) (bytes : List ℕ → List ℕ)
    (says : (t : List ℕ) (f : Formula) (u : ℕ) → bracket t ≡ good f u → bytes t ≡ bytes_of f) where
  start_bytes_lem : (s : Start) (l : List ℕ) {f : Formula} {u : ℕ} → by_start bracket s l ≡ good f u → start_bytes bytes s l ≡ bytes_of f
  unfolding bytes_of
  start_bytes_lem Digits l {f} {u} e =
      let d = take (lead Number l) l in
      let same : f ≡ symbol (decimal 0 d) = cc in
      ap (λ (n : ℕ). 0x10 ∷ n ∷ []) (capped_is 0 d) ∙ ap bytes_of (sym same)
  start_bytes_lem Bracket l {f} {u} e = says l f u e
  start_bytes_lem Neither l e = let z : ◌≡◌ {A = ℕ} 0 1 = cc in absurd (omega arith)

  unit_bytes_lem : (text : List ℕ) (f : Formula) (used : ℕ) → unit_of bracket text ≡ good f used → unit_bytes_of bytes text ≡ bytes_of f
  unfolding unit_bytes_of
  unit_bytes_lem text f used e =
      let k = lead Denial text in
      let body = drop k text in
      let part = after_used k (denied (take k text)) (by_start bracket (start_of body) body) (sym (unit_run bracket text) ∙ e) in
      sym (
      ap bytes_of part.3 ∙ denied_bytes (take k text) part.0
      ∙ ap (λ (l : List ℕ). replicate (minuses_of (take k text)) 0x11 ++ l) (sym (start_bytes_lem (start_of body) body part.2)))

bracket_bytes_lem : (b : ℕ) (text : List ℕ) (f : Formula) (used : ℕ) → bracket_at b text ≡ good f used → bracket_bytes b text ≡ bytes_of f
unfolding bracket_at bracket_bytes
bracket_bytes_lem zero text f used e = let z : ◌≡◌ {A = ℕ} 0 1 = cc in absurd (omega arith)
bracket_bytes_lem (suc b) text f used e =
    let unit : List ℕ → Parsed = λ l. unit_of (λ k. bracket_at b k) l in
    let bytes : List ℕ → List ℕ = λ l. unit_bytes_of (λ k. bracket_bytes b k) l in
    let part = after_used 1 (λ g. g) (closed (drop 1 text) (chain_of unit (drop 1 text))) e in
    let inner = closed_used (drop 1 text) (chain_of unit (drop 1 text)) part.2 in
    chain_bytes_lem unit bytes (λ t g u. unit_bytes_lem (λ k. bracket_at b k) (λ k. bracket_bytes b k) (bracket_bytes_lem b) t g u) (drop 1 text) inner.1 ∙ ap
    bytes_of (sym part.3)

-- what is written of a chain is the prefix bytes of the formula that it says
pub chain_same : (b : ℕ) (text : List ℕ) {f : Formula} {used : ℕ} → chain_at b text ≡ good f used → chain_bytes b text ≡ bytes_of f
chain_same b text e =
    chain_bytes_lem (λ l. unit_at b l) (λ l. unit_bytes b l) (λ t g u. unit_bytes_lem (λ k. bracket_at b k) (λ k. bracket_bytes b k) (bracket_bytes_lem b) t g u)
    text e
