-- Reading a text is going through it byte by byte.
use Rattle.meaning.proofs.Kit.{◌≡◌, ◌∙◌, sym, ap, refl, true, false, Bool, cond, List, [], ◌∷◌, ◌≤◌, ℕ, ◌+◌, suc, zero, add-zero, zero-add, arith}
use Rattle.meaning.proofs.Kit.{eqb, length, get_or, drop, length-drop, drop-drop, ne_eqb, eq-eqb}
use Rattle.chains.proofs.Words.{BadText, Formula, neg, is_digit, Parsed, good, bad, after, read_of, past, extent, Result, Break, Ok, Err, broken, goes_on}
use Rattle.chains.proofs.Words.{lead, number_end, by_start, unit_of, at_close, closed, bracket_at, unit_at, chain_at, most_open, alone, whole_text}
use Rattle.chains.proofs.Words.{Blank, Number, Digits, Bracket, Neither}
use Rattle.chains.proofs.Answering.{past_zero, past_past}
use Rattle.chains.proofs.Extents.{chain_within}
use Rattle.chains.proofs.Going.{Chain, fault, last, leads, chain_read}
use Rattle.chains.proofs.Steps.{State, due, had, Next, on, off, opening, closing, marked, ends, follow, run}

-- from a byte's step on
abbrev going : List ℕ → Next → Result ℕ Break
going rest x = follow (λ t. run t rest) x

-- past a unit and its spaces
abbrev at_mark_lem : (join left : ℕ) → List ℕ → List ℕ → Result ℕ Break
at_mark_lem join left outer [] = ends outer
at_mark_lem join left outer (c ∷ rest) = going rest (marked join left outer c)

-- past a chain
abbrev at_end : (left : ℕ) → List ℕ → List ℕ → Result ℕ Break
at_end left outer [] = ends outer
at_end left outer (c ∷ rest) = going rest (closing left outer c)

-- what a part of the text says, and then how it goes on from there
abbrev onto : (List ℕ → Result ℕ Break) → List ℕ → Parsed → Result ℕ Break
onto next text (good f used) = past used (next (drop used text))
onto next text (bad why at) = broken why at

onto_after : (next : List ℕ → Result ℕ Break) (k : ℕ) (text : List ℕ) (wrap : Formula → Formula) (p : Parsed)
    → past k (onto next (drop k text) p) ≡ onto next text (after k wrap p)
onto_after next k text wrap (good f used) = rw (drop-drop used k text) (past_past k used (k + used) (next (drop (k + used) text)) refl)
onto_after next k text wrap (bad why at) = refl

past_next : (used c : ℕ) (text : List ℕ) {rest : List ℕ} → drop used text ≡ c ∷ rest → drop (used + 1) text ≡ rest
past_next used c text e = sym (drop-drop 1 used text) ∙ ap (drop 1) e

-- ---- a number, and spaces

module _ (join left : ℕ) (outer : List ℕ) where
  -- going on as it does past n bytes, where a mark is looked for
  abbrev Passes : (n : ℕ) → List ℕ → Result ℕ Break → Type 0
  Passes n l a = a ≡ past n (at_mark_lem join left outer (drop n l))

  passed_one : (n c : ℕ) (rest : List ℕ) {a : Result ℕ Break} → Passes n rest a → Passes (suc n) (c ∷ rest) (past 1 a)
  passed_one n c rest e = ap (past 1) e ∙ past_past 1 n (suc n) (at_mark_lem join left outer (drop n rest)) (omega arith)

  blanks : (l : List ℕ) → Passes (lead Blank l) l (run (had false join left outer) l)
  unfolding run lead
  blanks [] = past_zero (ends outer)
  blanks (c ∷ rest) = by (eqb c 32) (blanks rest)
    where
      by : (b : Bool) → Passes (lead Blank rest) rest (run (had false join left outer) rest)
          → Passes (cond b (suc (lead Blank rest)) 0) (c ∷ rest) (going rest (cond b (on (had false join left outer)) (marked join left outer c)))
      by true inner = passed_one (lead Blank rest) c rest inner
      by false inner = past_zero (going rest (marked join left outer c))

  digit : (c : ℕ) (rest : List ℕ) → is_digit c ≡ true → Passes (number_end rest) rest (run (had true join left outer) rest)
      → Passes (number_end (c ∷ rest)) (c ∷ rest) (past 1 (run (had true join left outer) rest))
  unfolding lead
  digit c rest e inner =
      let n = lead Number rest in
      let m = lead Blank (drop n rest) in
      let long : suc n + m ≡ suc (n + m) = omega arith in
      rw (e, long) (passed_one (n + m) c rest inner)

  digits : (l : List ℕ) → Passes (number_end l) l (run (had true join left outer) l)
  unfolding run lead
  digits [] = past_zero (ends outer)
  digits (c ∷ rest) = by (is_digit c) refl (digits rest)
    where
      by : (b : Bool) → is_digit c ≡ b → Passes (number_end rest) rest (run (had true join left outer) rest)
          → Passes (number_end (c ∷ rest)) (c ∷ rest)
          (going rest (cond b (on (had true join left outer)) (cond (eqb c 32) (on (had false join left outer)) (marked join left outer c))))
      by true e inner = digit c rest e inner
      by false e inner = rw (e, zero-add) (blanks (c ∷ rest))

-- ---- a unit

abbrev Opens : (List ℕ → Parsed) → (join left : ℕ) → List ℕ → Type 0
Opens bracket join left outer =
    (c : ℕ) (rest : List ℕ) → going rest (opening join left outer) ≡ onto (at_mark_lem join left outer) (c ∷ rest) (bracket (c ∷ rest))

module _ (bracket : List ℕ → Parsed) (join left : ℕ) (outer : List ℕ) (opens : Opens bracket join left outer) where
  unit_steps : (text : List ℕ) → run (due join left outer) text ≡ onto (at_mark_lem join left outer) text (unit_of bracket text)
  unfolding run unit_of
  unit_steps [] = refl
  unit_steps (c ∷ rest) = by (eqb c 32) (eqb c 45) (is_digit c) refl (eqb c 40) (unit_steps rest)
    where
      by : (blank minus number : Bool) → is_digit c ≡ number → (mark : Bool)
          → run (due join left outer) rest ≡ onto (at_mark_lem join left outer) rest (unit_of bracket rest)
          → going rest
          (cond blank (on (due join left outer))
          (cond minus (on (due join left outer)) (cond number (on (had true join left outer)) (cond mark (opening join left outer) off))))
          ≡ onto (at_mark_lem join left outer) (c ∷ rest)
          (cond blank (after 1 (λ f. f) (unit_of bracket rest))
          (cond minus (after 1 neg (unit_of bracket rest)) (by_start bracket (cond number Digits (cond mark Bracket Neither)) (c ∷ rest))))
      by true minus number e mark inner = ap (past 1) inner ∙ onto_after (at_mark_lem join left outer) 1 (c ∷ rest) (λ f. f) (unit_of bracket rest)
      by false true number e mark inner = ap (past 1) inner ∙ onto_after (at_mark_lem join left outer) 1 (c ∷ rest) neg (unit_of bracket rest)
      by false false true e mark inner = digit join left outer c rest e (digits join left outer rest)
      by false false false e true inner = opens c rest
      by false false false e false inner = refl

-- ---- a chain

module _ (unit : List ℕ → Parsed) (left : ℕ) (outer : List ℕ)
    (passes : (join : ℕ) (text : List ℕ) → run (due join left outer) text ≡ onto (at_mark_lem join left outer) text (unit text)) where
  -- past the last unit no mark goes on
  past_last : (join : ℕ) (rest : List ℕ) → goes_on join (get_or rest 0 0) ≡ false → at_mark_lem join left outer rest ≡ at_end left outer rest
  past_last join [] g = refl
  past_last join (c ∷ rest) g = rw g

  read_steps : {join : ℕ} {wrap : Formula → Formula} {text : List ℕ} {ts : List (List ℕ)} {p : Parsed} → Chain unit join wrap text ts p
      → run (due join left outer) text ≡ onto (at_end left outer) text p
  read_steps (fault {join = join} {text = text} e) = passes join text ∙ rw e
  read_steps (last {join = join} {used = used} {text = text} e g) = passes join text ∙ rw (e, past_last join (drop used text) g)
  read_steps (leads {join = join} {used = used} {c = c} {text = text} {rest = rest} {p = p} e d g m) =
      passes join text
      ∙ rw (e, d, g, read_steps m)
      (past_past used 1 (used + 1) (onto (at_end left outer) rest p) refl
      ∙ ap (λ (l : List ℕ). past (used + 1) (onto (at_end left outer) l p)) (sym (past_next used c text d))
      ∙ onto_after (at_end left outer) (used + 1) text (λ g. g) p)

-- ---- a bracket

module _ (join left : ℕ) (outer inner : List ℕ) where
  close_steps : (f : Formula) (used : ℕ) (rest : List ℕ) → drop used inner ≡ rest
      → past used (at_end left (join ∷ outer) rest) ≡ onto (at_mark_lem join (suc left) outer) inner (at_close f used rest)
  unfolding at_close
  close_steps f used [] e = ap (broken BadText) (add-zero used)
  close_steps f used (c ∷ rest) e = by (eqb c 41)
    where
      by : (b : Bool) → past used (going rest (cond b (on (had false join (suc left) outer)) off))
          ≡ onto (at_mark_lem join (suc left) outer) inner (cond b (good f (used + 1 + lead Blank rest)) (bad BadText used))
      by true =
          let n = lead Blank rest in
          let there : drop (used + 1 + n) inner ≡ drop n rest = sym (drop-drop n (used + 1) inner) ∙ ap (drop n) (past_next used c inner e) in
          rw (there, blanks join (suc left) outer rest)
          (past_past used 1 (used + 1) (past n (at_mark_lem join (suc left) outer (drop n rest))) refl
          ∙ past_past (used + 1) n (used + 1 + n) (at_mark_lem join (suc left) outer (drop n rest)) refl)
      by false = ap (broken BadText) (add-zero used)

  closed_steps : (p : Parsed) → onto (at_end left (join ∷ outer)) inner p ≡ onto (at_mark_lem join (suc left) outer) inner (closed inner p)
  unfolding closed
  closed_steps (good f used) = close_steps f used (drop used inner) refl
  closed_steps (bad why at) = refl

chain_steps : (left : ℕ) (outer text : List ℕ) → ((join : ℕ) → Opens (λ l. bracket_at left l) join left outer)
    → run (due 0 left outer) text ≡ onto (at_end left outer) text (chain_at left text)
chain_steps left outer text opens =
    read_steps (λ l. unit_at left l) left outer (λ join. unit_steps (λ l. bracket_at left l) join left outer (opens join))
    (chain_read (λ l. unit_at left l) (suc (length text)) 0 (λ f. f) text (omega arith))

bracket_steps : (left : ℕ) (outer : List ℕ) (join : ℕ) → Opens (λ l. bracket_at left l) join left outer
unfolding bracket_at
bracket_steps zero outer join c rest = refl
bracket_steps (suc left) outer join c rest =
    let p = chain_at left rest in
    ap (past 1) (chain_steps left (join ∷ outer) rest (bracket_steps left (join ∷ outer)) ∙ closed_steps join left outer rest p)
    ∙ onto_after (at_mark_lem join (suc left) outer) 1 (c ∷ rest) (λ f. f) (closed rest p)

-- ---- the whole text

alone_steps : (left : ℕ) (text : List ℕ) (p : Parsed) → extent (read_of p) ≤ length text → onto (at_end left []) text p ≡ read_of (alone (length text) p)
alone_steps left text (good f used) h = by (drop used text) refl
  where
    by : (rest : List ℕ) → drop used text ≡ rest
        → past used (at_end left [] rest) ≡ read_of (cond (eqb used (length text)) (good f used) (bad BadText used))
    by [] e = rw (eq-eqb used (length text) (omega (arith, ap length e, length-drop used text))) (ap Ok (add-zero used))
    by (c ∷ rest) e =
        rw (ne_eqb used (length text) (λ same. omega (arith, ap length e, length-drop used text))) (ap (broken BadText) (add-zero used))
alone_steps left text (bad why at) h = refl

abbrev pub start : State
start = due 0 most_open []

pub whole_steps : (text : List ℕ) → run start text ≡ read_of (whole_text text)
unfolding whole_text
whole_steps text =
    chain_steps most_open [] text (bracket_steps most_open [])
    ∙ alone_steps most_open text (chain_at most_open text) (chain_within most_open text)
