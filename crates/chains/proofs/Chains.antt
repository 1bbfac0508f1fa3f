-- Laws of a chain, unit by unit: where its units start, and what is read of it. How many units there may be, and what stands before, change neither.
use Rattle.meaning.proofs.Kit.{◌≡◌, ◌∙◌, sym, ap, refl, true, false, List, [], ◌∷◌, ◌≤◌, ℕ, ◌<◌, ◌+◌, suc, add-zero, add-one, arith, length, get_or}
use Rattle.meaning.proofs.Kit.{drop, list_get_or_eq_default, drop-cons, get_or-drop, drop-drop}
use Rattle.chains.proofs.Words.{Refusal, Formula, goes_on, joined_by, Parsed, good, more, starts, starts_at, unit_at, chain_at, read_of, past}
use Rattle.chains.proofs.Words.{extent, Result, Break, Ok, Err, broken}
use Rattle.formula.proofs.Parts.{onward, onward_drop, onward_length}
use Rattle.formula.proofs.Parsing.{answer_good, answer_bad, past_after}
use Rattle.formula.proofs.Walk.{never}
use Rattle.chains.proofs.Going.{Chain, fault, last, leads, chain_read}
use Rattle.chains.proofs.Answering.{past_zero, past_past}
use Rattle.chains.proofs.Extents.{unit_within}

-- a chain goes on in one way
one_way : {unit : List ℕ → Parsed} {join : ℕ} {wrap wrap' : Formula → Formula} {text : List ℕ} {ts ts' : List (List ℕ)} {p p' : Parsed}
    → Chain unit join wrap text ts p → Chain unit join wrap' text ts' p' → (ts ≡ ts') × (read_of p ≡ read_of p')
one_way (fault e) (fault e') = (refl, cc)
one_way (fault e) (last e' g') = let z : ◌≡◌ {A = ℕ} 0 1 = cc in absurd (omega arith)
one_way (fault e) (leads e' d' g' m') = let z : ◌≡◌ {A = ℕ} 0 1 = cc in absurd (omega arith)
one_way (last e g) (fault e') = let z : ◌≡◌ {A = ℕ} 0 1 = cc in absurd (omega arith)
one_way (last e g) (last e' g') = (refl, cc)
one_way (last {used = used} e g) (leads {used = used'} e' d' g' m') =
    let same : used ≡ used' = cc in
    never (sym (rw (same, d') at g) ∙ g')
one_way (leads e d g m) (fault e') = let z : ◌≡◌ {A = ℕ} 0 1 = cc in absurd (omega arith)
one_way (leads {used = used} e d g m) (last {used = used'} e' g') =
    let same : used' ≡ used = cc in
    never (sym (rw (same, d) at g') ∙ g)
one_way (leads {used = used} {c = c} {text = text} {rest = r} {p = p} e d g m) (leads {used = used'} {c = c'} {rest = r'} {p = p'} e' d' g' m') =
    let same : used' ≡ used = cc in
    let there : c' ∷ r' ≡ c ∷ r = sym d' ∙ rw same d in
    let mark : c' ≡ c = cc in
    let left : r' ≡ r = cc in
    let same_rest = one_way m (rw (mark, left) at m') in (
      ap (λ (l : List (List ℕ)). text ∷ l) same_rest.0,
      rw same (sym (past_after (used + 1) (λ g. g) p) ∙ ap (past (used + 1)) same_rest.1 ∙ past_after (used + 1) (λ g. g) p'),
    )

module _ (unit : List ℕ → Parsed) where
  -- what is read from here on, where `join` is what joins the units so far
  abbrev pub from : ℕ → List ℕ → Result ℕ Break
  from join text = read_of (more unit (suc (length text)) join (λ f. f) text)

  reads : (join : ℕ) (text : List ℕ) {wrap : Formula → Formula} {ts : List (List ℕ)} {p : Parsed} → Chain unit join wrap text ts p
      → (starts unit (suc (length text)) join text ≡ ts) × (from join text ≡ read_of p)
  reads join text m = one_way (chain_read unit (suc (length text)) join (λ f. f) text (omega arith)) m

-- ---- the same at a place of the whole text, from the answer of the unit there

-- what is read from place `at` on, as the whole's answer
abbrev pub from_at_lem : ℕ → List ℕ → (at join : ℕ) → Result ℕ Break
from_at_lem b text at join = past at (from (λ l. unit_at b l) join (drop at text))

pub chain_starts : (b : ℕ) (text : List ℕ) → read_of (chain_at b text) ≡ from_at_lem b text 0 0
chain_starts b text = past_zero (read_of (chain_at b text))

-- the answer of the unit at place `at`, where `join` is what joins the units before it
pub record UnitRead (b : ℕ) (text : List ℕ) (at join : ℕ) (answer : Result ℕ Break) : Type 0 where
  pub inside : at ≤ length text
  pub read : answer ≡ read_of (unit_at b (onward at text))

module _ {b : ℕ} {text : List ℕ} {at join : ℕ} {answer : Result ℕ Break} (u : UnitRead b text at join answer) where
  there : read_of (unit_at b (drop at text)) ≡ answer
  there = ap (λ l. read_of (unit_at b l)) (sym (onward_drop at text)) ∙ sym u.read

  pub seen : at + extent answer ≤ length text
  seen = omega (arith, u.inside, ap extent u.read, unit_within b (onward at text), onward_length at text)

  -- where the units from there on start, and what is read
  abbrev Tells : List (List ℕ) → Result ℕ Break → Type 0
  Tells ts a = (starts_at b join (drop at text) ≡ drop at text ∷ ts) × (from_at_lem b text at join ≡ a)

  pub chain_fault : {b : Break} → answer ≡ Err b → Tells [] (broken b.why (at + b.place))
  chain_fault r =
      let e = answer_bad (unit_at b (drop at text)) (there ∙ r) in
      let h = reads (λ l. unit_at b l) join (drop at text) (fault {join = join} {wrap = λ f. f} e) in
      (h.0, ap (past at) h.1)

  module _ {count : ℕ} (r : answer ≡ Ok count) where
    unit_good : (f : Formula) × (unit_at b (drop at text) ≡ good f count)
    unit_good = answer_good (unit_at b (drop at text)) (there ∙ r)

    pub used_within : at + count ≤ length text
    used_within = omega (arith, ap extent r, seen)

    pub chain_stops : goes_on join (get_or text (at + count) 0) ≡ false → Tells [] (Ok (at + count))
    chain_stops e =
        let here : get_or (drop count (drop at text)) 0 0 ≡ get_or text (at + count) 0 = rw (get_or-drop, get_or-drop, add-zero) in
        let m = last {join = join} {wrap = λ f. f} unit_good.1 (ap (goes_on join) here ∙ e) in
        let h = reads (λ l. unit_at b l) join (drop at text) m in
        (h.0, ap (past at) h.1)

    pub chain_ends : at + count ≡ length text → Tells [] (Ok (at + count))
    chain_ends e = chain_stops (ap (goes_on join) (list_get_or_eq_default text 0 {n = at + count} (omega arith)))

    pub chain_goes : at + count < length text → goes_on join (get_or text (at + count) 0) ≡ true
        → let c = get_or text (at + count) 0 in let next = at + count + 1 in Tells (starts_at b c (drop next text)) (from_at_lem b text next c)
    chain_goes l e =
        let unit : List ℕ → Parsed = λ l. unit_at b l in
        let c = get_or text (at + count) 0 in
        let rest = drop (at + count + 1) text in
        let wrap = joined_by c unit_good.0 in
        let d : drop count (drop at text) ≡ c ∷ rest = rw (drop-drop count at text, add-one (at + count), drop-cons text (at + count) 0 l) in
        let m = chain_read unit (suc (length rest)) c wrap rest (omega arith) in
        let h = reads unit join (drop at text) (leads {join = join} {wrap = λ f. f} unit_good.1 d e m) in
        let after-unit = sym (past_after (count + 1) (λ g. g) (more unit (suc (length rest)) c wrap rest)) in (
          h.0,
          ap (past at) (h.1 ∙ after-unit ∙ ap (past (count + 1)) (sym (reads unit c rest m).1))
              ∙ past_past at (count + 1) (at + count + 1) (from unit c rest) (omega arith),
        )
