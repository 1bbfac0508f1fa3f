-- Laws of the whole text: nothing may follow its chain.
use Rattle.meaning.proofs.Kit.{◌≡◌, ◌∙◌, sym, ap, refl, arith, ◌≤◌, ◌<◌, true, false, Bool, cond, List, ℕ, eqb, length, ne_eqb, eq-eqb, eqb-true}
use Rattle.chains.proofs.Words.{Formula, Refusal, BadText, chain_at, most_open, alone, whole_text, Parsed, good, bad, read_of, is_good, used_of}
use Rattle.chains.proofs.Extents.{chain_within}
use Rattle.chains.proofs.Words.{extent, Result, Break, Ok, Err, broken}
use Rattle.formula.proofs.Parsing.{answer_good, answer_bad}
use Rattle.formula.proofs.Walk.{never}

module _ (text : List ℕ) {answer : Result ℕ Break} (read : answer ≡ read_of (chain_at most_open text)) where
  pub whole_used : {count : ℕ} → answer ≡ Ok count → length text ≤ count → Ok count ≡ read_of (whole_text text)
  unfolding whole_text
  whole_used {count} r h = rw ((answer_good (chain_at most_open text) (sym read ∙ r)).1, eq-eqb count (length text) (omega (arith, ap extent r, ap extent read, chain_within most_open text)))

  pub whole_more : {count : ℕ} → answer ≡ Ok count → count < length text → broken BadText count ≡ read_of (whole_text text)
  unfolding whole_text
  whole_more {count} r h = rw ((answer_good (chain_at most_open text) (sym read ∙ r)).1, ne_eqb count (length text) (λ e. omega arith))

  pub whole_bad : {at : Break} → answer ≡ Err at → Err at ≡ read_of (whole_text text)
  unfolding whole_text
  whole_bad r = rw (answer_bad (chain_at most_open text) (sym read ∙ r))

-- a whole that says a formula is a chain that does, to the end
pub alone_all : (p : Parsed) (n : ℕ) {f : Formula} {used : ℕ} → alone n p ≡ good f used → (p ≡ good f used) × (used ≡ n)
alone_all (good g count) n {f} {used} e = by (eqb count n) refl e
  where
    by : (b : Bool) → eqb count n ≡ b → cond b (good g count) (bad BadText count) ≡ good f used → (good g count ≡ good f used) × (used ≡ n)
    by true q r = let same : used ≡ count = sym (ap used_of r) in (r, same ∙ eqb-true count n q)
    by false q r = never (ap is_good r)
alone_all (bad why at) n e = never (ap is_good e)
