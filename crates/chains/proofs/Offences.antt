-- The place that a refusal tells is that of the first byte which no text of the form can have there; and a text of the form is read to its end.
use Rattle.meaning.proofs.Kit.{◌≡◌, ◌∙◌, sym, ap, List, ◌++◌, ◌≤◌, ℕ, ◌<◌, arith, length, take}
use Rattle.chains.proofs.Words.{read_of, chain_at, most_open, whole_text}
use Rattle.chains.specs.Promises.{IsFront, FirstOffence, AllRead}
use Rattle.formula.proofs.Parsing.{answer_good}
use Rattle.chains.proofs.Whole.{alone_all}
use Rattle.chains.proofs.Steps.{Met, met, met_within, front, again}
use Rattle.chains.proofs.Stepwise.{start, whole_steps}

pub all_read : AllRead
unfolding whole_text
all_read text f used e = (alone_all (chain_at most_open text) (length text) e).1

module _ (text : List ℕ) {at : ℕ} (m : Met start text at) (n : ℕ) where
  reaches : n ≤ at → IsFront (take n text)
  reaches h =
      let r = front n h m in
      let whole = take n text ++ r.0 in
      let read = answer_good (whole_text whole) (sym (whole_steps whole) ∙ r.1.all) in
      (r.0, read.0, read.1)

  no_further : n ≤ length text → IsFront (take n text) → n ≤ at
  no_further within (rest, f, says) =
      let twice : at < n → ◌≡◌ {A = ℕ} 0 1 = λ far.
      (let e = sym (again n rest far within m) ∙ whole_steps (take n text ++ rest) ∙ ap read_of says in cc) in
      let no : at < n → ⊥ = λ far. (let z = twice far in omega arith) in
      omega (arith, no)

pub first_offence : FirstOffence
first_offence text why at e =
    let r = met start text (whole_steps text ∙ ap read_of e) in
    (r.0, record { within = met_within r.1; fronts = λ n within. (no_further text r.1 n within, reaches text r.1 n) })
